-- What the private functions of this crate promise to one another. A reader of headers can pass this file over.
use Rattle.std.specs.Prelude.{ℕ, [], ◌∷◌, ltb, Result, Ok, Err}
use Rattle.refusal.specs.Order.{◌gives◌, in_order}
use Rattle.header.specs.declared.SubFrame.{SubFrame}
use Rattle.header.specs.Header.{spare}
use Rattle.refusal.specs.declared.Refusal.{Refusal}
use Rattle.refusal.specs.declared.Refusal.TheVariants.{CidReserved, SpareBitSet}

-- A sub-frame, unless a reserved CID or a spare bit refuses it.
abbrev pub unless_reserved : ℕ → SubFrame → Result SubFrame Refusal
unless_reserved octet1a sub = in_order (ltb sub.cid 4 gives CidReserved ∷ ltb 0 (spare octet1a) gives SpareBitSet ∷ []) Err (Ok sub)
