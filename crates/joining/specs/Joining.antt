-- Writing headers, and joining sub-frames into a frame (document 01, "Frame and sub-frame"). "Shortest form speaks of headers
-- alone": what is joined is a CID, a payload type and the payload's octets, whatever they mean.
use Rattle.std.specs.Prelude.{ℕ, ◌+◌, ◌*◌, ◌/◌, ◌%◌, List, [], ◌∷◌, ◌++◌, Bool, true, false, cond, ltb, eqb, length, Result, Ok, Err}
use Rattle.refusal.specs.Order.{◌gives◌, in_order}
use Rattle.refusal.specs.declared.Refusal.{Refusal}
use Rattle.refusal.specs.declared.Refusal.TheVariants.{CidReserved, ValueOutOfRange, RoomTooSmall}

-- "Writing sets EI only when CID exceeds 63 or the type is not 0."
abbrev pub ei_for : ℕ → ℕ → ℕ
ei_for cid ptype = cond (ltb 63 cid) 1 (cond (eqb ptype 0) 0 1)

-- "LI is 1 on all sub-frames but the last."
abbrev pub li_for : Bool → ℕ
li_for last = cond last 0 1

-- A header with a given EI: octet 1, then 1a exactly when EI is 1, then 1b exactly when LI is 1.
abbrev pub header_with : ℕ → ℕ → ℕ → Bool → ℕ → List ℕ
header_with ei cid ptype last len =
    (ei * 128 + li_for last * 64 + cid % 64)
    ∷ (cond (eqb ei 0) [] ((cid / 64 * 64 + ptype) ∷ []) ++ cond last [] (len ∷ []))

-- The header in its shortest form.
unfoldable pub shortest_header : ℕ → ℕ → Bool → ℕ → List ℕ
shortest_header cid ptype last len = header_with (ei_for cid ptype) cid ptype last len

-- the octets of it
unfoldable pub header_size : ℕ → ℕ → Bool → ℕ
header_size cid ptype last = 1 + ei_for cid ptype + li_for last

-- A sub-frame as it is joined.
pub record Member : Type 0 where
  pub cid : ℕ
  pub ptype : ℕ
  pub payload : List ℕ

abbrev pub is_none : List Member → Bool
is_none [] = true
is_none (c ∷ cs) = false

-- The frame that holds these sub-frames, in order, each header in its shortest form.
unfoldable pub joined : List Member → List ℕ
joined [] = []
joined (c ∷ cs) = shortest_header c.cid c.ptype (is_none cs) (length c.payload) ++ c.payload ++ joined cs

-- What writing a header at a place of lent room answers, with `left` octets from there on: the place after it, or 4, 15 for a
-- type beyond its four bits, or 21 for the header alone.
unfoldable pub header_put : ℕ → ℕ → ℕ → ℕ → Bool → Result ℕ Refusal
header_put left at cid ptype last =
    in_order
    (ltb cid 4 gives CidReserved
    ∷ ltb 15 ptype gives ValueOutOfRange
    ∷ ltb left (header_size cid ptype last) gives RoomTooSmall
    ∷ [])
    Err
    (Ok (at + header_size cid ptype last))
