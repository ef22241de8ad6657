-- What the private functions of this crate promise to one another. A reader of what is handed can pass this file over.
use Rattle.std.specs.Prelude.{ℕ, List, Option, Result, Ok, Err}
use Rattle.std.specs.Option.{option_map_or}
use Rattle.refusal.specs.declared.Refusal.{Refusal}
use Rattle.header.specs.declared.SubFrame.{SubFrame}
use Rattle.frame.specs.Opening.{Opening}
use Rattle.record.specs.declared.syntax.Record.{Record}
use Rattle.card.specs.declared.handing.Handed.{Handed}
use Rattle.card.specs.declared.handing.Handed.TheVariants.{FromFrame}
use Rattle.card.specs.Handing.{first_of}

-- the frame's own refusal, or what a sound frame gives
abbrev pub own_first : Opening → Result Handed Refusal → Result Handed Refusal
own_first o h = option_map_or Err o.refused h

-- the first payload that serves, among the sub-frames of a scan
abbrev pub first_in : Option Record → ℕ → List ℕ → Opening → Result Handed Refusal
first_in found cid s o = own_first o (Ok (first_of found cid s o.subs))

-- a payload that serves, with what the scan behind it tells
abbrev pub behind : SubFrame → Opening → Result Handed Refusal
behind sub rest = own_first rest (Ok (FromFrame sub.start sub.len))
