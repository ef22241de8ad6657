-- Opening a frame (document 01, "Frame and sub-frame" and refusals 1 to 8): one information field of 1 to 1,600 octets,
-- holding 1 to 64 sub-frames. "Order: 1, 2, then per sub-frame 8, 3, 4, 5, 6, 7."
use Rattle.std.specs.Prelude.{ℕ, zero, suc, ◌-◌, ◌≡◌, List, [], ◌∷◌, ◌++◌, Bool, cond, ◌&&◌, ltb, leb, eqb, length, replicate, Option, Some, None, Result, Ok, Err}
use Rattle.std.specs.Option.{option_map_or}
use Rattle.refusal.specs.declared.Refusal.{Refusal}
use Rattle.refusal.specs.declared.Refusal.TheVariants.{FieldEmpty, FieldTooLong, TooManySubFrames}
use Rattle.refusal.specs.Numbers.{sound, number}
use Rattle.refusal.specs.Order.{◌gives◌, in_order}
use Rattle.header.specs.declared.SubFrame.{SubFrame}
use Rattle.frame.specs.declared.Opened.{Opened}
use Rattle.frame.specs.declared.Checked.{Checked}
use Rattle.frame.specs.declared.Refused.{Refused}
use Rattle.header.specs.Header.{header_at, end_of}
pub use Rattle.header.specs.Header.{unused}

abbrev pub most_octets : ℕ
most_octets = 1600

abbrev pub most_sub_frames : ℕ
most_sub_frames = 64

-- a field of n octets that neither 1 nor 2 refuses
abbrev pub field_fits : ℕ → Bool
field_fits n = ltb 0 n && leb n most_octets

-- What a scan of the headers tells: the refusal, if there is one, and the place of the offending sub-frame's first octet (0 for 1
-- and 2), or the end of the field; and the sub-frames before that place, in order.
pub record Opening : Type 0 where
  pub refused : Option Refusal
  pub at : ℕ
  pub subs : List SubFrame

-- the number of the refusal, 0 where there is none
abbrev pub number_in : Opening → ℕ
number_in o = option_map_or number o.refused sound

-- It is 0 only where nothing is refused. Proved in proofs/Numbered.antt.
abbrev pub NumberTells : Type 0
NumberTells = (o : Opening) → number_in o ≡ sound → o.refused ≡ None

abbrev pub stopped : Option Refusal → ℕ → Opening
stopped refused at = record { refused = refused; at = at; subs = [] }

-- a sub-frame, before what follows it
abbrev pub before : SubFrame → Opening → Opening
before sub rest = record { refused = rest.refused; at = rest.at; subs = sub ∷ rest.subs }

abbrev pub end_of_header : Result (Option SubFrame) Refusal → ℕ
end_of_header (Ok (Some sub)) = end_of sub
end_of_header (Ok None) = 0
end_of_header (Err refusal) = 0

-- a header at a place, and what follows it. A scan begins no header past the end: 7 comes before that.
abbrev pub onwards : Result (Option SubFrame) Refusal → ℕ → Opening → Opening
onwards (Ok (Some sub)) at rest = before sub (cond sub.last (stopped None (end_of sub)) rest)
onwards (Ok None) at rest = stopped None at
onwards (Err refusal) at rest = stopped (Some refusal) at

-- the sub-frames of s from a place on, of which `room` may begin
unfoldable pub scan : ℕ → List ℕ → ℕ → Opening
scan zero s at = stopped (Some TooManySubFrames) at
scan (suc room) s at = onwards (header_at s at) at (scan room s (end_of_header (header_at s at)))

-- the whole field: 1, then 2, then the sub-frames
unfoldable pub scanned : List ℕ → Opening
scanned s =
    in_order (eqb (length s) 0 gives FieldEmpty ∷ ltb most_octets (length s) gives FieldTooLong ∷ [])
    (λ refusal. stopped (Some refusal) 0)
    (scan most_sub_frames s 0)

-- "1 to 8 refuse the whole frame: number, offset .., no sub-frame."
abbrev pub all_or_none : Opening → Opening
all_or_none o = option_map_or (λ refusal. stopped (Some refusal) o.at) o.refused o

unfoldable pub opening : List ℕ → Opening
opening s = all_or_none (scanned s)

-- the answer of the code where nothing is refused, and else the refusal, its place and how many sub-frames stand before it
abbrev pub unless_refused : {A : Type 0} → Opening → A → Result A Refused
unless_refused o sound =
    option_map_or (λ refusal. Err (record { refusal = refusal; at = o.at; count = length o.subs })) o.refused (Ok sound)

-- a scan without the list of its sub-frames: how many
abbrev pub checked : Opening → Result Checked Refused
checked o = unless_refused o (record { at = o.at; count = length o.subs })

-- with the list: the sub-frames stand in 64 places
abbrev pub answer : Opening → Result Opened Refused
answer o =
    unless_refused o
    (record {
      at = o.at;
      count = length o.subs;
      subs = o.subs ++ replicate (most_sub_frames - length o.subs) unused;
    })
