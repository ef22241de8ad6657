-- A line after the provisioning text (document 01, "Listing program"): "Over 3,200 characters after it: 2 at 0; then an odd
-- count, another character, a missing LF or a later line that starts otherwise: 9 at 0."
use Rattle.std.specs.Prelude.{ℕ, ◌-◌, ◌%◌, Bool, false, cond, not, List, [], ◌∷◌, length, take, drop, ◌==◌, nat_lt, slice_index, Result, Ok, Err}
use Rattle.refusal.specs.Order.{◌gives◌, in_order, ◌or◌}
use Rattle.octets.specs.Text.{ascii, lf, starts}
use Rattle.hexline.specs.Hex.{any_other, paired}
use Rattle.refusal.specs.declared.Refusal.{Refusal}
use Rattle.refusal.specs.declared.Refusal.TheVariants.{FieldTooLong, HexMalformed, RoomTooSmall}

-- What a line holds: the octets of a frame, or a refusal.
pub data Held : Type 0 where
  octets : List ℕ → Held
  refused : Refusal → Held

abbrev pub frame_key : List ℕ
frame_key = ascii "frame="

abbrev pub most_characters : ℕ
most_characters = 3200

-- whether it starts otherwise, and whether its LF is missing
abbrev pub otherwise : List ℕ → Bool
otherwise line = not (starts line frame_key)

abbrev pub unended : List ℕ → Bool
unended line = not (slice_index line (length line - 1) == lf)

-- the characters after `frame=`, without the LF
abbrev pub count : List ℕ → ℕ
count line = length line - length frame_key - cond (unended line) 0 1

abbrev pub characters : List ℕ → List ℕ
characters line = take (count line) (drop (length frame_key) line)

abbrev pub too_many : List ℕ → Bool
too_many line = cond (otherwise line) false (nat_lt most_characters (count line))

abbrev pub odd : ℕ → Bool
odd n = n % 2 == 1

-- A line with its LF, where that is there.
unfoldable pub line_read : List ℕ → Held
line_read line =
    in_order
    (too_many line gives FieldTooLong
    ∷ odd (count line) or any_other (characters line) or unended line or otherwise line gives HexMalformed
    ∷ [])
    refused
    (octets (paired (characters line)))

-- The same in lent room for so many octets: 21 exactly when they exceed it.
abbrev pub in_room : ℕ → Held → Held
in_room room (octets s) = cond (nat_lt room (length s)) (refused RoomTooSmall) (octets s)
in_room room (refused refusal) = refused refusal

-- the answer of the code, and the octets that it stands for
abbrev pub read_of : Held → Result ℕ Refusal
read_of (octets s) = Ok (length s)
read_of (refused refusal) = Err refusal

abbrev pub octets_of : Held → List ℕ
octets_of (octets s) = s
octets_of (refused refusal) = []
