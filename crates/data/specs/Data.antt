-- Data payloads (document 01, "Payload types": data; FRF.11, Figure C-1).
--
--                     bit 8   7   6   5   4   3   2   1
--   first octet           B   E   0   sequence, its high five bits
--   second octet          sequence, its low eight bits
--   body                  at least one octet
use Rattle.std.specs.Prelude.{ℕ, ◌+◌, ◌*◌, ◌/◌, ◌%◌, List, [], ◌∷◌, ◌++◌, Bool, cond, ltb, eqb, length, get_or, Result, Ok, Err}
use Rattle.refusal.specs.Order.{◌gives◌, in_order}
use Rattle.refusal.specs.declared.Refusal.{Refusal}
use Rattle.refusal.specs.declared.Refusal.TheVariants.{LengthWrong, ReservedCode, ValueOutOfRange}
use Rattle.octets.specs.Made.{Made, made, unmade}
use Rattle.counts.specs.declared.DataCount.{DataCount}
use Rattle.data.specs.declared.Fragment.{Fragment}

-- ---- Reading: the fields of a payload

abbrev pub begins_in : List ℕ → Bool
begins_in p = eqb (get_or p 0 0 / 128) 1

abbrev pub ends_in : List ℕ → Bool
ends_in p = eqb (get_or p 0 0 / 64 % 2) 1

abbrev pub third_bit : List ℕ → Bool
third_bit p = eqb (get_or p 0 0 / 32 % 2) 1

abbrev pub sequence_in : List ℕ → DataCount
sequence_in p = record { 0 = get_or p 0 0 % 32 * 256 + get_or p 1 0 }

abbrev pub fragment_in : List ℕ → Fragment
fragment_in p = record { begins = begins_in p; ends = ends_in p; sequence = sequence_in p }

-- "then at least one octet. The third bit set: 14."
unfoldable pub data_read : List ℕ → Result Fragment Refusal
data_read p =
    in_order
    (ltb (length p) 3 gives LengthWrong
    ∷ third_bit p gives ReservedCode
    ∷ [])
    Err
    (Ok (fragment_in p))

-- ---- Writing

abbrev pub first_octet : Bool → Bool → ℕ → ℕ
first_octet begins ends sequence = cond begins 128 0 + cond ends 64 0 + sequence / 256

abbrev pub second_octet : ℕ → ℕ
second_octet sequence = sequence % 256

-- the two octets before the body
abbrev pub front : Bool → Bool → ℕ → List ℕ
front begins ends sequence = first_octet begins ends sequence ∷ second_octet sequence ∷ []

-- "a sequence .. beyond its bits gets 15"
unfoldable pub data_made : Bool → Bool → ℕ → List ℕ → Made
data_made begins ends sequence body =
    in_order
    (eqb (length body) 0 gives LengthWrong
    ∷ ltb 8191 sequence gives ValueOutOfRange
    ∷ [])
    unmade
    (made (front begins ends sequence ++ body))
