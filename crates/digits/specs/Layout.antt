-- Digits payloads (document 01, "Payload types": digits; FRF.11, Figure A-1). Eight octets:
--
--   0         sequence
--   1         000 and the level
--   2, 3      current window: type (3 bits) and edge (5), then 000 and code (5)
--   4, 5      recent window
--   6, 7      previous window
use Rattle.std.specs.Prelude.{ℕ, ◌+◌, ◌/◌, ◌%◌, List, [], ◌∷◌, ◌++◌, Bool, true, false, not, cond, ltb, eqb, length, get_or, Result, Ok, Err}
use Rattle.refusal.specs.declared.Refusal.{Refusal}
use Rattle.refusal.specs.declared.Refusal.TheVariants.{LengthWrong, ReservedCode, ValueOutOfRange}
use Rattle.refusal.specs.Order.{◌gives◌, in_order, ◌or◌}
use Rattle.octets.specs.Made.{Made, made, unmade}
use Rattle.levels.specs.declared.Beyond.{Beyond}
use Rattle.levels.specs.declared.Beyond.TheVariants.{Above, Below}
use Rattle.levels.specs.Level.{level_of, code_of}
use Rattle.digits.specs.declared.layout.Window.{Window}
use Rattle.digits.specs.declared.layout.Digits.{Digits}

-- An off period without an edge: the start state, and what an unused place holds.
abbrev pub off_window : Window
off_window = record { on = false; edge = 0; code = 0 }

-- ---- Reading

-- "type (3 bits) and edge (5), then 000 and code (5)"; type 1 is on. "The code of an off window is ignored".
abbrev pub is_on : ℕ → Bool
is_on first = eqb (first / 32) 1

abbrev pub window_of : ℕ → ℕ → Window
window_of first second = record { on = is_on first; edge = first % 32; code = cond (is_on first) (second % 32) 0 }

-- the three zero bits before the level and before a code
abbrev pub spare_set : ℕ → Bool
spare_set octet = ltb 0 (octet / 32)

-- "Type 0 off, 1 on, others 14."
abbrev pub window_reserved : ℕ → ℕ → Bool
window_reserved first second = ltb 1 (first / 32) or spare_set second

-- The fields of a payload; of a window, what its two octets tell.
abbrev pub sequence_in : List ℕ → ℕ
sequence_in p = get_or p 0 0

abbrev pub level_in : List ℕ → ℕ
level_in p = get_or p 1 0

abbrev pub in_current : {A : Type 0} → (ℕ → ℕ → A) → List ℕ → A
in_current tells p = tells (get_or p 2 0) (get_or p 3 0)

abbrev pub in_recent : {A : Type 0} → (ℕ → ℕ → A) → List ℕ → A
in_recent tells p = tells (get_or p 4 0) (get_or p 5 0)

abbrev pub in_previous : {A : Type 0} → (ℕ → ℕ → A) → List ℕ → A
in_previous tells p = tells (get_or p 6 0) (get_or p 7 0)

abbrev pub any_reserved : List ℕ → Bool
any_reserved p = spare_set (level_in p) or in_current window_reserved p or in_recent window_reserved p or in_previous window_reserved p

abbrev pub digits_in : List ℕ → Digits
digits_in p =
    record {
      sequence = record { 0 = sequence_in p };
      level = level_of (level_in p);
      current = in_current window_of p;
      recent = in_recent window_of p;
      previous = in_previous window_of p;
    }

-- "Edge 0 to 19, code 0 to 15 when on, else 15."
abbrev pub window_wrong : Window → Bool
window_wrong w = ltb 19 w.edge or cond w.on (ltb 15 w.code) false

abbrev pub windows_wrong : Digits → Bool
windows_wrong d = window_wrong d.current or window_wrong d.recent or window_wrong d.previous

-- Every 14 comes before any 15.
unfoldable pub digits_read : List ℕ → Result Digits Refusal
digits_read p =
    in_order
    (not (eqb (length p) 8) gives LengthWrong
    ∷ any_reserved p gives ReservedCode
    ∷ windows_wrong (digits_in p) gives ValueOutOfRange
    ∷ [])
    Err
    (Ok (digits_in p))

-- ---- Writing

-- "The code of an off window is .. written 0."
abbrev pub type_and_edge : Window → ℕ
type_and_edge w = cond w.on (32 + w.edge) w.edge

abbrev pub code_when_on : Window → ℕ
code_when_on w = cond w.on w.code 0

abbrev pub window_octets : Window → List ℕ
window_octets w = type_and_edge w ∷ code_when_on w ∷ []

-- "above zero is coded 0, 0 to -31 as its magnitude, below -31 gets 15"
abbrev pub level_code : Result ℕ Beyond → ℕ
level_code (Ok magnitude) = magnitude
level_code (Err Above) = 0
level_code (Err Below) = 0

abbrev pub level_low : Result ℕ Beyond → Bool
level_low (Ok magnitude) = false
level_low (Err Above) = false
level_low (Err Below) = true

abbrev pub digits_octets : Digits → List ℕ
digits_octets d =
    d.sequence.0
    ∷ level_code (code_of 31 d.level)
    ∷ (window_octets d.current ++ (window_octets d.recent ++ window_octets d.previous))

unfoldable pub digits_made : Digits → Made
digits_made d =
    in_order
    (level_low (code_of 31 d.level) gives ValueOutOfRange
    ∷ windows_wrong d gives ValueOutOfRange
    ∷ [])
    unmade
    (made (digits_octets d))
