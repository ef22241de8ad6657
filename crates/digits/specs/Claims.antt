-- Digits payloads written and read (demand 2). Proved in proofs/LayoutBack.antt.
use Rattle.std.specs.Prelude.{ℕ, ◌≡◌, List, [], ◌∷◌, ◌++◌, cond, length, ℤ, pos, negsuc, Ok}
use Rattle.octets.specs.Octets.{Octets}
use Rattle.octets.specs.Made.{made}
use Rattle.digits.specs.declared.layout.Window.{Window}
use Rattle.digits.specs.declared.layout.Digits.{Digits}
use Rattle.digits.specs.Layout.{is_on, sequence_in, level_in, in_current, in_recent, in_previous, digits_read, digits_made}

-- "save that a level above zero and the code of an off window come back as 0"
abbrev pub normal_level : ℤ → ℤ
normal_level (pos n) = pos 0
normal_level (negsuc n) = negsuc n

abbrev pub normal_window : Window → Window
normal_window w = record { on = w.on; edge = w.edge; code = cond w.on w.code 0 }

abbrev pub normal : Digits → Digits
normal d =
    record {
      sequence = d.sequence;
      level = normal_level d.level;
      current = normal_window d.current;
      recent = normal_window d.recent;
      previous = normal_window d.previous;
    }

-- What is made reads back, but for those two.
abbrev pub DigitsReadBack : Type 0
DigitsReadBack = (d : Digits) (octets : List ℕ) → digits_made d ≡ made octets → digits_read octets ≡ Ok (normal d)

-- the octets of a payload, without the code of an off window, which reading ignores
abbrev pub heard : ℕ → ℕ → List ℕ
heard first second = first ∷ cond (is_on first) second 0 ∷ []

abbrev pub unheard : List ℕ → List ℕ
unheard p = sequence_in p ∷ level_in p ∷ (in_current heard p ++ (in_recent heard p ++ in_previous heard p))

-- What is read is in its normal form, and is made again, to the octet but for the code of an off window.
abbrev pub DigitsMadeAgain : Type 0
DigitsMadeAgain =
    (d : Digits) (octets : List ℕ)
    → Octets octets
    → digits_read octets ≡ Ok d
    → (normal d ≡ d) × (digits_made d ≡ made (unheard octets))

-- Those octets are as many, and read the same.
abbrev pub DigitsReadAlike : Type 0
DigitsReadAlike =
    (d : Digits) (octets : List ℕ)
    → Octets octets
    → digits_read octets ≡ Ok d
    → (length (unheard octets) ≡ length octets) × (digits_read (unheard octets) ≡ Ok d)
