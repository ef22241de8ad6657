-- The printed digits tell the number. Proved in proofs/Digits.antt.
use Rattle.std.specs.Prelude.{ℕ, ◌+◌, ◌-◌, ◌*◌, ◌<◌, ◌≡◌, List, [], ◌∷◌}
use Rattle.printing.specs.Decimal.{decimal}

-- what decimal digits say, after others that say `before`
abbrev pub value_of : ℕ → List ℕ → ℕ
value_of before [] = before
value_of before (d ∷ ds) = value_of (before * 10 + (d - 48)) ds

abbrev pub DigitsTell : Type 0
DigitsTell = (n : ℕ) → n < 18446744073709551616 → value_of 0 (decimal n) ≡ n
