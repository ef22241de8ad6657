-- A number in decimal digits: no leading zero, and 0 itself is one digit.
use Rattle.std.specs.Prelude.{ℕ, zero, suc, ◌+◌, ◌/◌, ◌%◌, List, [], ◌∷◌, ◌++◌, cond, ltb}

-- the digits of n, of which `room` may stand
unfoldable pub digits : ℕ → ℕ → List ℕ
digits zero n = []
digits (suc room) n = cond (ltb n 10) ((48 + n) ∷ []) (digits room (n / 10) ++ (48 + n % 10) ∷ [])

-- 20 digits hold every number of 64 bits.
abbrev pub decimal : ℕ → List ℕ
decimal n = digits 20 n

-- the four digits of a number below 10,000, leading zeros with them
abbrev pub four_digits : ℕ → List ℕ
four_digits n = (48 + n / 1000) ∷ (48 + n / 100 % 10) ∷ (48 + n / 10 % 10) ∷ (48 + n % 10) ∷ []
