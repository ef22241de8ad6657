-- The printed digits tell the number.
use Prim.Native.Nat.{ℕ, zero, suc, ◌+◌, ◌-◌, ◌*◌, ◌/◌, ◌%◌, ◌<◌, ◌≤◌}
use mathlib.Core.Path.{◌≡◌, refl, ◌∙◌}
use mathlib.Core.List.{List, [], ◌∷◌, ◌++◌}
use mathlib.Core.Logic.{⊎_elim}
use native.Mathlib.Omega.{arith}
use borrow.Author.Tests.{lt-ltb, le-ltb}
use Rattle.octets.proofs.Order.{lt-or-le}
use Rattle.printing.specs.Decimal.{digits}
use Rattle.printing.specs.Claims.{value_of, DigitsTell}
use Rattle.printing.proofs.Spelling.{beyond}

value-append : (before : ℕ) (xs ys : List ℕ) → value_of before (xs ++ ys) ≡ value_of (value_of before xs) ys
value-append before [] ys = refl
value-append before (x ∷ xs) ys = value-append (before * 10 + (x - 48)) xs ys

one_more : (room n : ℕ) → value_of 0 (digits room (n / 10)) ≡ n / 10 → value_of 0 (digits (suc room) n) ≡ n
unfolding digits
one_more room n rest =
    ⊎_elim (λ (l : n < 10). simp (lt-ltb n 10 l) (omega arith))
    (λ (m : 10 ≤ n). simp (le-ltb n 10 m) (value-append 0 (digits room (n / 10)) ((48 + n % 10) ∷ []) ∙ rw rest (omega arith)))
    (lt-or-le n 10)

tell : (room n : ℕ) → n < beyond room → value_of 0 (digits room n) ≡ n
unfolding digits
tell zero n h = omega arith
tell (suc room) n h = one_more room n (tell room (n / 10) (omega arith))

pub digits-tell : DigitsTell
digits-tell n h = tell 20 n (omega arith)
