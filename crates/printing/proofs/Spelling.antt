-- The digits of a number, four at a time.
use Prim.Native.Nat.{ℕ, zero, suc, ◌+◌, ◌*◌, ◌/◌, ◌%◌, ◌<◌, ◌≤◌}
use mathlib.Core.Path.{◌≡◌, sym, ap, ◌∙◌}
use mathlib.Core.List.{List, [], ◌∷◌, ◌++◌}
use native.Mathlib.Omega.{arith}
use borrow.Author.Tests.{lt-ltb, le-ltb}
use lib.ListN.{length, length-append}
use lib.Seq.{append_snoc}
use mathlib.Core.Logic.{⊎_elim}
use Rattle.octets.proofs.Order.{lt-or-le}
use Rattle.printing.specs.Decimal.{digits, decimal, four_digits}

last : (room n : ℕ) → n < 10 → digits (suc room) n ≡ (48 + n) ∷ []
unfolding digits
last room n h = simp (lt-ltb n 10 h)

before : (room n : ℕ) → 10 ≤ n → digits (suc room) n ≡ digits room (n / 10) ++ (48 + n % 10) ∷ []
unfolding digits
before room n h = simp (le-ltb n 10 h)

-- the numbers below 10,000
module _ (n : ℕ) where
  pub one-digit : n < 10 → (48 + n) ∷ [] ≡ decimal n
  one-digit h = sym (last 19 n h)

  pub two_digits : 10 ≤ n → n < 100 → (48 + n / 10) ∷ (48 + n % 10) ∷ [] ≡ decimal n
  two_digits m h = sym (before 19 n m ∙ ap (λ (l : List ℕ). l ++ (48 + n % 10) ∷ []) (last 18 (n / 10) (omega arith)))

  pub three-digits : 100 ≤ n → n < 1000 → (48 + n / 100) ∷ (48 + n / 10 % 10) ∷ (48 + n % 10) ∷ [] ≡ decimal n
  three-digits m h =
      let two : n / 10 / 10 ≡ n / 100 = omega arith in
      sym
      (before 19 n (omega arith)
      ∙ ap (λ (l : List ℕ). l ++ (48 + n % 10) ∷ [])
      (before 18 (n / 10) (omega arith) ∙ ap (λ (l : List ℕ). l ++ (48 + n / 10 % 10) ∷ []) (last 17 (n / 10 / 10) (omega arith)))
      ∙ ap (λ (k : ℕ). (48 + k) ∷ (48 + n / 10 % 10) ∷ (48 + n % 10) ∷ []) two)

-- three digits behind the others
split :
    (room n : ℕ)
    → 1000 ≤ n
    → digits (suc (suc (suc room))) n ≡ digits room (n / 1000) ++ (48 + n / 100 % 10) ∷ (48 + n / 10 % 10) ∷ (48 + n % 10) ∷ []
split room n m =
    let two : n / 10 / 10 ≡ n / 100 = omega arith in
    let three : n / 10 / 10 / 10 ≡ n / 1000 = omega arith in
    before (suc (suc room)) n (omega arith)
    ∙ ap (λ (l : List ℕ). l ++ (48 + n % 10) ∷ [])
    (before (suc room) (n / 10) (omega arith)
    ∙ ap (λ (l : List ℕ). l ++ (48 + n / 10 % 10) ∷ []) (before room (n / 10 / 10) (omega arith)))
    ∙ append_snoc (digits room (n / 10 / 10 / 10) ++ (48 + n / 10 / 10 % 10) ∷ []) (48 + n / 10 % 10) ((48 + n % 10) ∷ [])
    ∙ append_snoc (digits room (n / 10 / 10 / 10)) (48 + n / 10 / 10 % 10) ((48 + n / 10 % 10) ∷ (48 + n % 10) ∷ [])
    ∙ ap (λ (k : ℕ). digits room k ++ (48 + n / 10 / 10 % 10) ∷ (48 + n / 10 % 10) ∷ (48 + n % 10) ∷ []) three
    ∙ ap (λ (k : ℕ). digits room (n / 1000) ++ (48 + k % 10) ∷ (48 + n / 10 % 10) ∷ (48 + n % 10) ∷ []) two

pub four-digits : (n : ℕ) → 1000 ≤ n → n < 10000 → four_digits n ≡ decimal n
four-digits n m h =
    sym
    (split 17 n m
    ∙ ap (λ (l : List ℕ). l ++ (48 + n / 100 % 10) ∷ (48 + n / 10 % 10) ∷ (48 + n % 10) ∷ []) (last 16 (n / 1000) (omega arith)))

-- the numbers of so many digits are below this
abbrev pub beyond : ℕ → ℕ
beyond zero = 1
beyond (suc room) = beyond room * 10

-- more room changes nothing where there is enough
enough : (room n : ℕ) → n < beyond (suc room) → digits (suc (suc room)) n ≡ digits (suc room) n
enough zero n h = last 1 n (omega arith) ∙ sym (last 0 n (omega arith))
enough (suc room) n h =
    ⊎_elim (λ (l : n < 10). last (suc (suc room)) n l ∙ sym (last (suc room) n l))
    (λ (m : 10 ≤ n).
    before (suc (suc room)) n m ∙ ap (λ (l : List ℕ). l ++ (48 + n % 10) ∷ []) (enough room (n / 10) (omega arith)) ∙ sym (before (suc room) n m))
    (lt-or-le n 10)

sixteen : (n : ℕ) → n < beyond 16 → decimal n ≡ digits 16 n
sixteen n h = enough 18 n (omega arith) ∙ enough 17 n (omega arith) ∙ enough 16 n (omega arith) ∙ enough 15 n (omega arith)

leading : (n : ℕ) → n < 18446744073709551616 → n / 10000 < beyond 16
leading n h = omega arith

pub many-digits : (n : ℕ) → 10000 ≤ n → n < 18446744073709551616 → decimal (n / 10000) ++ four_digits (n % 10000) ≡ decimal n
many-digits n m h =
    let thousands : n % 10000 / 1000 ≡ n / 1000 % 10 = omega arith in
    let hundreds : n % 10000 / 100 % 10 ≡ n / 100 % 10 = omega arith in
    let tens : n % 10000 / 10 % 10 ≡ n / 10 % 10 = omega arith in
    let ones : n % 10000 % 10 ≡ n % 10 = omega arith in
    let four : n / 1000 / 10 ≡ n / 10000 = omega arith in
    rw (thousands, hundreds, tens, ones)
    (sym
    (split 17 n (omega arith)
    ∙ ap (λ (l : List ℕ). l ++ (48 + n / 100 % 10) ∷ (48 + n / 10 % 10) ∷ (48 + n % 10) ∷ []) (before 16 (n / 1000) (omega arith))
    ∙ append_snoc (digits 16 (n / 1000 / 10)) (48 + n / 1000 % 10) ((48 + n / 100 % 10) ∷ (48 + n / 10 % 10) ∷ (48 + n % 10) ∷ [])
    ∙ ap (λ (k : ℕ). digits 16 k ++ (48 + n / 1000 % 10) ∷ (48 + n / 100 % 10) ∷ (48 + n / 10 % 10) ∷ (48 + n % 10) ∷ []) four
    ∙ ap (λ (l : List ℕ). l ++ (48 + n / 1000 % 10) ∷ (48 + n / 100 % 10) ∷ (48 + n / 10 % 10) ∷ (48 + n % 10) ∷ []) (sym (sixteen (n / 10000) (leading n h)))))

longer : (room n k : ℕ) → length (digits room (n / 10)) ≤ k → length (digits (suc room) n) ≤ suc k
longer room n k h =
    ⊎_elim (λ (l : n < 10). rw (last room n l) (omega arith)) (λ (m : 10 ≤ n). rw (before room n m) (simp length-append (omega arith)))
    (lt-or-le n 10)

digits-size : (room n : ℕ) → length (digits room n) ≤ room
unfolding digits
digits-size zero n = omega arith
digits-size (suc room) n = longer room n room (digits-size room (n / 10))

-- at most 20 digits, and 16 without the last four
pub decimal-size : (n : ℕ) → length (decimal n) ≤ 20
decimal-size n = digits-size 20 n

pub leading-size : (n : ℕ) → n < 18446744073709551616 → length (decimal (n / 10000)) ≤ 16
leading-size n h = omega (arith, ap length (sixteen (n / 10000) (leading n h)), digits-size 16 (n / 10000))
