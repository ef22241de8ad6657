-- The m and seq that a syntax may have: the masks of the code have a bit for each pair that is listed.
use Prim.Native.Nat.{ℕ, zero, suc, ◌/◌, ◌%◌, ◌^◌, ◌<◌, ◌≤◌}
use mathlib.Core.Path.{◌≡◌, refl, sym, ◌∙◌}
use mathlib.Core.Bool.{Bool, true, false, ◌&&◌}
use mathlib.Core.Logic.{⊎_elim}
use native.Mathlib.Omega.{arith}
use lib.Dec.{T, eqb}
use Rattle.octets.proofs.Order.{eq-or-ne}
use Rattle.octets.proofs.Texts.{true-not-false}
use Rattle.record.specs.declared.syntax.Syntax.{Syntax}
use Rattle.record.specs.declared.syntax.Syntax.TheVariants.{Acelp, Pcm, G727, G728, G7231, Data, Fax}
use Rattle.record.specs.Record.{most_m, legal, with_pair}

-- one test over all numbers below n
abbrev same : Bool → Bool → Bool
same true b = b
same false true = false
same false false = true

is_same : (a b : Bool) → T (same a b) → a ≡ b
is_same true true t = refl
is_same true false t = absurd t
is_same false true t = absurd t
is_same false false t = refl

abbrev every : ℕ → (ℕ → Bool) → Bool
every zero f = true
every (suc n) f = f n && every n f

left : (a b : Bool) → T (a && b) → T a
left true b t = tt
left false b t = t

right : (a b : Bool) → T (a && b) → T b
right true b t = t
right false b t = absurd t

each : (n : ℕ) (f : ℕ → Bool) → T (every n f) → (k : ℕ) → k < n → T (f k)
each zero f t k h = absurd (omega arith)
each (suc n) f t k h =
    ⊎_elim (λ e. rw e (left (f n) (every n f) t)) (λ ne. each n f (right (f n) (every n f) t) k (omega arith)) (eq-or-ne k n)

-- the bit of a pair in a mask
abbrev bit : ℕ → ℕ → Bool
bit mask k = eqb (mask / 2 ^ k % 2) 1

low : (x : Syntax) (n : ℕ) → legal (with_pair x (n % 32)) ≡ legal (with_pair x n)
low x n =
    let p : n % 32 / 2 % 16 ≡ n / 2 % 16 = omega arith in
    let q : n % 32 % 2 ≡ n % 2 = omega arith in
    rw (p, q)

pub masked :
    (x : Syntax) (mask : ℕ)
    → T (every 32 (λ k. same (bit mask k) (legal (with_pair x k))))
    → (n : ℕ) → bit mask (n % 32) ≡ legal (with_pair x n)
masked x mask t n =
    is_same (bit mask (n % 32)) (legal (with_pair x (n % 32)))
    (each 32 (λ k. same (bit mask k) (legal (with_pair x k))) t (n % 32) (omega arith))
    ∙ low x n

pub most-small : (x : Syntax) → most_m x ≤ 12
most-small Acelp = omega arith
most-small Pcm = omega arith
most-small G727 = omega arith
most-small G728 = omega arith
most-small G7231 = omega arith
most-small Data = omega arith
most-small Fax = omega arith

pub both : (a b : Bool) → (a && b) ≡ true → (a ≡ true) × (b ≡ true)
both true b e = (refl, e)
both false b e = absurd (true-not-false (sym e))
