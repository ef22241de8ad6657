-- A test on two numbers goes one way or the other.
use Prim.Native.Nat.{ℕ, ◌<◌, ◌≤◌}
use mathlib.Core.Path.{◌≡◌, refl, sym, subst}
use mathlib.Core.Bool.{Bool, true, false, cond}
use mathlib.Core.Logic.{◌⊎◌, inl, inr}
use borrow.Author.Tests.{ltb-true, ltb-false, eqb-true, eqb-false}
use lib.Dec.{T, ltb, eqb}
use Rattle.refusal.specs.Order.{◌or◌}

pub lt-or-le : (m n : ℕ) → (m < n) ⊎ (n ≤ m)
lt-or-le m n = go (ltb m n) refl
  where
    go : (t : Bool) → ltb m n ≡ t → (m < n) ⊎ (n ≤ m)
    go true e = inl (ltb-true m n e)
    go false e = inr (ltb-false m n e)

pub eq-or-ne : (m n : ℕ) → (m ≡ n) ⊎ (m ≡ n → ⊥)
eq-or-ne m n = go (eqb m n) refl
  where
    go : (t : Bool) → eqb m n ≡ t → (m ≡ n) ⊎ (m ≡ n → ⊥)
    go true e = inl (eqb-true m n e)
    go false e = inr (eqb-false m n e)

-- a test that goes both ways
pub clash : {A : Type 0} (t : Bool) → t ≡ true → t ≡ false → A
clash true p q = absurd (subst T q tt)
clash false p q = absurd (subst T (sym p) tt)

-- a test goes one way or the other
pub either : {A : Type 0} {t : Bool} → (t ≡ true → A) → (t ≡ false → A) → (u : Bool) → t ≡ u → A
either f g true e = f e
either f g false e = g e

-- what either way of a test gives
pub picked : {A : Type 0} (P : A → Type 0) (b : Bool) (x y : A) → (b ≡ true → P x) → (b ≡ false → P y) → P (cond b x y)
picked P true x y px py = px refl
picked P false x y px py = py refl

-- one of two tests: the first holds; the first does not, and the second tells; neither holds
pub or-first : (t u : Bool) → t ≡ true → true ≡ t or u
or-first true u e = refl
or-first false u e = clash false e refl

pub or-second : (t u told : Bool) → t ≡ false → told ≡ u → told ≡ t or u
or-second true u told e is = clash true refl e
or-second false u told e is = is

pub neither : (t u : Bool) → t or u ≡ false → (t ≡ false) × (u ≡ false)
neither true u e = clash true refl e
neither false u e = (refl, e)

-- a line of a table that did not answer: its test does not hold, and the lines after it answered
pub past : {A : Type 0} (t : Bool) (refused rest answer : A) → (refused ≡ answer → ⊥) → cond t refused rest ≡ answer → (t ≡ false) × (rest ≡ answer)
past true refused rest answer not-it e = absurd (not-it e)
past false refused rest answer not-it e = (refl, e)
