-- Laws of `in_order` (specs/Order.antt): what the first test that holds gives, and what is left where none does.
use Prim.Native.Nat.{ℕ, ◌<◌}
use mathlib.Core.Path.{◌≡◌, refl}
use mathlib.Core.List.{List, [], ◌∷◌}
use mathlib.Core.Bool.{Bool, true, false, cond}
use lib.Dec.{T, ltb, ltb→lt}
use Rattle.std.specs.declared.result.Result.{Result}
use Rattle.std.specs.declared.result.Result.TheVariants.{Ok, Err}
use Rattle.refusal.specs.declared.Refusal.{Refusal}
use Rattle.refusal.specs.Numbers.{number}
use Rattle.refusal.specs.Order.{Test, in_order}

-- the tests before it are passed, and it holds
pub data Stops : List Test → Refusal → Type 0 where
  here : {t : Test} {ts : List Test} → t.holds ≡ true → Stops (t ∷ ts) t.refusal
  past : {t : Test} {ts : List Test} {r : Refusal} → t.holds ≡ false → Stops ts r → Stops (t ∷ ts) r

-- every test is passed
abbrev pub Passes : List Test → Type 0
Passes [] = Unit
Passes (t ∷ ts) = (t.holds ≡ false) × Passes ts

module _ {A : Type 0} (refused : Refusal → A) (sound : A) where
  pub stopped : {ts : List Test} {r : Refusal} → Stops ts r → in_order ts refused sound ≡ refused r
  stopped (here h) = rw h
  stopped (past h s) = rw h (stopped s)

  pub sounds : (ts : List Test) → Passes ts → in_order ts refused sound ≡ sound
  sounds [] p = refl
  sounds (t ∷ ts) p = rw p.0 (sounds ts p.1)

  -- what is no refusal passed every test
  pub passed :
      (ts : List Test) (r : A)
      → ((refusal : Refusal) → refused refusal ≡ r → ⊥)
      → in_order ts refused sound ≡ r
      → Passes ts × (sound ≡ r)
  passed [] r never e = (tt, e)
  passed (t ∷ ts) r never e = go t.holds refl (λ later. passed ts r never later)
    where
      go : (h : Bool) → t.holds ≡ h → (in_order ts refused sound ≡ r → Passes ts × (sound ≡ r)) → Passes (t ∷ ts) × (sound ≡ r)
      go true h rest = absurd (never t.refusal (rw h at e))
      go false h rest = let later = rest (rw h at e) in ((h, later.0), later.1)

-- what an answer tells: what is sound, or what is refused
abbrev pub told : {A B : Type 0} → (Refusal → A) → A → Result B Refusal → A
told refused sound (Ok ok) = sound
told refused sound (Err r) = refused r

-- an order of refusals tells what its answer does
pub by_answer :
    {A B : Type 0} (refused : Refusal → A) (sound : A) (ok : B) (ts : List Test)
    → in_order ts refused sound ≡ told refused sound (in_order ts Err (Ok ok))
by_answer refused sound ok [] = refl
by_answer refused sound ok (t ∷ ts) = go t.holds (by_answer refused sound ok ts)
  where
    go :
        (h : Bool)
        → in_order ts refused sound ≡ told refused sound (in_order ts Err (Ok ok))
        → cond h (refused t.refusal) (in_order ts refused sound)
        ≡ told refused sound (cond h (Err t.refusal) (in_order ts Err (Ok ok)))
    go true rest = refl
    go false rest = rest

-- where the numbers of the tests lie below a bound, so does the number of what they give
abbrev pub Below : ℕ → List Test → Type 0
Below m [] = Unit
Below m (t ∷ ts) = T (ltb (number t.refusal) m) × Below m ts

pub below :
    {A : Type 0} (number_of : A → ℕ) (refused : Refusal → A) (sound : A) (m : ℕ)
    → ((r : Refusal) → number_of (refused r) ≡ number r)
    → number_of sound < m
    → (ts : List Test)
    → Below m ts
    → number_of (in_order ts refused sound) < m
below number_of refused sound m is low [] b = low
below number_of refused sound m is low (t ∷ ts) b = go t.holds (below number_of refused sound m is low ts b.1)
  where
    go : (h : Bool) → number_of (in_order ts refused sound) < m → number_of (cond h (refused t.refusal) (in_order ts refused sound)) < m
    go true rest = rw (is t.refusal) (ltb→lt (number t.refusal) m b.0)
    go false rest = rest
