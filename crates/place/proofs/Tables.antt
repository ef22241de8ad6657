-- An order of refusals as a table: each test passed, and what is sound is what it gives.
use mathlib.Core.Path.{◌≡◌, refl, sym, ap, ◌∙◌}
use mathlib.Core.List.{List, [], ◌∷◌}
use mathlib.Core.Bool.{Bool, false, cond}
use Rattle.refusal.specs.declared.Refusal.{Refusal}
use Rattle.refusal.specs.Order.{Test, in_order}
use Rattle.octets.proofs.Order.{either}

abbrev pub Passed : List Test → Type 0
Passed [] = Unit
Passed (t ∷ ts) = (t.holds ≡ false) × Passed ts

pub passed : {A : Type 0} (ts : List Test) (refused : Refusal → A) (sound given : A)
    → ((refusal : Refusal) → refused refusal ≡ given → ⊥)
    → in_order ts refused sound ≡ given
    → Passed ts × (sound ≡ given)
passed {A} [] refused sound given never is = (tt, is)
passed {A} (t ∷ ts) refused sound given never is =
    let here : Bool → A = λ test. cond test (refused t.refusal) (in_order ts refused sound) in
    either (λ h. absurd (never t.refusal (sym (ap here h) ∙ is)))
    (λ h. let rest = passed ts refused sound given never (sym (ap here h) ∙ is) in ((h, rest.0), rest.1))
    t.holds
    refl
