-- An order of refusals as a table (document 01, "Refusal numbers": "Order: .."): a line for each test with the refusal that it
-- gives, in the order in which they are tried.
use Rattle.std.specs.Prelude.{List, [], ◌∷◌, Bool, true, cond}
use Rattle.refusal.specs.declared.Refusal.{Refusal}

-- a test, and the refusal that it gives where it holds
pub record Test : Type 0 where
  pub holds : Bool
  pub refusal : Refusal

infix 80 ◌gives◌
abbrev pub ◌gives◌ : Bool → Refusal → Test
holds gives refusal = record { holds = holds; refusal = refusal }

-- What the first test that holds refuses so; and where none holds, what is sound.
abbrev pub in_order : {A : Type 0} → List Test → (Refusal → A) → A → A
in_order [] refused sound = sound
in_order (t ∷ ts) refused sound = cond t.holds (refused t.refusal) (in_order ts refused sound)

-- either of two tests, the first tried first
infixr 85 ◌or◌
abbrev pub ◌or◌ : Bool → Bool → Bool
a or b = cond a true b
