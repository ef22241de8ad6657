-- The records of specs/Wrong.antt are rejected, by their length or at one place.
use Prim.Native.Nat.{ℕ, zero, suc, ◌+◌, ◌-◌, ◌<◌, ◌≤◌}
use mathlib.Core.Path.{◌≡◌, refl, sym, ◌∙◌}
use mathlib.Core.List.{List, [], ◌∷◌, map}
use mathlib.Core.Option.{none, some}
use native.Mathlib.Omega.{arith}
use borrow.Author.Tests.{le-ltb}
use lib.ListN.{length, length-map, get_or}
use Rattle.replay.specs.Periods.{Mark, filled, carried, told, held_at, cell}
use Rattle.replay.specs.Claims.{Replays}
use Rattle.replay.specs.Wrong.{Rejected}
use Rattle.replay.proofs.Ranges.{here, beyond, before}

none-some : {A B : Type 0} {a : A} → none ≡ some a → B
none-some e = let z : ◌≡◌ {A = ℕ} 0 1 = cc in absurd (omega arith)

none_told : {A : Type 0} (xs : List A) (i : ℕ) → get_or (map told (map filled xs)) i none ≡ none
none_told [] i = refl
none_told (x ∷ xs) zero = refl
none_told (x ∷ xs) (suc i) = none_told xs i

-- what a record holds at a place of it
at_place : {A : Type 0} (first j i : ℕ) (marks : List (Mark A)) → j ≡ first + i → held_at first marks j ≡ get_or (map told marks) i none
at_place first j i marks e =
    let low : first ≤ j = omega arith in
    let place : j - first ≡ i = omega arith in
    rw (le-ltb j first low, place) refl

nothing : (A : Type 0) (S : ℕ → A) (a : ℕ) (more : List ℕ) → Replays S (a ∷ more) [] → ⊥
nothing A S a more r = let e = r.long in omega (arith, e)

all_filled : (A : Type 0) (S : ℕ → A) (a : ℕ) (more : List ℕ) (xs : List A) → Replays S (a ∷ more) (map filled xs) → ⊥
all_filled A S a more xs r =
    let is : cell S (a ∷ more) a ≡ some (S a) = rw (here a a more (omega arith) (omega arith)) refl in
    none-some (sym (at_place a a 0 (map filled xs) (omega arith) ∙ none_told xs 0) ∙ r.place a ∙ is)

first_only : (A : Type 0) (S : ℕ → A) (a b : ℕ) (more : List ℕ) (x y z : A) (xs : List A) → a < b → Replays S (a ∷ b ∷ more) (carried x ∷ carried y ∷ carried z ∷ map filled xs) → ⊥
first_only A S a b more x y z xs less r =
    let is : cell S (a ∷ b ∷ more) (b + 2) ≡ some (S (b + 2)) =
    rw (beyond a (b + 2) (b ∷ more) (omega arith), here b (b + 2) more (omega arith) (omega arith)) refl
    in
    let i : ℕ = b - a - 1 in
    let place = at_place a (b + 2) (suc (suc (suc i))) (carried x ∷ carried y ∷ carried z ∷ map filled xs) (omega arith) in
    none-some (sym (place ∙ none_told xs i) ∙ r.place (b + 2) ∙ is)

some-told : {A : Type 0} (xs : List A) (i : ℕ) → i < length xs → get_or (map told (map carried xs)) i none ≡ none → ⊥
some-told [] i less e = omega arith
some-told (x ∷ xs) zero less e = none-some (sym e)
some-told (x ∷ xs) (suc i) less e = some-told xs i (omega arith) e

all_carried : (A : Type 0) (S : ℕ → A) (a b : ℕ) (xs : List A) → a + 3 < b → Replays S (a ∷ b ∷ []) (map carried xs) → ⊥
all_carried A S a b xs far r =
    let is : cell S (a ∷ b ∷ []) (a + 3) ≡ none =
    rw (beyond a (a + 3) (b ∷ []) (omega arith), before b (a + 3) [] (omega arith)) refl
    in
    let long : length xs ≡ b - a + 3 = sym (length-map xs carried) ∙ r.long in
    some-told xs 3 (omega arith) (sym (at_place a (a + 3) 3 (map carried xs) refl) ∙ r.place (a + 3) ∙ is)

pub rejected : Rejected
rejected = record { nothing = nothing; all_filled = all_filled; first_only = first_only; all_carried = all_carried }
