-- Records that demand 3 rejects ("Try these and see them rejected"), whatever the sender's periods S. Proved in proofs/Wrong.antt.
use Rattle.std.specs.Prelude.{ℕ, ◌+◌, ◌<◌, List, [], ◌∷◌, map}
use Rattle.replay.specs.Periods.{filled, carried}
use Rattle.replay.specs.Claims.{Replays}

pub record Rejected : Type 1 where
  -- "a receiver that appends nothing"
  pub nothing : (A : Type 0) (S : ℕ → A) (a : ℕ) (more : List ℕ) → Replays S (a ∷ more) [] → ⊥
  -- "or marks all periods filled (3, by "exactly when")"
  pub all_filled : (A : Type 0) (S : ℕ → A) (a : ℕ) (more : List ℕ) (xs : List A) → Replays S (a ∷ more) (map filled xs) → ⊥
  -- "one that replays only its first payload and fills ever after"
  pub first_only :
      (A : Type 0) (S : ℕ → A) (a b : ℕ) (more : List ℕ) (x y z : A) (xs : List A)
      → a < b
      → Replays S (a ∷ b ∷ more) (carried x ∷ carried y ∷ carried z ∷ map filled xs)
      → ⊥
  -- one that marks all periods carried, where a gap of 4 or more calls for fills
  pub all_carried : (A : Type 0) (S : ℕ → A) (a b : ℕ) (xs : List A) → a + 3 < b → Replays S (a ∷ b ∷ []) (map carried xs) → ⊥
