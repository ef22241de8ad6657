-- What holds of the round counts at a width of k bits (document 01, "What the contracts settle": "Sequence facts are proved
-- once over the width"; document 02, wish 10). proofs/Laws.antt has the proof, once over the width, and cites it for 4, 7, 8
-- and 13 bits. A count is compared round the width, so a number that is too large for it is no exception; `arrives_there` alone
-- speaks of a count below the modulus.
use Rattle.std.specs.Prelude.{◌≡◌, ℕ, ◌+◌, ◌-◌, ◌%◌, ◌^◌, ◌<◌, ◌≤◌, ◌↔◌}
use Rattle.counts.specs.Round.{onward, step}

pub record Laws (k : ℕ) : Type 0 where
  -- a number may be taken round the width before it goes on: that changes nothing
  pub goes_on : (a n : ℕ) → onward k (a % 2 ^ k) n ≡ (a + n) % 2 ^ k
  -- the step lies below the modulus
  pub below : (a b : ℕ) → step k a b < 2 ^ k
  -- the step from a to a + d is d, for d below the modulus
  pub steps : (a d : ℕ) → d < 2 ^ k → step k (a % 2 ^ k) ((a + d) % 2 ^ k) ≡ d
  -- the step to a count d behind is what is left of the modulus (document 02, wish 3)
  pub behind : (a d : ℕ) → 0 < d → d ≤ 2 ^ k → step k ((a + d) % 2 ^ k) (a % 2 ^ k) ≡ 2 ^ k - d
  -- going on by the step arrives at every number, round the width
  pub arrives : (a b : ℕ) → onward k a (step k a b) ≡ b % 2 ^ k
  -- the step is 0 exactly when the counts are equal, round the width
  pub zero_when_equal : (a b : ℕ) → step k a b ≡ 0 ↔ a % 2 ^ k ≡ b % 2 ^ k
  -- "going on by a and then by b is going on by a plus b"
  pub adds : (c a b : ℕ) → onward k (onward k c a) b ≡ onward k c (a + b)
  -- "the step from one count to another, plus the step to a third, is the step from first to third, round the width"
  pub joins : (a b c : ℕ) → (step k a b + step k b c) % 2 ^ k ≡ step k a c
  -- "going on by the step from one count to another arrives there": at the count itself, which lies below the modulus
  pub arrives_there : (a b : ℕ) → b < 2 ^ k → onward k a (step k a b) ≡ b
