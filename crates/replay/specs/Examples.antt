-- The bounds are met and are sharp; and what they cost. A receiver with no more than the rule needs, whose periods are numbers.
-- Proved in proofs/Examples.antt.
use Rattle.std.specs.Prelude.{ℕ, zero, suc, ◌+◌, ◌-◌, ◌^◌, ◌<◌, ◌≤◌, ◌≡◌, List, [], ◌∷◌, ◌++◌, map, Bool, true, false, cond, replicate}
use Rattle.std.proofs.Math.Option.{Option, none, some}
use Rattle.refusal.specs.Numbers.{sound, number}
use Rattle.counts.specs.Round.{step}
use Rattle.replay.specs.Rule.{step_taken, older}
use Rattle.replay.specs.Periods.{Payload, pay, Mark, held_at, range}
use Rattle.replay.specs.Claims.{Receiver, by_step, record_of, answers_of, Replays, ByRule}
use Rattle.refusal.specs.declared.Refusal.TheVariants.{OlderPayload}

pub record Bare : Type 0 where
  pub heard : Bool
  pub last : ℕ

abbrev pub step_from : ℕ → Bare → Payload ℕ → ℕ
step_from k s p = step_taken s.heard (step k s.last p.number)

-- It fills with 0.
abbrev pub bare : ℕ → ℕ → Receiver ℕ
bare k far =
    record {
      State = Bare;
      Event = Payload ℕ;
      heard = λ s. s.heard;
      last = λ s. s.last;
      number = λ s p. cond (older far (step_from k s p)) (number OlderPayload) sound;
      appends = λ s p. cond (older far (step_from k s p)) [] (by_step (step_from k s p) 0 p.windows);
      after = λ s p. cond (older far (step_from k s p)) s (record { heard = true; last = p.number });
    }

abbrev pub unheard : Bare
unheard = record { heard = false; last = 0 }

-- the sender whose period j holds j
abbrev pub numbers : ℕ → ℕ
numbers j = j

abbrev pub marks_of : ℕ → ℕ → List ℕ → List (Mark ℕ)
marks_of k far arrivals = record_of (bare k far) unheard (map (pay k numbers) arrivals)

abbrev pub answered : ℕ → ℕ → List ℕ → List ℕ
answered k far arrivals = answers_of (bare k far) some unheard (map (pay k numbers) arrivals)

-- It goes by the rule.
abbrev pub BareByRule : Type 0
BareByRule = (k far : ℕ) → ByRule k far (bare k far) some

-- The payloads number 1 and n + 1, with a static repeat of each, and 0 behind them: two fresh arrivals n apart, the farthest step,
-- and one n + 1 behind. With n = 63 in 7 bits and 127 in 8 these are the bounds of the wish.
abbrev pub FarthestReplays : Type 0
FarthestReplays =
    (k n : ℕ)
    → n + (n + 1) < 2 ^ k
    → 3 ≤ n
    → Replays numbers (1 ∷ 1 ∷ (n + 1) ∷ (n + 1) ∷ []) (marks_of k n (1 ∷ 1 ∷ (n + 1) ∷ 0 ∷ (n + 1) ∷ []))

-- One more ahead is taken as older, by every receiver that goes by the rule: the record is not what the arrivals demand.
abbrev pub OneMoreFails : Type 1
OneMoreFails =
    (A : Type 0) (k far : ℕ) (r : Receiver A) (brings : r.Event → Option (Payload A)) (S : ℕ → A) (s : r.State) (e e2 : r.Event) (a : ℕ)
    → ByRule k far r brings
    → 3 ≤ far
    → far + 1 < 2 ^ k
    → r.heard s ≡ false
    → brings e ≡ some (pay k S a)
    → brings e2 ≡ some (pay k S (a + (far + 1)))
    → Replays S (a ∷ (a + (far + 1)) ∷ []) (record_of r s (e ∷ e2 ∷ []))
    → ⊥

-- One more behind is taken as fresh.
abbrev pub OneMoreBehindFails : Type 1
OneMoreBehindFails =
    (A : Type 0) (k far : ℕ) (r : Receiver A) (brings : r.Event → Option (Payload A)) (S : ℕ → A) (s : r.State) (e e2 : r.Event) (a : ℕ)
    → ByRule k far r brings
    → 3 ≤ far
    → far < 2 ^ k
    → r.heard s ≡ false
    → brings e ≡ some (pay k S (a + (2 ^ k - far)))
    → brings e2 ≡ some (pay k S a)
    → Replays S ((a + (2 ^ k - far)) ∷ []) (record_of r s (e ∷ e2 ∷ []))
    → ⊥

-- What the wish costs, in 7 bits with a farthest step of 63 and in 8 bits with 127.
pub record Costs : Type 0 where
  -- After 63 or 127 payloads lost in a row what follows is taken as older until the numbers come round: the one a whole round ahead
  -- counts as a step of 0, and the next is then replayed as a step of 1.
  pub long_loss : answered 7 63 (0 ∷ range 64 64 ++ 128 ∷ 129 ∷ []) ≡ sound ∷ replicate 64 (number OlderPayload) ++ sound ∷ sound ∷ []
  pub long_loss_of_digits : answered 8 127 (0 ∷ range 128 128 ++ 256 ∷ 257 ∷ []) ≡ sound ∷ replicate 128 (number OlderPayload) ++ sound ∷ sound ∷ []
  -- A line at rest repeats one number: 64 ahead, it is older each time.
  pub at_rest : answered 7 63 (0 ∷ 64 ∷ 64 ∷ 64 ∷ []) ≡ sound ∷ number OlderPayload ∷ number OlderPayload ∷ number OlderPayload ∷ []
  -- A sender that begins anew at 0 is taken as older up to the last number, which counts as a step of 0; where that was above 64, at
  -- once as ahead.
  pub begun_anew : answered 7 63 (40 ∷ range 0 40 ++ 40 ∷ 41 ∷ []) ≡ sound ∷ replicate 40 (number OlderPayload) ++ sound ∷ sound ∷ []
  pub begun_anew_ahead : answered 7 63 (65 ∷ 0 ∷ 1 ∷ []) ≡ sound ∷ sound ∷ sound ∷ []
  -- One payload 65 behind is taken as fresh, and then 62 as older; the next counts as a step of 0.
  pub too_far_behind : answered 7 63 (100 ∷ 35 ∷ range 101 62 ++ 163 ∷ []) ≡ sound ∷ sound ∷ replicate 62 (number OlderPayload) ++ sound ∷ []
  -- And a receiver that gets more may carry less: where 9 overtakes 5, the three periods that 5 carries are filled.
  pub gets_less : map (held_at 0 (marks_of 7 63 (0 ∷ 5 ∷ []))) (5 ∷ 6 ∷ 7 ∷ []) ≡ some 5 ∷ some 6 ∷ some 7 ∷ []
  pub gets_more : map (held_at 0 (marks_of 7 63 (0 ∷ 9 ∷ 5 ∷ []))) (5 ∷ 6 ∷ 7 ∷ []) ≡ none ∷ none ∷ none ∷ []

-- A way to name some of a list: g are left out and one is taken, and so on.
abbrev pub picked : {A : Type 0} → List ℕ → List A → List A
picked [] xs = []
picked (g ∷ gs) [] = []
picked (zero ∷ gs) (x ∷ xs) = x ∷ picked gs xs
picked (suc g ∷ gs) (x ∷ xs) = picked (g ∷ gs) xs

-- A way to name some of a list in any order, by their places.
abbrev pub at : {A : Type 0} → ℕ → List A → List A
at n [] = []
at zero (x ∷ xs) = x ∷ []
at (suc n) (x ∷ xs) = at n xs

abbrev pub chosen : {A : Type 0} → List ℕ → List A → List A
chosen [] xs = []
chosen (n ∷ ns) xs = at n xs ++ chosen ns xs
