-- The steps by their cases: what each appends, and what a step of 0 tells of the sequence.
use Prim.Native.Nat.{ℕ, zero, suc, ◌%◌, ◌^◌}
use mathlib.Core.Path.{◌≡◌, refl}
use mathlib.Core.List.{[], ◌∷◌, ◌++◌}
use mathlib.Core.Bool.{Bool, true, false}
use native.Mathlib.Omega.{arith}
use lib.ListN.{take, replicate}
use Rattle.counts.specs.Round.{step}
use Rattle.counts.proofs.Laws.{laws}
use Rattle.replay.specs.Rule.{step_taken, carried_count, unused_count, newest}

-- by the steps 0, 1, 2, and 3 and more, at which all three windows are carried
pub by-step : {P : ℕ → Type 0} → P 0 → P 1 → P 2 → ((step : ℕ) → carried_count step ≡ 3 → unused_count step ≡ 0 → P step) → (step : ℕ) → P step
by-step p0 p1 p2 more zero = p0
by-step p0 p1 p2 more (suc zero) = p1
by-step p0 p1 p2 more (suc (suc zero)) = p2
by-step {P} p0 p1 p2 more (suc (suc (suc n))) = more (suc (suc (suc n))) (omega arith) (omega arith)

-- of three places, those in use hold the newest windows, and no others
pub in_use : {A : Type 0} (a b c off : A) (step : ℕ) → take (carried_count step) (newest step (a ∷ b ∷ c ∷ []) ++ replicate (unused_count step) off) ≡ newest step (a ∷ b ∷ c ∷ [])
in_use a b c off = by-step refl refl refl (λ step three none. rw (three, none) refl)

-- a step of 0 is not that of a first payload, and its sequence is the last one
pub heard-at-zero : (heard : Bool) (n : ℕ) → step_taken heard n ≡ 0 → heard ≡ true
heard-at-zero true n e = refl
heard-at-zero false n e = absurd (omega arith)

step-at-zero : (heard : Bool) (n : ℕ) → step_taken heard n ≡ 0 → n ≡ 0
step-at-zero true n e = e
step-at-zero false n e = absurd (omega arith)

pub same-at-zero : (k : ℕ) (heard : Bool) (last new : ℕ) → step_taken heard (step k last new) ≡ 0 → last % 2 ^ k ≡ new % 2 ^ k
same-at-zero k heard last new e = ((laws k).zero_when_equal last new).0 (step-at-zero heard (step k last new) e)
