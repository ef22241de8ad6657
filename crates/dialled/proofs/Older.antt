-- The claims of specs/Claims.antt, by what reading gives and by the step.
use Prim.Native.Nat.{ℕ, ◌<◌, ◌≤◌}
use mathlib.Core.Path.{◌≡◌, refl, sym, ap, ◌∙◌}
use mathlib.Core.List.{List}
use mathlib.Core.Bool.{false}
use mathlib.Core.Logic.{⊎_elim}
use native.Mathlib.Omega.{arith}
use Rattle.refusal.specs.Numbers.{sound, number}
use Rattle.octets.proofs.Order.{lt-or-le, picked}
use Rattle.replay.specs.Rule.{older as is_older}
use Rattle.digits.specs.declared.layout.Digits.{Digits}
use Rattle.digits.specs.Layout.{digits_read}
use Rattle.digits.proofs.Numbers.{number_in as read-number, reads-below}
use Rattle.dialled.specs.declared.Receiver.{Receiver}
use Rattle.dialled.specs.Receiver.{Received, farthest, step_from, passed_over, received_by, received, number_in}
use Rattle.dialled.specs.Claims.{Older}
use Rattle.dialled.proofs.ReceiverCases.{late, in-time, received-by}
use Rattle.refusal.specs.declared.Refusal.{Refusal}
use Rattle.std.specs.declared.result.Result.{Result}
use Rattle.refusal.specs.declared.Refusal.TheVariants.{OlderPayload}
use Rattle.std.specs.declared.result.Result.TheVariants.{Ok, Err}

-- what reading refuses is never 19
early : (payload : List ℕ) (refusal : Refusal) → digits_read payload ≡ Err refusal → number refusal ≡ number OlderPayload → ⊥
early payload refusal e same = omega (arith, reads-below payload, ap read-number e)

-- a payload that reads, by its step
module _ (r : Receiver) (payload : List ℕ) (d : Digits) (is : digits_read payload ≡ Ok d) where
  beyond : farthest < step_from r d.sequence → received r payload ≡ passed_over r OlderPayload
  beyond less = received-by r payload (Ok d) is ∙ late r d (step_from r d.sequence) less

  within : step_from r d.sequence ≤ farthest → number_in (received r payload) ≡ sound
  within most = ap number_in (received-by r payload (Ok d) is ∙ in-time r d (step_from r d.sequence) most)

  told : number_in (received r payload) ≡ number OlderPayload → farthest < step_from r d.sequence
  told e =
      ⊎_elim (λ less. less) (λ most. let z : ◌≡◌ {A = ℕ} sound (number OlderPayload) = sym (within most) ∙ e in absurd (omega arith))
      (lt-or-le farthest (step_from r d.sequence))

module _ (r : Receiver) (refusal : Refusal) where
  abbrev Stood : Received → Type 0
  Stood x = x.answer ≡ Err refusal → x ≡ passed_over r refusal

  stood : (read : Result Digits Refusal) → Stood (received_by r read)
  stood (Ok d) = picked Stood (is_older farthest (step_from r d.sequence)) _ _ (λ late is. cc) (λ in_time is. cc)
  stood (Err refused) = λ is. cc

first : (r : Receiver) (payload : List ℕ) → r.heard ≡ false → number_in (received r payload) ≡ number OlderPayload → ⊥
first r payload fresh e = go (digits_read payload) refl
  where
    go : (read : Result Digits Refusal) → digits_read payload ≡ read → ⊥
    go (Ok d) is =
        let less : farthest < step_from r d.sequence = told r payload d is e in
        let three : step_from r d.sequence ≡ 3 = rw fresh refl in
        omega (arith, less, three)
    go (Err refusal) is = early payload refusal is (sym (ap number_in (received-by r payload (Err refusal) is)) ∙ e)

pub older : Older
older =
    record {
      after_reading = λ r payload refusal is. received-by r payload (Err refusal) is;
      not_read = λ payload is. early payload OlderPayload is refl;
      exactly = λ r payload d is. (told r payload d is, λ less. ap number_in (beyond r payload d is less));
      else_taken = within;
      stands = λ r payload refusal. unfold received in stood r refusal (digits_read payload);
      first = first;
    }
