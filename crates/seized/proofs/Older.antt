-- The claims of specs/Claims.antt, by what reading gives and by the step.
use Prim.Native.Nat.{ℕ, ◌<◌, ◌≤◌}
use mathlib.Core.Path.{◌≡◌, refl, sym, ap, ◌∙◌}
use mathlib.Core.List.{List}
use mathlib.Core.Bool.{Bool, true, false, cond}
use mathlib.Core.Logic.{⊎_elim}
use native.Mathlib.Omega.{arith}
use lib.Dec.{eqb}
use lib.ListN.{length}
use Rattle.std.specs.declared.result.Result.{Result}
use Rattle.std.specs.declared.result.Result.TheVariants.{Ok, Err}
use Rattle.refusal.specs.Numbers.{number, sound}
use Rattle.refusal.specs.declared.Refusal.{Refusal}
use Rattle.refusal.specs.declared.Refusal.TheVariants.{LengthWrong, OlderPayload}
use Rattle.octets.proofs.Order.{lt-or-le, picked}
use Rattle.replay.specs.Rule.{older as is_older}
use Rattle.signalling.specs.declared.layout.Signalling.{Signalling}
use Rattle.signalling.specs.Layout.{signalling_in, signalling_read}
use Rattle.seized.specs.declared.Receiver.{Receiver}
use Rattle.seized.specs.Receiver.{Received, farthest, step_from, passed_over, received_by, received, number_in}
use Rattle.seized.specs.Claims.{Older}
use Rattle.seized.proofs.ReceiverCases.{late, in-time, accepted, refused}

not_read : (payload : List ℕ) (refusal : Refusal) → signalling_read payload ≡ Err refusal → number refusal ≡ number OlderPayload → ⊥
unfolding signalling_read
not_read payload refusal is = go (eqb (length payload) 16) is
  where
    go : (t : Bool) → cond t (Ok (signalling_in payload)) (Err LengthWrong) ≡ Err refusal → number refusal ≡ number OlderPayload → ⊥
    go true e = cc
    go false e = let same : LengthWrong ≡ refusal = cc in rw (← same) (λ z. omega arith)

module _ (r : Receiver) (refusal : Refusal) where
  abbrev Stood : Received → Type 0
  Stood x = x.answer ≡ Err refusal → x ≡ passed_over r refusal

  stood : (read : Result Signalling Refusal) → Stood (received_by r read)
  stood (Ok s) = picked Stood (is_older farthest (step_from r s.sequence)) _ _ (λ late is. cc) (λ in_time is. cc)
  stood (Err refused) = λ is. cc

module _ (r : Receiver) (payload : List ℕ) where
  -- a payload that reads, by its step
  module _ (s : Signalling) (reads : signalling_read payload ≡ Ok s) where
    beyond : farthest < step_from r s.sequence → received r payload ≡ passed_over r OlderPayload
    beyond less = accepted r payload s reads ∙ late r s (step_from r s.sequence) less

    within : step_from r s.sequence ≤ farthest → number_in (received r payload) ≡ sound
    within most = ap number_in (accepted r payload s reads ∙ in-time r s (step_from r s.sequence) most)

    told : number_in (received r payload) ≡ number OlderPayload → farthest < step_from r s.sequence
    told e =
        ⊎_elim (λ less. less)
        (λ most. let taken = within most in absurd (omega arith))
        (lt-or-le farthest (step_from r s.sequence))

  first : r.heard ≡ false → number_in (received r payload) ≡ number OlderPayload → ⊥
  first fresh e = go (signalling_read payload) refl
    where
      go : (read : Result Signalling Refusal) → signalling_read payload ≡ read → ⊥
      go (Ok s) is =
          let less : farthest < step_from r s.sequence = told s is e in
          let three : step_from r s.sequence ≡ 3 = rw fresh refl in
          omega (arith, less, three)
      go (Err refusal) is = not_read payload refusal is (sym (ap number_in (refused r payload refusal is)) ∙ e)

pub older : Older
older =
    record {
      after_reading = refused;
      not_read = not_read;
      exactly = λ r payload s reads. (told r payload s reads, λ less. ap number_in (beyond r payload s reads less));
      else_taken = within;
      stands = λ r payload refusal. unfold received in stood r refusal (signalling_read payload);
      first = first;
    }
