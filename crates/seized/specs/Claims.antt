-- Older payloads (document 02, wish 3), for every receiver and every payload. Proved in proofs/Older.antt.
use Rattle.std.specs.Prelude.{ℕ, ◌<◌, ◌≤◌, ◌≡◌, ◌↔◌, List, false, Ok, Err}
use Rattle.refusal.specs.Numbers.{number, sound}
use Rattle.refusal.specs.declared.Refusal.{Refusal}
use Rattle.refusal.specs.declared.Refusal.TheVariants.{OlderPayload}
use Rattle.signalling.specs.declared.layout.Signalling.{Signalling}
use Rattle.signalling.specs.Layout.{signalling_read}
use Rattle.seized.specs.declared.Receiver.{Receiver}
use Rattle.seized.specs.Receiver.{farthest, step_from, passed_over, received, number_in}

pub record Older : Type 0 where
  -- "19 older payload, after 15": what reading refuses is refused as that, and it is never 19
  pub after_reading : (r : Receiver) (payload : List ℕ) (refusal : Refusal) → signalling_read payload ≡ Err refusal → received r payload ≡ passed_over r refusal
  pub not_read : (payload : List ℕ) (refusal : Refusal) → signalling_read payload ≡ Err refusal → number refusal ≡ number OlderPayload → ⊥
  -- "steps of 64 to 127": a payload that reads is refused with 19 exactly when its step lies beyond the farthest, and else taken
  pub exactly : (r : Receiver) (payload : List ℕ) (s : Signalling) → signalling_read payload ≡ Ok s → number_in (received r payload) ≡ number OlderPayload ↔ farthest < step_from r s.sequence
  pub else_taken : (r : Receiver) (payload : List ℕ) (s : Signalling) → signalling_read payload ≡ Ok s → step_from r s.sequence ≤ farthest → number_in (received r payload) ≡ sound
  -- "change nothing": whatever the refusal, the receiver is the receiver at entry, and nothing is appended
  pub stands : (r : Receiver) (payload : List ℕ) (refusal : Refusal) → (received r payload).answer ≡ Err refusal → received r payload ≡ passed_over r refusal
  -- a first payload is never older
  pub first : (r : Receiver) (payload : List ℕ) → r.heard ≡ false → number_in (received r payload) ≡ number OlderPayload → ⊥
