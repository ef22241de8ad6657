-- Older payloads (document 02, wish 3), for every receiver and every payload. Proved in proofs/Older.antt.
use Rattle.std.specs.Prelude.{ℕ, ◌<◌, ◌≤◌, ◌≡◌, ◌↔◌, List, false, Ok, Err}
use Rattle.refusal.specs.declared.Refusal.{Refusal}
use Rattle.refusal.specs.declared.Refusal.TheVariants.{OlderPayload}
use Rattle.refusal.specs.Numbers.{sound, number}
use Rattle.digits.specs.declared.layout.Digits.{Digits}
use Rattle.digits.specs.Layout.{digits_read}
use Rattle.dialled.specs.declared.Receiver.{Receiver}
use Rattle.dialled.specs.Receiver.{farthest, step_from, passed_over, received, number_in}

pub record Older : Type 0 where
  -- "19 older payload, after 15": what reading refuses is refused as that, and it is never 19
  pub after_reading : (r : Receiver) (payload : List ℕ) (refusal : Refusal) → digits_read payload ≡ Err refusal → received r payload ≡ passed_over r refusal
  pub not_read : (payload : List ℕ) → digits_read payload ≡ Err OlderPayload → ⊥
  -- "steps of .. 128 to 255": a payload that reads is refused with 19 exactly when its step lies beyond the farthest, and else taken
  pub exactly : (r : Receiver) (payload : List ℕ) (d : Digits) → digits_read payload ≡ Ok d → number_in (received r payload) ≡ number OlderPayload ↔ farthest < step_from r d.sequence
  pub else_taken : (r : Receiver) (payload : List ℕ) (d : Digits) → digits_read payload ≡ Ok d → step_from r d.sequence ≤ farthest → number_in (received r payload) ≡ sound
  -- "change nothing": whatever the refusal, the receiver is the receiver at entry, and nothing is appended
  pub stands : (r : Receiver) (payload : List ℕ) (refusal : Refusal) → (received r payload).answer ≡ Err refusal → received r payload ≡ passed_over r refusal
  -- a first payload is never older
  pub first : (r : Receiver) (payload : List ℕ) → r.heard ≡ false → number_in (received r payload) ≡ number OlderPayload → ⊥
