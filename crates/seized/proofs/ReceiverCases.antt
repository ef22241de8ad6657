-- What the receiver's definitions give in each of their cases.
use Prim.Native.Nat.{ℕ, ◌<◌, ◌≤◌}
use mathlib.Core.Path.{◌≡◌, ap}
use mathlib.Core.List.{List}
use borrow.Author.Tests.{lt-ltb, le-ltb}
use Rattle.std.specs.declared.result.Result.{Result}
use Rattle.std.specs.declared.result.Result.TheVariants.{Ok, Err}
use Rattle.refusal.specs.declared.Refusal.{Refusal}
use Rattle.refusal.specs.declared.Refusal.TheVariants.{OlderPayload}
use Rattle.signalling.specs.declared.layout.Signalling.{Signalling}
use Rattle.seized.specs.declared.Receiver.{Receiver}
use Rattle.signalling.specs.Layout.{signalling_read}
use Rattle.seized.specs.Receiver.{farthest, step_from, appended, passed_over, replayed, received_by, received}

pub late : (r : Receiver) (s : Signalling) (step : ℕ) → farthest < step → replayed r s step ≡ passed_over r OlderPayload
late r s step less = simp (lt-ltb farthest step less)

pub in-time : (r : Receiver) (s : Signalling) (step : ℕ) → step ≤ farthest → replayed r s step ≡ appended r s step
in-time r s step most = simp (le-ltb farthest step most)

module _ (r : Receiver) (payload : List ℕ) where
  pub received-by : (read : Result Signalling Refusal) → signalling_read payload ≡ read → received r payload ≡ received_by r read
  unfolding received
  received-by read is = ap (received_by r) is

  pub accepted : (s : Signalling) → signalling_read payload ≡ Ok s → received r payload ≡ replayed r s (step_from r s.sequence)
  accepted s is = received-by (Ok s) is

  pub refused : (refusal : Refusal) → signalling_read payload ≡ Err refusal → received r payload ≡ passed_over r refusal
  refused refusal is = received-by (Err refusal) is
