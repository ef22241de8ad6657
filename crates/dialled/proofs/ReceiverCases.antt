-- What the receiver's definitions give in each of their cases.
use Prim.Native.Nat.{ℕ, ◌<◌, ◌≤◌}
use mathlib.Core.Path.{◌≡◌, ap}
use mathlib.Core.List.{List}
use borrow.Author.Tests.{lt-ltb, le-ltb}
use Rattle.digits.specs.declared.layout.Digits.{Digits}
use Rattle.dialled.specs.declared.Receiver.{Receiver}
use Rattle.digits.specs.Layout.{digits_read}
use Rattle.dialled.specs.Receiver.{farthest, appended, passed_over, replayed, received_by, received}
use Rattle.refusal.specs.declared.Refusal.{Refusal}
use Rattle.std.specs.declared.result.Result.{Result}
use Rattle.refusal.specs.declared.Refusal.TheVariants.{OlderPayload}

pub late : (r : Receiver) (d : Digits) (step : ℕ) → farthest < step → replayed r d step ≡ passed_over r OlderPayload
late r d step less = simp (lt-ltb farthest step less)

pub in-time : (r : Receiver) (d : Digits) (step : ℕ) → step ≤ farthest → replayed r d step ≡ appended r d step
in-time r d step most = simp (le-ltb farthest step most)

pub received-by : (r : Receiver) (payload : List ℕ) (x : Result Digits Refusal) → digits_read payload ≡ x → received r payload ≡ received_by r x
unfolding received
received-by r payload x e = ap (received_by r) e
