-- A refused payload does nothing, and the replay is as it was, whatever its state. Proved in proofs/Refused.antt.
use Rattle.std.specs.Prelude.{ℕ, ◌≡◌, List, Err}
use Rattle.refusal.specs.declared.Refusal.{Refusal}
use Rattle.faxing.specs.declared.Receiver.{Receiver}
use Rattle.faxing.specs.Replay.{refused, received}

abbrev pub RefusedStands : Type 0
RefusedStands =
    (r : Receiver) (p : List ℕ) (refusal : Refusal) → (received r p).answer ≡ Err refusal → received r p ≡ refused r refusal
