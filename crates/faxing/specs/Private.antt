-- What serves private functions alone.
use Rattle.std.specs.Prelude.{ℕ, Result, Err, Ok}
use Rattle.refusal.specs.declared.Refusal.{Refusal}
use Rattle.refusal.specs.Order.{in_order}
use Rattle.fax.specs.declared.Command.{Command}
use Rattle.faxing.specs.declared.Receiver.{Receiver}
use Rattle.faxing.specs.Replay.{refusals}

-- the first refusal that holds
abbrev pub refusal_of : Receiver → Command → ℕ → Result Unit Refusal
refusal_of r command size = in_order (refusals r command size) Err (Ok tt)
