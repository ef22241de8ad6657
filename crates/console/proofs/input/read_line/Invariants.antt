-- What the room has of the line has no LF.
use Rattle.std.proofs.Common.{◌≡◌, false, take}
use Rattle.octets.specs.Text.{has_lf}
use Rattle.console.proofs.input.read_line.Given as goal

abbrev pub invariant-loop-size : goal.invariant-loop-size
invariant-loop-size g l = has_lf (take l.size l.room) ≡ false
