-- `faxing::handed_on` meets its contract: after i turns the first i places are filled.
use mathlib.Core.Path.{◌≡◌}
use Rattle.faxing.proofs.Places.{filled}
use Rattle.faxing.proofs.handed_on.Given as goal

abbrev pub invariant-loop-i : goal.invariant-loop-i
invariant-loop-i l = l.octets ≡ filled l.body l.count l.i
