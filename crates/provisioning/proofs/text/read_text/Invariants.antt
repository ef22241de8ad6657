-- `provisioning::text::read_text` meets its contract: each turn reads one line, and what stops the loop stops the walk.
use lib.ListN.{length}
use Rattle.provisioning.proofs.Turns as turns
use Rattle.provisioning.proofs.text.read_text.Given as goal

abbrev pub invariant-loop-rest : goal.invariant-loop-rest
invariant-loop-rest l = turns.Going l.text l.rest l.places l.state l.done l.blocks

abbrev pub decreases-loop-rest : goal.decreases-loop-rest
decreases-loop-rest l = length l.rest
