-- `octets::put_octets` meets its contract: past the test the octets fit.
use Prim.Native.Nat.{◌+◌, ◌≤◌}
use mathlib.Core.Path.{sym, ◌∙◌}
use borrow.Author.Tests.{ltb-true, ltb-false}
use lib.ListN.{length}
use Rattle.octets.proofs.Writes as writes
use Rattle.octets.proofs.put_octets.Goals as goal
use Rattle.octets.proofs.put_octets.Goals.{Else-exceeds}

-- past the test
fits : (c : Else-exceeds) → let a = c.args in a.at + length a.octets.now ≤ length a.room.now
fits c = ltb-false _ _ (sym c.exceeds.ensures ∙ c.if-exceeds.false)

pub returns-then-exceeds-clause-answer : goal.returns-then-exceeds-clause-answer
returns-then-exceeds-clause-answer c = let a = c.args in writes.too_small a.room.now a.octets.now a.at (ltb-true _ _ (sym c.exceeds.ensures ∙ c.if-exceeds.true))

pub returns-clause-answer : goal.returns-clause-answer
returns-clause-answer c = let a = c.args in writes.room_for a.room.now a.octets.now a.at (fits (goal.at.returns-clause-answer c).Else-exceeds)
