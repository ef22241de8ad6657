-- `printing::line::put_line` meets its contract: the line where the room is there.
use Prim.Native.Nat.{◌+◌}
use lib.ListN.{length}
use Rattle.printing.specs.Field.{line}
use Rattle.printing.proofs.Appending as appending
use Rattle.printing.proofs.line.put_line.Goals as goal

pub returns-then-exceeds-clause-answer : goal.returns-then-exceeds-clause-answer
returns-then-exceeds-clause-answer c = let both = let a = c.args in
    appending.put-none (length a.text.now + 1) a.out.now (line a.text.now) a.at c.exceeds.ensures c.if-exceeds.true in both.0

pub returns-then-exceeds-clause-holds : goal.returns-then-exceeds-clause-holds
returns-then-exceeds-clause-holds c = let both = let a = c.args in
    appending.put-none (length a.text.now + 1) a.out.now (line a.text.now) a.at c.exceeds.ensures c.if-exceeds.true in both.1

pub returns-clause-answer : goal.returns-clause-answer
returns-clause-answer c = let both = let a = c.args in
    appending.put_all (length a.text.now + 1) a.out.now (line a.text.now) a.at c.exceeds.ensures c.if-exceeds.false c.append_line.ensures in both.0

pub returns-clause-holds : goal.returns-clause-holds
returns-clause-holds c = let both = let a = c.args in
    appending.put_all (length a.text.now + 1) a.out.now (line a.text.now) a.at c.exceeds.ensures c.if-exceeds.false c.append_line.ensures in both.1
