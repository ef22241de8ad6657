-- `printing::field::put_field` meets its contract: the field where the room is there.
use Prim.Native.Nat.{◌+◌}
use lib.ListN.{length}
use Rattle.printing.specs.Field.{field}
use Rattle.printing.proofs.Appending as appending
use Rattle.printing.proofs.field.put_field.Goals as goal

pub returns-then-exceeds-clause-answer : goal.returns-then-exceeds-clause-answer
returns-then-exceeds-clause-answer c = let both = let a = c.args in
    appending.put-none (length a.key.now + 21) a.out.now (field a.key.now a.n) a.at c.exceeds.ensures c.if-exceeds.true in both.0

pub returns-then-exceeds-clause-holds : goal.returns-then-exceeds-clause-holds
returns-then-exceeds-clause-holds c = let both = let a = c.args in
    appending.put-none (length a.key.now + 21) a.out.now (field a.key.now a.n) a.at c.exceeds.ensures c.if-exceeds.true in both.1

pub returns-clause-answer : goal.returns-clause-answer
returns-clause-answer c = let both = let a = c.args in
    appending.put_all (length a.key.now + 21) a.out.now (field a.key.now a.n) a.at c.exceeds.ensures c.if-exceeds.false c.append_field.ensures in both.0

pub returns-clause-holds : goal.returns-clause-holds
returns-clause-holds c = let both = let a = c.args in
    appending.put_all (length a.key.now + 21) a.out.now (field a.key.now a.n) a.at c.exceeds.ensures c.if-exceeds.false c.append_field.ensures in both.1
