-- `printing::refused::put_refused_text` meets its contract: two fields where the room is there.
use Rattle.printing.specs.Refused.{text_listing}
use Rattle.printing.proofs.Appending as appending
use Rattle.printing.proofs.refused.put_refused_text.Goals as goal

pub returns-then-exceeds-clause-answer : goal.returns-then-exceeds-clause-answer
returns-then-exceeds-clause-answer c = let both = let a = c.args in
    appending.put-none 52 a.out.now (text_listing a.number a.line) a.at c.exceeds.ensures c.if-exceeds.true in both.0

pub returns-then-exceeds-clause-holds : goal.returns-then-exceeds-clause-holds
returns-then-exceeds-clause-holds c = let both = let a = c.args in
    appending.put-none 52 a.out.now (text_listing a.number a.line) a.at c.exceeds.ensures c.if-exceeds.true in both.1

pub returns-clause-answer : goal.returns-clause-answer
returns-clause-answer c = let both = let a = c.args in
    appending.put_all 52 a.out.now (text_listing a.number a.line) a.at c.exceeds.ensures c.if-exceeds.false c.append_refused_text.ensures in both.0

pub returns-clause-holds : goal.returns-clause-holds
returns-clause-holds c = let both = let a = c.args in
    appending.put_all 52 a.out.now (text_listing a.number a.line) a.at c.exceeds.ensures c.if-exceeds.false c.append_refused_text.ensures in both.1
