-- `printing::hex::put_hex_field` meets its contract: the line where the room is there.
use Prim.Native.Nat.{◌+◌, ◌*◌}
use lib.ListN.{length}
use Rattle.printing.specs.Field.{hex_field}
use Rattle.printing.proofs.Appending as appending
use Rattle.printing.proofs.hex.put_hex_field.Goals as goal

pub returns-then-hex_exceeds-clause-answer : goal.returns-then-hex_exceeds-clause-answer
returns-then-hex_exceeds-clause-answer c = let both = let a = c.args in
    appending.put-none (length a.key.now + (2 * length a.octets.now + 1)) a.out.now (hex_field a.key.now a.octets.now) a.at c.hex_exceeds.ensures c.if-hex_exceeds.true in both.0

pub returns-then-hex_exceeds-clause-holds : goal.returns-then-hex_exceeds-clause-holds
returns-then-hex_exceeds-clause-holds c = let both = let a = c.args in
    appending.put-none (length a.key.now + (2 * length a.octets.now + 1)) a.out.now (hex_field a.key.now a.octets.now) a.at c.hex_exceeds.ensures c.if-hex_exceeds.true in both.1

pub returns-clause-answer : goal.returns-clause-answer
returns-clause-answer c = let both = let a = c.args in
    appending.put_all (length a.key.now + (2 * length a.octets.now + 1)) a.out.now (hex_field a.key.now a.octets.now) a.at c.hex_exceeds.ensures c.if-hex_exceeds.false c.append_hex_field.ensures in both.0

pub returns-clause-holds : goal.returns-clause-holds
returns-clause-holds c = let both = let a = c.args in
    appending.put_all (length a.key.now + (2 * length a.octets.now + 1)) a.out.now (hex_field a.key.now a.octets.now) a.at c.hex_exceeds.ensures c.if-hex_exceeds.false c.append_hex_field.ensures in both.1
