-- `hexline::read_line` meets its contract: where the octets exceed the room, it stays as it was.
use Rattle.std.proofs.Common.{◌<◌, ◌-◌, length, take, drop, sym, arith, lt-ltb}
use Rattle.octets.proofs.Writes.{written_none}
use Rattle.hexline.specs.Hex.{paired}
use Rattle.hexline.proofs.LineCases as cases
use Rattle.hexline.proofs.read_line.Goals as goal

pub returns-then-frame-count-clause-holds : goal.returns-then-frame-count-clause-holds
returns-then-frame-count-clause-holds c =
    let line = c.args.line.now in
    let keyed = sym c.if-not-starts.ensures in
    let lf = c.if-line-last-ne-LF.false in
    let whole = cases.whole line keyed lf c.if-count-gt-MOST_CHARACTERS.false c.if-count-eq1.false (sym c.if-any_other.ensures) in
    let short : length c.args.frame.now < length (paired (take (length line - 1 - 6) (drop 6 line))) = omega (arith, cases.size line keyed lf) in
    rw whole (simp (lt-ltb _ _ short) (sym (written_none c.args.frame.now 0)))
