-- `console::input::read_line` meets its contract: each character that is kept is no LF.
use Rattle.std.proofs.Common.{◌≡◌, arith}
use native.Mathlib.Numerals.{add-one}
use Rattle.console.proofs.Kept as kept
use Rattle.console.proofs.input.read_line.Goals as goal

pub loop-size-init : goal.loop-size-init
loop-size-init g c = kept.none c.args.room.now

pub loop-size-preserved : goal.loop-size-preserved
loop-size-preserved g c =
    let l = c.loop-size in
    rw (c.keep.ensures, add-one l.size) (kept.one_more l.room l.size c.in-Some.character (rw c.in-Some.is at c.in-Some.character-test.1) l.invariant)

pub returns : goal.returns
returns g c = let all : c.loop-size.size ≡ 18446744073709551615 = omega arith in rw all at c.loop-size.invariant
