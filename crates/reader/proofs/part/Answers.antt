-- `reader::part` meets its contract: the part asked for where the frame has it, else an empty one.
use native.Mathlib.Omega.{arith}
use Rattle.reader.proofs.Cases as cases
use Rattle.reader.proofs.part.Goals as goal

pub returns-then-frame-start : goal.returns-then-frame-start
returns-then-frame-start c = let a = c.args in
    cases.no_part a.frame.now a.frame.ref_ptr a.sub (omega (arith, c.if-frame-start.true))

pub returns-then-frame-start-2 : goal.returns-then-frame-start-2
returns-then-frame-start-2 c = let a = c.args in
    cases.no_part a.frame.now a.frame.ref_ptr a.sub (omega (arith, c.if-frame-start-2.true, c.if-frame-start.false))

pub returns : goal.returns
returns c = let a = c.args in
    cases.some-part a.frame.now a.frame.ref_ptr a.sub (omega (arith, c.if-frame-start-2.false, c.if-frame-start.false))
