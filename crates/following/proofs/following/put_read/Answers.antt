-- `following::following::put_read` meets its contract: the frame, or the refusal of the line.
use Rattle.following.proofs.Turns as turns
use Rattle.following.proofs.following.put_read.Goals as goal

pub returns-in-Err : goal.returns-in-Err
returns-in-Err c =
    rw c.in-Err.is
    (turns.refused _ _ _ c.in-Err.refusal _ c.args.trunk.now c.requires.at_in_bounds c.number.ensures (c.put_refused.ensures.answer, c.put_refused.ensures.holds))
