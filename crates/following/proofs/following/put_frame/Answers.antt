-- `following::following::put_frame` meets its contract: the sub-frames of a sound frame, or the refusal.
use mathlib.Core.Path.{sym, ◌∙◌}
use Rattle.following.proofs.Turns as turns
use Rattle.following.proofs.following.put_frame.Goals as goal

pub returns-in-Ok : goal.returns-in-Ok
returns-in-Ok c = turns.stands-as c.put_subs.ensures (turns.of-sound c.args.n c.args.table.now c.args.cid c.args.frame.now c.args.trunk.now (sym c.check.ensures ∙ c.in-Ok.is))

pub returns-in-Err : goal.returns-in-Err
returns-in-Err c =
    let lines = turns.refused _ _ _ _ _ c.args.trunk.now c.requires.at_in_bounds c.number.ensures (c.put_refused.ensures.answer, c.put_refused.ensures.holds) in
    turns.stands-as lines (turns.of-refused c.args.n c.args.table.now c.args.cid c.args.frame.now c.args.trunk.now (sym c.check.ensures ∙ c.in-Err.is))
