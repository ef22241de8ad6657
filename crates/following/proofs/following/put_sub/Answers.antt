-- `following::following::put_sub` meets its contract: of another sub-channel nothing; else what the trunk tells.
use Rattle.following.proofs.Turns as turns
use Rattle.following.proofs.following.put_sub.Goals as goal

pub returns-then-sub-cid : goal.returns-then-sub-cid
returns-then-sub-cid c = let a = c.args in turns.other a.n a.table.now a.cid a.frame.now a.sub a.trunk.now a.out.now a.at c.if-sub-cid.true

pub returns : goal.returns
returns c = let a = c.args in
    turns.own a.n a.table.now a.cid a.frame.now a.sub a.trunk.now c.if-sub-cid.false c.record_of-found.ensures c.take-answer.ensures.answer c.take-answer.ensures.after c.put_lines.ensures
