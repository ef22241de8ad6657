-- `following::stream::follow_last` meets its contract: the line that is kept, where there is one and the room is there.
use native.Mathlib.Omega.{arith}
use lib.ListN.{replicate}
use Rattle.following.proofs.StreamTurns as turns
use Rattle.following.proofs.stream.follow_last.Goals as goal
use Rattle.following.proofs.stream.follow_last.Goals.{then-begun-eq0-via-then-begun-eq0, then-begun-eq0-via-else-begun-eq0+then-out-lt-MOST_FOLLOWED}

pub returns-then-begun-eq0 : goal.returns-then-begun-eq0
returns-then-begun-eq0 c =
    let both : turns.LastPromised c.args.table.now c.args.cid c.args.begun c.args.kept.now c.args.trunk c.args.out.now 0 c.args.out.now =
    elim c.then-begun-eq0.branch [
      | then-begun-eq0-via-then-begun-eq0 w ↦ turns.none_kept _ _ _ _ _ _ w.if-begun-eq0.true
      | then-begun-eq0-via-else-begun-eq0+then-out-lt-MOST_FOLLOWED w ↦ turns.no_room _ _ _ _ _ _ w.if-begun-eq0.false w.if-out-lt-MOST_FOLLOWED.true
    ]
    in
    record { says = both.0; holds = both.1 }

pub returns : goal.returns
returns c =
    let both =
    turns.last c.args.table.now c.args.cid c.args.begun c.args.kept.now c.args.trunk c.args.out.now c.if-begun-eq0.false (replicate 1600 0) c.if-out-lt-MOST_FOLLOWED.false c.least-end.ensures (omega arith) c.read_line-read.ensures.says
    c.read_line-read.ensures.holds c.put_read.ensures
    in
    record { says = both.0; holds = both.1 }
