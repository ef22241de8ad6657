-- `listing::stream::list_last` meets its contract: the line that is kept, where there is one and the room is there.
use Rattle.listing.proofs.StreamTurns as turns
use Rattle.listing.proofs.stream.list_last.Goals as goal

pub returns-then-begun-eq0 : goal.returns-then-begun-eq0
returns-then-begun-eq0 c = let both = turns.none_kept c.args.table.now c.args.begun c.args.kept.now c.args.out.now c.if-begun-eq0.true in record { says = both.0; holds = both.1 }

pub returns : goal.returns
returns c =
    let both = turns.kept-listed _ _ _ c.args.out.now c.if-begun-eq0.false c.least-end.ensures c.list_line.ensures.answer c.list_line.ensures.holds in
    rw c.unwrap_or.ensures (record { says = both.0; holds = both.1 })
