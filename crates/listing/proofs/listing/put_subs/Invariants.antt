-- `listing::listing::put_subs` meets its contract: each turn puts the sub-frame whose header is next.
use Rattle.listing.proofs.SubsTurns as turns
use Rattle.listing.proofs.listing.put_subs.Given as goal

abbrev pub invariant-loop : goal.invariant-loop
invariant-loop l = turns.Going l.table l.frame l.initial.out l.out l.at l.next l.place l.counter
