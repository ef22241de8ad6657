-- `following::following::put_subs` meets its contract: each turn puts the sub-frame whose header is next.
use Rattle.following.proofs.Turns as turns
use Rattle.following.proofs.following.put_subs.Given as goal

abbrev pub invariant-loop : goal.invariant-loop
invariant-loop l = turns.Going l.n l.table l.cid l.frame l.initial.trunk l.initial.out l.out l.at l.next l.trunk l.place l.counter
