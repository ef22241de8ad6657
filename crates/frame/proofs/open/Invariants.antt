-- `frame::open` meets its contract: the headers that were checked tell the sub-frames, one a turn.
use Rattle.frame.proofs.OpeningList as list
use Rattle.frame.proofs.open.Given as goal

abbrev pub invariant-loop-i : goal.invariant-loop-i
invariant-loop-i l = list.Listed l.frame l.subs l.at l.i
