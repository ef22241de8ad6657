-- `rows::reads::read_subs` is safe: the sub-frame whose header is next lies within the frame.
use lib.ListN.{drop}
use Rattle.frame.specs.Opening.{opening}
use Rattle.frame.proofs.Chain.{Chain}
use Rattle.rows.proofs.reads.read_subs.Given as goal

abbrev pub invariant-loop : goal.invariant-loop
invariant-loop l = Chain l.frame l.at (drop l.counter (opening l.frame).subs)
