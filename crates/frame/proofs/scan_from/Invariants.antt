-- `frame::scan_from` meets its contract: each turn finds one sub-frame more, and what stops the loop stops the scan.
use Rattle.frame.specs.Opening.{scan}
use Rattle.frame.proofs.OpeningTurns as turns
use Rattle.frame.proofs.scan_from.Given as goal

abbrev pub invariant-loop-count : goal.invariant-loop-count
invariant-loop-count l = turns.Passed l.frame l.room (scan l.room l.frame l.from) l.at l.count
