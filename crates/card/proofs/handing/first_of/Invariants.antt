-- `card::handing::first_of` meets its contract: each turn passes a sub-frame that does not serve.
use Rattle.std.specs.declared.option.Option.TheVariants.{Some}
use Rattle.card.proofs.HandingCases as cases
use Rattle.card.proofs.handing.first_of.Given as goal

abbrev pub invariant-loop-before : goal.invariant-loop-before
invariant-loop-before l = cases.Passed (Some l.rec) l.cid l.frame l.at l.before
