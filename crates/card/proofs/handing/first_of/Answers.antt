-- `card::handing::first_of` meets its contract: a header that is refused refuses the frame.
use mathlib.Core.Path.{sym, ap, ◌∙◌}
use Rattle.std.specs.declared.result.Result.TheVariants.{Err}
use Rattle.std.proofs.lemmas.Result.{err_from_is_err_and}
use Rattle.card.proofs.HandingCases as cases
use Rattle.card.proofs.handing.first_of.Goals as goal

pub returns-in_err-sub : goal.returns-in_err-sub
returns-in_err-sub c =
    let p = err_from_is_err_and c.from_residual.result c.from_residual.ensures.1 in
    p.1 ∙ ap Err p.2 ∙ cases.bad c.loop-before.invariant c.loop-before-test.true _ (sym c.header_at.ensures ∙ c.in_err-sub.was)
