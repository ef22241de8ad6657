-- `frame::check` meets its contract: it hands on what the scan tells, and of a refused one its refusal and place.
use mathlib.Core.Path.{sym, ◌∙◌}
use Rattle.std.specs.declared.result.Result.{Result}
use Rattle.std.specs.declared.result.Result.TheVariants.{Ok, Err}
use Rattle.std.specs.Result.{IsErrAnd}
use Rattle.std.proofs.Common.{rules}
use Rattle.std.proofs.lemmas.Bool.{eqb-true, eqb-false}
use Rattle.std.proofs.lemmas.Result.{MatchResult-weaker}
use Rattle.frame.proofs.OpeningTurns as turns
use Rattle.frame.proofs.check.Goals as goal

pub returns-then-is_empty : goal.returns-then-is_empty
returns-then-is_empty c = turns.empty-checked _ (eqb-true _ _ (sym c.is_empty.ensures ∙ c.if-is_empty.true))

pub returns-then-not-field_fits : goal.returns-then-not-field_fits
returns-then-not-field_fits c =
    turns.unfit-checked _ (eqb-false _ _ (sym c.is_empty.ensures ∙ c.if-is_empty.false)) (sym c.field_fits.ensures ∙ c.if-not-field_fits.true)

err-weaker : {T E : Type 0} (r : Result T E) (P Q : E → Type 0) → ((e : E) → P e → Q e) → IsErrAnd r P → IsErrAnd r Q
err-weaker (Ok x) P Q f h = h
err-weaker (Err e) P Q f h = f e h

pub returns : goal.returns
returns c =
    turns.fit-checked _ (sym c.field_fits.ensures ∙ c.if-not-field_fits.false) _ _ c.scan_from.ensures
    (MatchResult-weaker c.scan_from.result c.map_err.ensures.cases (λ x h. h) (λ e h. err-weaker c.map_err.result _ _ (λ y k. search rules) h))
