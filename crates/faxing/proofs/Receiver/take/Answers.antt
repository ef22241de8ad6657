-- `faxing::Receiver::take` meets its contract: what 41 or 42 refuses.
use mathlib.Core.Path.{◌≡◌, sym, ap, ◌∙◌}
use Rattle.std.specs.declared.result.Result.TheVariants.{Err}
use Rattle.std.proofs.lemmas.Result.{err_from_is_err_and}
use Rattle.faxing.specs.Replay.{Received, refused, taken_by}
use Rattle.faxing.proofs.Taken.{turned_away}
use Rattle.faxing.proofs.Receiver.take.Goals as goal
use Rattle.faxing.proofs.Receiver.take.Goals.{In_err-refusal_of}

stood : (c : In_err-refusal_of) → taken_by c.args.self.now c.args.fax.sequence c.args.fax.stamp c.args.fax.command c.args.body.now ≡ refused c.args.self.now c.in_err-refusal_of.field-0.0
stood c = turned_away _ _ c.args.fax.stamp c.args.fax.command c.args.body.now _ (sym c.refusal_of.ensures ∙ c.in_err-refusal_of.was)

pub returns-in_err-refusal_of-clause-answer : goal.returns-in_err-refusal_of-clause-answer
returns-in_err-refusal_of-clause-answer c =
    let p = err_from_is_err_and c.from_residual.result c.from_residual.ensures.1 in
    p.1 ∙ ap Err p.2 ∙ sym (ap (λ (x : Received). x.answer) (stood (goal.at.returns-in_err-refusal_of-clause-answer c).In_err-refusal_of))

pub returns-in_err-refusal_of-clause-after : goal.returns-in_err-refusal_of-clause-after
returns-in_err-refusal_of-clause-after c =
    sym (ap (λ (x : Received). x.receiver) (stood (goal.at.returns-in_err-refusal_of-clause-after c).In_err-refusal_of))
