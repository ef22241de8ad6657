-- `writer::write::write` meets its contract, whatever the content.
use mathlib.Core.Path.{◌≡◌, ap, ◌∙◌}
use Rattle.std.specs.declared.result.Result.TheVariants.{Err}
use Rattle.std.proofs.lemmas.Result.{err_from_is_err_and}
use Rattle.record.specs.Record.{found_at}
use Rattle.payload.specs.Content.{kind_of}
use Rattle.place.specs.Place.{channel_for}
use Rattle.place.proofs.EnterCases.{as-one, enters}
use Rattle.writer.specs.Answers.{answered}
use Rattle.writer.proofs.WriteCases as cases
use Rattle.writer.proofs.write.write.Goals as goal
use Rattle.writer.proofs.write.write.Goals.{After-channel_for}
use Rattle.writer.proofs.write.write.Given.{Over}

-- the channel is that of the content's kind
told : (g : Over) (c : After-channel_for g) → let a = c.args in c.channel_for.result ≡ channel_for a.writer (found_at a.table.now a.cid) a.cid (kind_of (g.C.Content.says a.content.now))
told g c = let a = c.args in
    c.channel_for.ensures ∙ ap (channel_for a.writer (found_at a.table.now a.cid) a.cid) c.kind.ensures

pub returns-in_err-channel-clause-answer : goal.returns-in_err-channel-clause-answer
returns-in_err-channel-clause-answer g c =
    let p = err_from_is_err_and c.from_residual.result c.from_residual.ensures.1 in
    p.1 ∙ ap Err p.2 ∙ (cases.not_taken answered _ _ _ _ _ _ (told g (goal.at.returns-in_err-channel-clause-answer g c).After-channel_for) c.in_err-channel.was).0

pub returns-in_err-channel-clause-holds : goal.returns-in_err-channel-clause-holds
returns-in_err-channel-clause-holds g c =
    (cases.not_taken answered _ _ _ _ _ _ (told g (goal.at.returns-in_err-channel-clause-holds g c).After-channel_for) c.in_err-channel.was).1

pub returns-in_err-entered-clause-answer : goal.returns-in_err-entered-clause-answer
returns-in_err-entered-clause-answer g c =
    let a = c.args in
    let p = err_from_is_err_and c.from_residual-in_err-entered.result c.from_residual-in_err-entered.ensures.1 in
    p.1 ∙ ap Err p.2
    ∙ (cases.refused answered _ _ _ _ _ _ (told g (goal.at.returns-in_err-entered-clause-answer g c).After-channel_for) c.in_ok-channel.was c.fit-fit.ensures (ap as-one c.enter.ensures ∙ enters _ _ _ _ _ _) (ap as-one c.in_err-entered.was)).0

pub returns-in_err-entered-clause-holds : goal.returns-in_err-entered-clause-holds
returns-in_err-entered-clause-holds g c =
    (cases.refused answered _ _ _ _ _ _ (told g (goal.at.returns-in_err-entered-clause-holds g c).After-channel_for) c.in_ok-channel.was c.fit-fit.ensures (ap as-one c.enter.ensures ∙ enters _ _ _ _ _ _) (ap as-one c.in_err-entered.was)).1

pub returns-in_err-place-clause-answer : goal.returns-in_err-place-clause-answer
returns-in_err-place-clause-answer g c =
    let p = err_from_is_err_and c.from_residual-in_err-place.result c.from_residual-in_err-place.ensures.1 in
    p.1 ∙ ap Err p.2
    ∙ (cases.refused answered _ _ _ _ _ _ (told g (goal.at.returns-in_err-place-clause-answer g c).After-channel_for) c.in_ok-channel.was c.fit-fit.ensures (ap as-one c.enter.ensures ∙ enters _ _ _ _ _ _) (ap as-one c.in_ok-entered.was ∙ c.in_err-place.was)).0

pub returns-in_err-place-clause-holds : goal.returns-in_err-place-clause-holds
returns-in_err-place-clause-holds g c =
    (cases.refused answered _ _ _ _ _ _ (told g (goal.at.returns-in_err-place-clause-holds g c).After-channel_for) c.in_ok-channel.was c.fit-fit.ensures (ap as-one c.enter.ensures ∙ enters _ _ _ _ _ _) (ap as-one c.in_ok-entered.was ∙ c.in_err-place.was)).1

pub returns-clause-answer : goal.returns-clause-answer
returns-clause-answer g c =
    (cases.wrote answered _ _ _ _ _ _ (told g (goal.at.returns-clause-answer g c).After-channel_for) c.in_ok-channel.was c.fit-fit.ensures (ap as-one c.enter.ensures ∙ enters _ _ _ _ _ _) (ap as-one c.in_ok-entered.was ∙ c.in_ok-place.was) c.put.ensures c.lead.ensures.answer c.lead.ensures.holds).0

pub returns-clause-holds : goal.returns-clause-holds
returns-clause-holds g c =
    (cases.wrote answered _ _ _ _ _ _ (told g (goal.at.returns-clause-holds g c).After-channel_for) c.in_ok-channel.was c.fit-fit.ensures (ap as-one c.enter.ensures ∙ enters _ _ _ _ _ _) (ap as-one c.in_ok-entered.was ∙ c.in_ok-place.was) c.put.ensures c.lead.ensures.answer c.lead.ensures.holds).1
