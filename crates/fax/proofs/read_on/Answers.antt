-- `fax::read_on` meets its contract.
use mathlib.Core.Path.{◌≡◌, sym, ◌∙◌}
use mathlib.Core.Bool.{false}
use Rattle.fax.specs.Fax.{ei2_in, on_in, refused_on}
use Rattle.fax.proofs.FaxCases as cases
use Rattle.fax.proofs.read_on.Goals as goal
use Rattle.fax.proofs.read_on.Goals.{After-tone_refused, Else-ei2_set}

clear : (c : Else-ei2_set) → ei2_in c.args.payload.now ≡ false
clear c = rw c.requires.2 (sym c.ei2_set.ensures ∙ c.if-ei2_set.false)

tone : (c : After-tone_refused) → c.tone_refused.result ≡ refused_on (on_in c.args.payload.now)
tone c = c.tone_refused.ensures ∙ rw c.double-frequency.ensures

pub returns-then-payload-ne6 : goal.returns-then-payload-ne6
returns-then-payload-ne6 c = let s = c.before in sym (cases.not-six _ s.requires.0 s.requires.1 s.requires.2 c.if-payload-ne6.true)

pub returns-then-ei2_set : goal.returns-then-ei2_set
returns-then-ei2_set c = let s = c.before in sym (cases.on-ei2 _ s.requires.0 s.requires.1 s.requires.2 c.if-payload-ne6.false (rw s.requires.2 (sym c.ei2_set.ensures ∙ c.if-ei2_set.true)))

pub returns-then-on-ne0 : goal.returns-then-on-ne0
returns-then-on-ne0 c = let s = c.before in sym (cases.on-bits _ s.requires.0 s.requires.1 s.requires.2 c.if-payload-ne6.false (clear (goal.at.returns-then-on-ne0 c).Else-ei2_set) c.if-on-ne0.true)

pub returns-then-tone_refused : goal.returns-then-tone_refused
returns-then-tone_refused c = let s = c.before in sym (cases.on-refused _ s.requires.0 s.requires.1 s.requires.2 c.if-payload-ne6.false (clear (goal.at.returns-then-tone_refused c).Else-ei2_set) c.if-on-ne0.false (sym (tone (goal.at.returns-then-tone_refused c).After-tone_refused) ∙ c.if-tone_refused.true))

pub returns : goal.returns
returns c = let s = c.before in rw (c.time_in.ensures, c.double-frequency.ensures) (sym (cases.on-right _ s.requires.0 s.requires.1 s.requires.2 c.if-payload-ne6.false (clear (goal.at.returns c).Else-ei2_set) c.if-on-ne0.false (sym (tone (goal.at.returns c).After-tone_refused) ∙ c.if-tone_refused.false)))
