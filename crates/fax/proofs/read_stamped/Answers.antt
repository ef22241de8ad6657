-- `fax::read_stamped` meets its contract.
use Prim.Native.Nat.{◌-◌}
use mathlib.Core.Path.{◌≡◌, sym, ◌∙◌}
use mathlib.Core.Bool.{true, false}
use lib.ListN.{length}
use Rattle.fax.specs.Fax.{time_in, body_sized, ei2_in}
use Rattle.fax.proofs.FaxCases as cases
use Rattle.fax.proofs.read_stamped.Goals as goal
use Rattle.fax.proofs.read_stamped.Goals.{After-plain_command-command, Else-not-body_fits}
use Rattle.std.specs.declared.option.Option.TheVariants.{Some}

front : (c : After-plain_command-command) → cases.Fronted c.args.payload.now (Some (time_in c.args.payload.now)) c.plain_command-command.result 3
front c = cases.stamped-fronted _ c.requires.0 c.requires.1 c.requires.2 _ c.plain_command-command.ensures c.requires.3

sized : (c : Else-not-body_fits) → body_sized c.plain_command-command.result (length c.args.payload.now - 3) ≡ true
sized c = sym c.body_fits.ensures ∙ c.if-not-body_fits.false

pub returns-then-payload-lt3 : goal.returns-then-payload-lt3
returns-then-payload-lt3 c = sym (cases.cut (front (goal.at.returns-then-payload-lt3 c).After-plain_command-command) c.if-payload-lt3.true)

pub returns-then-not-body_fits : goal.returns-then-not-body_fits
returns-then-not-body_fits c = sym (cases.wrong (front (goal.at.returns-then-not-body_fits c).After-plain_command-command) c.if-payload-lt3.false (sym c.body_fits.ensures ∙ c.if-not-body_fits.true))

pub returns-then-ei2_set : goal.returns-then-ei2_set
returns-then-ei2_set c = sym (cases.ei2-set (front (goal.at.returns-then-ei2_set c).After-plain_command-command) c.if-payload-lt3.false (sized (goal.at.returns-then-ei2_set c).Else-not-body_fits) (rw c.requires.3 (sym c.ei2_set.ensures ∙ c.if-ei2_set.true)))

pub returns : goal.returns
returns c = let s = c.before in
    let clear : ei2_in s.args.payload.now ≡ false = rw s.requires.3 (sym c.ei2_set.ensures ∙ c.if-ei2_set.false) in
    rw c.time_in.ensures
    (sym
    (cases.plain-right _ s.requires.0 s.requires.1 s.requires.2 _ c.plain_command-command.ensures (front (goal.at.returns c).After-plain_command-command) c.if-payload-lt3.false (sized (goal.at.returns c).Else-not-body_fits) clear))
