-- `fax::read_bare` meets its contract.
use mathlib.Core.Path.{◌≡◌, sym, ◌∙◌}
use mathlib.Core.Bool.{false}
use native.Mathlib.Omega.{arith}
use borrow.Author.Tests.{ltb-false}
use lib.Dec.{ltb}
use Rattle.fax.specs.Fax.{code_in}
use Rattle.fax.proofs.FaxCases as cases
use Rattle.fax.proofs.read_bare.Goals as goal
use Rattle.fax.proofs.read_bare.Goals.{After-plain_command-command}
use Rattle.std.specs.declared.option.Option.TheVariants.{None}

stampless : (c : After-plain_command-command) → ltb (code_in c.args.payload.now) 2 ≡ false
stampless c = sym c.needs_stamp.ensures ∙ c.if-needs_stamp.false

other : (c : After-plain_command-command) → code_in c.args.payload.now ≡ 1 → ⊥
other c e = omega (arith, ltb-false (code_in c.args.payload.now) 2 (stampless c))

front : (c : After-plain_command-command) → cases.Fronted c.args.payload.now None c.plain_command-command.result 1
front c =
    cases.bare-fronted _ c.requires.0 c.requires.1 (other c) _ c.plain_command-command.ensures c.requires.2 (stampless c)

pub returns-then-needs_stamp : goal.returns-then-needs_stamp
returns-then-needs_stamp c = sym (cases.lacks _ c.requires.0 c.requires.1 c.requires.2 (sym c.needs_stamp.ensures ∙ c.if-needs_stamp.true))

pub returns-then-not-body_fits : goal.returns-then-not-body_fits
returns-then-not-body_fits c = sym (cases.wrong (front (goal.at.returns-then-not-body_fits c).After-plain_command-command) c.requires.0 (sym c.body_fits.ensures ∙ c.if-not-body_fits.true))

pub returns : goal.returns
returns c = sym
    (cases.plain-right _ c.requires.0 c.requires.1 (other (goal.at.returns c).After-plain_command-command) _ c.plain_command-command.ensures (front (goal.at.returns c).After-plain_command-command) c.requires.0 (sym c.body_fits.ensures ∙ c.if-not-body_fits.false) (rw c.requires.2))
