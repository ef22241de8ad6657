-- `fax::head_octets` meets its contract.
use mathlib.Core.Path.{sym, ap, ◌∙◌}
use native.Mathlib.Omega.{arith}
use Rattle.fax.specs.Fax.{refused_on}
use Rattle.fax.proofs.Commands.{not-on}
use Rattle.fax.proofs.FaxCases as cases
use Rattle.fax.proofs.head_octets.Goals as goal

pub overflow_add-result : goal.overflow_add-result
overflow_add-result c = let coded = cases.modulation-small c.in-On.modulation c.in-On.frequency (sym (ap refused_on c.in-On.is) ∙ c.requires.2) in
    omega (arith, coded, c.bit.ensures.1)

pub returns-in-On : goal.returns-in-On
returns-in-On c = let s = c in
    rw (c.ei1_for.ensures.0, c.code_of.ensures.0, c.stamp_number-time.ensures, c.bit.ensures.0, c.in-On.is)
    (cases.on-head s.args.sequence s.args.stamp c.in-On.hdlc c.in-On.modulation c.in-On.frequency (rw c.in-On.is at s.requires.1))

pub returns-in_default : goal.returns-in_default
returns-in_default c = let a = c.args in
    rw (c.ei1_for.ensures.0, c.code_of.ensures.0, c.stamp_number-time.ensures)
    (cases.plain-head a.sequence a.stamp a.command (not-on a.command c.in_default.not-On))
