-- `fax::fit_fax` meets its contract: what passes every test is made.
use Prim.Native.Nat.{ℕ, ◌+◌}
use mathlib.Core.Path.{sym, ap, ◌∙◌}
use lib.ListN.{length}
use Rattle.std.specs.declared.result.Result.TheVariants.{Ok}
use Rattle.octets.specs.Made.{fit_of}
use Rattle.fax.proofs.FaxCases as cases
use Rattle.fax.proofs.fit_fax.Goals as goal

pub returns : goal.returns
returns c =
    let a = c.args in
    ap Ok (ap (λ (n : ℕ). n + length a.body.now) c.front_size.ensures.0 ∙ sym (cases.made_size a.sequence a.stamp a.command a.body.now))
    ∙ sym
    (ap fit_of
    (cases.made-right _ _ _ _ (sym c.lacks_stamp.ensures ∙ c.if-lacks_stamp.false) (sym c.body_fits.ensures ∙ c.if-not-body_fits.false)
    (sym c.on_refused.ensures ∙ c.if-on_refused.false)
    c.if-sequence-gt-MOST_SEQUENCE.false
    (rw c.stamp_number.ensures at c.if-stamp_number-gt-MOST_STAMP.false)))
