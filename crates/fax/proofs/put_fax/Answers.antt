-- `fax::put_fax` meets its contract: what fits is made, and its octets in front and its body are put.
use mathlib.Core.Path.{sym, ◌∙◌}
use mathlib.Core.List.{◌++◌}
use Rattle.octets.specs.Made.{Made}
use Rattle.octets.proofs.MadeBack as writing
use Rattle.fax.specs.Fax.{head_octets, fax_made}
use Rattle.fax.proofs.FaxCases as cases
use Rattle.fax.proofs.put_fax.Goals as goal
use Rattle.fax.proofs.put_fax.Goals.{After-put_both, In_ok-fit_fax, Start}

abbrev content : Start → Made
content s = let a = s.args in fax_made a.sequence a.stamp a.command a.body.now

passed : (c : In_ok-fit_fax) → let a = c.args in cases.Passed a.sequence a.stamp a.command a.body.now
passed c =
    let m = writing.octets-made (content (goal.at.In_ok-fit_fax c).Start) _ (sym c.fit_fax.ensures ∙ c.in_ok-fit_fax.was) in
    cases.passed-all _ _ _ _ m.0 m.1

pub head_octets-head-requires : goal.head_octets-head-requires
head_octets-head-requires c = let p = passed (goal.at.head_octets-head-requires c).In_ok-fit_fax in (p.four_bits, p.stamped, p.taken)

pub returns : goal.returns
returns c =
    let a = c.args in
    let both = writing.written-made a.room.now a.at (content (goal.at.returns c).Start) (head_octets a.sequence a.stamp a.command ++ a.body.now) _ _
    (cases.is_made _ _ _ _ (passed (goal.at.returns c).In_ok-fit_fax))
    (rw (c.front_size-front.ensures.0, c.head_octets-head.ensures) at c.put_both.ensures.answer)
    (rw (c.front_size-front.ensures.0, c.head_octets-head.ensures) at c.put_both.ensures.holds) in
    record { answer = both.0; holds = both.1 }
