-- `following::faxed::put_faxed` meets its contract: the gap, the octets, what was done.
use native.Mathlib.Omega.{arith}
use Rattle.octets.specs.Text.{ascii}
use Rattle.printing.specs.Field.{field}
use Rattle.printing.specs.Room.{Appended}
use Rattle.printing.proofs.Appending as appending
use Rattle.following.specs.Following.{faxed_lines}
use Rattle.following.proofs.faxed.put_faxed.Goals as goal
use Rattle.following.proofs.faxed.put_faxed.Goals.{After-put_field-past_gap}

gap :
    (c : After-put_field-past_gap)
    → Appended c.args.out.now c.args.at (field (ascii "gap=") c.bit.result) 25 c.put_field-past_gap.new.out c.put_field-past_gap.result
gap c = appending.then-field (appending.none c.args.out.now c.args.at) (ascii "gap=") c.bit.result (omega (arith, c.requires)) (c.put_field-past_gap.ensures.answer, c.put_field-past_gap.ensures.holds)

pub put_page-past_octets-requires-clause-at_in_bounds : goal.put_page-past_octets-requires-clause-at_in_bounds
put_page-past_octets-requires-clause-at_in_bounds c = appending.room-behind (gap (goal.at.put_page-past_octets-requires-clause-at_in_bounds c).After-put_field-past_gap) 152 (omega (arith, c.requires))

pub put_did-requires : goal.put_did-requires
put_did-requires c =
    let two = appending.then (gap (goal.at.put_did-requires c).After-put_field-past_gap) c.put_page-past_octets.ensures (omega (arith, c.requires)) in
    appending.room-behind two 126 (omega (arith, c.requires))

pub returns : goal.returns
unfolding faxed_lines
returns c =
    let two = appending.then (gap (goal.at.returns c).After-put_field-past_gap) c.put_page-past_octets.ensures (omega (arith, c.requires)) in
    let all = appending.then two c.put_did.ensures (omega (arith, c.requires)) in
    rw c.bit.ensures at all
