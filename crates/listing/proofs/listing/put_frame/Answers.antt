-- `listing::listing::put_frame` meets its contract: the fields of a sound frame, or of a refused one.
use native.Mathlib.Omega.{arith}
use mathlib.Core.Path.{sym, ◌∙◌}
use mathlib.Core.List.{◌++◌}
use Rattle.octets.specs.Text.{ascii}
use Rattle.printing.specs.Field.{field}
use Rattle.printing.specs.Room.{Appended}
use Rattle.printing.proofs.Appending as appending
use Rattle.listing.proofs.Listings as listings
use Rattle.listing.proofs.listing.put_frame.Goals as goal
use Rattle.listing.proofs.listing.put_frame.Goals.{After-put_field-past_subs}

-- the two fields of a sound frame
two :
    (c : After-put_field-past_subs)
    → Appended c.args.out.now c.args.at (field (ascii "frame=") c.args.n ++ field (ascii "subs=") c.in-Ok.checked.count) 53 c.put_field-past_subs.new.out c.put_field-past_subs.result
two c =
    let one = appending.then-field (appending.none c.args.out.now c.args.at) (ascii "frame=") c.args.n (omega (arith, c.requires.at_in_bounds)) (c.put_field-past_frame.ensures.answer, c.put_field-past_frame.ensures.holds) in
    appending.then-field one (ascii "subs=") c.in-Ok.checked.count (omega (arith, c.requires.at_in_bounds)) (c.put_field-past_subs.ensures.answer, c.put_field-past_subs.ensures.holds)

pub put_subs-requires-clause-at_in_bounds : goal.put_subs-requires-clause-at_in_bounds
put_subs-requires-clause-at_in_bounds c = appending.room-behind (two (goal.at.put_subs-requires-clause-at_in_bounds c).After-put_field-past_subs) 6656 (omega (arith, c.requires.at_in_bounds))

pub returns-in-Ok : goal.returns-in-Ok
returns-in-Ok c =
    appending.reads (appending.then (two (goal.at.returns-in-Ok c).After-put_field-past_subs) c.put_subs.ensures (omega (arith, c.requires.at_in_bounds)))
    (listings.of-sound c.args.n c.args.table.now c.args.frame.now (sym c.check.ensures ∙ c.in-Ok.is))

pub returns-in-Err : goal.returns-in-Err
returns-in-Err c =
    let lines = appending.refused-stands _ _ _ _ _ (omega (arith, c.requires.at_in_bounds)) (c.put_refused.ensures.answer, c.put_refused.ensures.holds) in
    appending.reads (appending.within lines 6709 (omega arith)) (rw c.number.ensures (listings.of-refused c.args.n c.args.table.now c.args.frame.now (sym c.check.ensures ∙ c.in-Err.is)))
