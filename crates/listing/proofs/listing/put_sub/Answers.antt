-- `listing::listing::put_sub` meets its contract: the number of its payload, and four fields.
use Rattle.std.proofs.Common.{◌≡◌, ap, ◌∙◌, sym}
use Rattle.refusal.specs.Numbers.{sound, number}
use Rattle.refusal.proofs.Order.{told}
use Rattle.listing.proofs.Listings as listings
use Rattle.listing.proofs.listing.put_sub.Goals as goal
use Rattle.listing.proofs.listing.put_sub.Goals.{in-Ok, in-Err}

pub returns : goal.returns
returns c =
    let is : c.match-check_payload.number ≡ told number sound c.check_payload.result =
    elim c.match-check_payload.branch [
      | in-Ok w ↦ w.number-is ∙ sym (ap (told number sound) w.in-Ok.is)
      | in-Err w ↦ w.number-is ∙ w.number-number.ensures ∙ sym (ap (told number sound) w.in-Err.is)
    ]
    in
    listings.sub-listing c.args.table.now c.args.frame.now c.args.sub c.record_of-found.ensures c.check_payload.ensures (rw is at c.put_four.ensures)
