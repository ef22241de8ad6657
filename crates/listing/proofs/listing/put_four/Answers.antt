-- `listing::listing::put_four` meets its contract: four fields, one behind the other.
use native.Mathlib.Omega.{arith}
use Rattle.octets.specs.Text.{ascii}
use Rattle.printing.proofs.Appending as appending
use Rattle.listing.specs.Listing.{four_fields}
use Rattle.listing.proofs.listing.put_four.Goals as goal

pub returns : goal.returns
unfolding four_fields
returns c =
    let one = appending.then-field (appending.none c.args.out.now c.args.at) (ascii "cid=") c.args.cid (omega (arith, c.requires)) (c.put_octet_field-past_cid.ensures.answer, c.put_octet_field-past_cid.ensures.holds) in
    let two = appending.then-field one (ascii "type=") c.args.ptype (omega (arith, c.requires)) (c.put_octet_field-past_type.ensures.answer, c.put_octet_field-past_type.ensures.holds) in
    let three = appending.then-field two (ascii "len=") c.args.len (omega (arith, c.requires)) (c.put_field-past_len.ensures.answer, c.put_field-past_len.ensures.holds) in
    appending.then-field three (ascii "answer=") c.args.number (omega (arith, c.requires)) (c.put_octet_field.ensures.answer, c.put_octet_field.ensures.holds)
