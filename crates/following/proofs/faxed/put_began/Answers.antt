-- `following::faxed::put_began` meets its contract: five lines, one behind the other.
use native.Mathlib.Omega.{arith}
use Rattle.octets.specs.Text.{ascii}
use Rattle.printing.proofs.Appending as appending
use Rattle.following.specs.Following.{did_lines}
use Rattle.following.proofs.faxed.put_began.Goals as goal

pub returns : goal.returns
unfolding did_lines
returns c =
    let one = appending.then-line (appending.none c.args.out.now c.args.at) (ascii "did=began") (omega (arith, c.requires)) (c.put_line-past_did.ensures.answer, c.put_line-past_did.ensures.holds) in
    let two = appending.then-field one (ascii "hdlc=") c.bit.result (omega (arith, c.requires)) (c.put_field-past_hdlc.ensures.answer, c.put_field-past_hdlc.ensures.holds) in
    let three = appending.then-field two (ascii "modulation=") c.args.modulation (omega (arith, c.requires)) (c.put_field-past_modulation.ensures.answer, c.put_field-past_modulation.ensures.holds) in
    let four = appending.then-field three (ascii "frequency=") c.args.frequency (omega (arith, c.requires)) (c.put_field-past_frequency.ensures.answer, c.put_field-past_frequency.ensures.holds) in
    let five = appending.then-field four (ascii "stamp=") c.args.stamp (omega (arith, c.requires)) (c.put_field.ensures.answer, c.put_field.ensures.holds) in
    rw c.bit.ensures at five
