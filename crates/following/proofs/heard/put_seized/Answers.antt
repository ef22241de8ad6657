-- `following::heard::put_seized` meets its contract: the counts, the periods that are carried, value and alarm.
use native.Mathlib.Omega.{arith}
use Rattle.octets.specs.Text.{ascii}
use Rattle.printing.proofs.Appending as appending
use Rattle.following.specs.Following.{seized_lines}
use Rattle.following.proofs.heard.put_seized.Goals as goal

pub returns : goal.returns
unfolding seized_lines
returns c = let a = c.args in
    let two = appending.then c.put_counts-past_counts.ensures c.put_tens-past_periods.ensures (omega (arith, c.requires)) in
    let three = appending.then-field two (ascii "value=") a.receiver.value (omega (arith, c.requires)) (c.put_field-past_value.ensures.answer, c.put_field-past_value.ensures.holds) in
    let four = appending.then-field three (ascii "alarm=") c.bit.result (omega (arith, c.requires)) (c.put_field.ensures.answer, c.put_field.ensures.holds) in
    rw c.bit.ensures at four
