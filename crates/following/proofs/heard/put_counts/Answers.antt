-- `following::heard::put_counts` meets its contract: three lines, one behind the other.
use native.Mathlib.Omega.{arith}
use Rattle.octets.specs.Text.{ascii}
use Rattle.printing.proofs.Appending as appending
use Rattle.following.specs.Following.{count_lines}
use Rattle.following.proofs.heard.put_counts.Goals as goal

pub returns : goal.returns
unfolding count_lines
returns c = let a = c.args in
    let one = appending.then-field (appending.none a.out.now a.at) (ascii "filled=") a.fills (omega (arith, c.requires.at_in_bounds)) (c.put_field-past_filled.ensures.answer, c.put_field-past_filled.ensures.holds) in
    let two = appending.then-hex-field one (ascii "with=") a.fill.now (omega (arith, c.requires.at_in_bounds, c.requires.fill_len_bound)) (c.put_hex_field-past_with.ensures.answer, c.put_hex_field-past_with.ensures.holds) in
    let three = appending.then-field two (ascii "carried=") a.carried (omega (arith, c.requires.at_in_bounds, c.requires.fill_len_bound)) (c.put_field.ensures.answer, c.put_field.ensures.holds) in
    appending.within three 69 (omega (arith, c.requires.fill_len_bound))
