-- `following::heard::put_period` meets its contract: the line, where it is shown.
use native.Mathlib.Omega.{arith}
use Rattle.octets.specs.Text.{ascii}
use Rattle.printing.proofs.Appending as appending
use Rattle.following.proofs.heard.put_period.Goals as goal

pub returns-then-shown : goal.returns-then-shown
returns-then-shown c = let a = c.args in
    let line = appending.then-hex-field (appending.none a.out.now a.at) (ascii "period=") a.period.now (omega (arith, c.requires.period_len_bound, c.requires.at_in_bounds)) (c.put_hex_field.ensures.answer, c.put_hex_field.ensures.holds) in
    rw c.if-shown.true (appending.within line 28 (omega (arith, c.requires.period_len_bound)))
