-- `following::heard::put_periods` meets its contract: three lines, each where its period is carried.
use native.Mathlib.Omega.{arith}
use Rattle.printing.proofs.Appending as appending
use Rattle.following.proofs.Lines as lines
use Rattle.following.proofs.heard.put_periods.Goals as goal

pub returns : goal.returns
returns c = let a = c.args in
    let two = appending.then c.put_period-past_first.ensures c.put_period-past_second.ensures (omega (arith, c.requires.at_in_bounds)) in
    let three = appending.then two c.put_period.ensures (omega (arith, c.requires.at_in_bounds)) in
    appending.reads three (lines.shown a.carried a.first.now a.second.now a.third.now)
