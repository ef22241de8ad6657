-- `following::heard::put_dialled` meets its contract: the counts, then the periods that are carried.
use native.Mathlib.Omega.{arith}
use Rattle.following.proofs.Lines as lines
use Rattle.following.proofs.heard.put_dialled.Goals as goal

pub returns : goal.returns
returns c = let a = c.args in
    lines.dialled a.got c.window_octets-with.ensures c.window_octets-first.ensures c.window_octets-second.ensures c.window_octets-third.ensures (omega (arith, c.requires)) c.put_counts-past_counts.ensures c.put_periods.ensures
