-- `faxing::handed_on` meets its contract: when the turns are over, all places are filled.
use Rattle.std.proofs.Common.{arith}
use Rattle.faxing.proofs.Places as places
use Rattle.faxing.proofs.handed_on.Goals as goal

pub returns : goal.returns
returns c =
    let a = c.args in
    let l = c.loop-i in
    places.all_there a.body.now a.count c.requires.0 c.requires.1 l.octets l.i l.invariant (omega (arith, l.auto.i-end)) (omega (arith, c.loop-i-test.false))
