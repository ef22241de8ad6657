-- `printing::hex::put_hex` meets its contract: after so many turns as many octets stand.
use mathlib.Core.Path.{refl}
use Rattle.printing.specs.Hex.{hex_of}
use Rattle.printing.proofs.Appending as appending
use Rattle.printing.proofs.hex.put_hex.Goals as goal

pub loop-octet-init : goal.loop-octet-init
unfolding hex_of
loop-octet-init c = appending.none _ _

pub loop-octet-preserved : goal.loop-octet-preserved
loop-octet-preserved c = appending.hex-turn c.args.octets.now c.loop-octet.octet-index c.loop-octet.invariant _ c.loop-octet-test.true refl c.requires c.put_pair-next.ensures
