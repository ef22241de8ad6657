-- `hexline::hex::any_other` meets its contract: the flaws of the characters passed are 1 where one of them is another.
use Rattle.std.proofs.Common.{refl, arith}
use Rattle.hexline.specs.Hex.{any_other}
use Rattle.hexline.proofs.Characters as characters
use Rattle.hexline.proofs.hex.any_other.Goals as goal

pub loop-c-init : goal.loop-c-init
unfolding any_other
loop-c-init c = refl

pub loop-c-preserved : goal.loop-c-preserved
loop-c-preserved c = characters.flaws-more c.args.chars.now c.loop-c.c-index c.loop-c.flaws c.flaw-flaws.result (omega arith) c.loop-c.invariant c.flaw-flaws.ensures
