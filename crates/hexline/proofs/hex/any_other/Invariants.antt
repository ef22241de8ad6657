-- `hexline::hex::any_other` meets its contract: the flaws of the characters passed are 1 where one of them is another.
use Rattle.std.proofs.Common.{◌≡◌, cond, take}
use Rattle.hexline.specs.Hex.{any_other}
use Rattle.hexline.proofs.hex.any_other.Given as goal

abbrev pub invariant-loop-c : goal.invariant-loop-c
invariant-loop-c l = l.flaws ≡ cond (any_other (take l.c-index l.chars)) 1 0
