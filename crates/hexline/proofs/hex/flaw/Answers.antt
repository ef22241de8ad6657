-- `hexline::hex::flaw` meets its contract: a difference from `0` or from `a` that wraps tells the range.
use Rattle.std.proofs.Common.{arith}
use Rattle.hexline.proofs.Characters as characters
use Rattle.hexline.proofs.hex.flaw.Goals as goal

pub returns-then-c-lt10 : goal.returns-then-c-lt10
returns-then-c-lt10 c = rw (characters.hex-digit c.args.c (omega arith) (omega arith))

pub returns-then-c-lt6 : goal.returns-then-c-lt6
returns-then-c-lt6 c = rw (characters.hex-letter c.args.c (omega arith) (omega arith))

pub returns : goal.returns
returns c = rw (characters.other c.args.c (λ m h. omega arith) (λ m h. omega arith))
