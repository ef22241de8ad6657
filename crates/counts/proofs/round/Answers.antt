-- `counts::round` meets its contract: a mask of so many ones leaves the remainder.
use Rattle.std.proofs.Common.{◌≡◌, ℕ, ◌*◌, ◌%◌, ◌^◌, ◌<◌, ◌∙◌, one-mul, arith, shl_exact}
use lib.Bits.{and_mask}
use Rattle.counts.proofs.round.Goals as goal

shifted : (bits : ℕ) → bits < 16 → 1 * 2 ^ bits % 2 ^ 16 ≡ 2 ^ bits
shifted bits narrow = shl_exact 1 bits 16 (omega arith) (omega arith) ∙ one-mul (2 ^ bits)

pub returns : goal.returns
returns c = let bits = c.args.bits in rw (shifted bits c.requires) (and_mask c.args.n bits)
