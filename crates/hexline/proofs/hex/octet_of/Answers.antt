-- `hexline::hex::octet_of` meets its contract: the values of both characters stand in one number.
use Rattle.std.proofs.Common.{arith}
use Rattle.hexline.proofs.Characters as characters
use Rattle.hexline.proofs.hex.octet_of.Goals as goal

pub overflow_sub-distances : goal.overflow_sub-distances
overflow_sub-distances c = omega (arith, (characters.values c.args.both c.requires.both_bound c.requires.both_bound_2).0)

pub overflow_sub-values : goal.overflow_sub-values
overflow_sub-values c = omega (arith, (characters.values c.args.both c.requires.both_bound c.requires.both_bound_2).1.0)

pub overflow_mul-result : goal.overflow_mul-result
overflow_mul-result c = omega (arith, (characters.values c.args.both c.requires.both_bound c.requires.both_bound_2).1.1)

pub overflow_add-result : goal.overflow_add-result
overflow_add-result c = omega (arith, (characters.values c.args.both c.requires.both_bound c.requires.both_bound_2).1.1)

pub returns : goal.returns
returns c = characters.joined (characters.values c.args.both c.requires.both_bound c.requires.both_bound_2).1.1 c.requires.both_bound c.requires.both_bound_2
