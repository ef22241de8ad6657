-- `rows::reads::read_subs` is safe: the sub-frame whose header is next lies within the frame.
use Prim.Native.Nat.{◌<◌}
use native.Mathlib.Omega.{arith}
use lib.ListN.{length}
use Rattle.frame.specs.Opening.{opening}
use Rattle.frame.proofs.Chain as chain
use Rattle.rows.proofs.reads.read_subs.Goals as goal
use Rattle.rows.proofs.reads.read_subs.Goals.{In-loop}

-- a turn begins where there are more
more : (c : In-loop) → c.loop.counter < length (opening c.args.frame.now).subs
more c = omega (arith, c.loop-test.true, c.requires)

pub loop-init : goal.loop-init
loop-init c = (chain.opening-fine _).chain

pub read_sub-folded-requires : goal.read_sub-folded-requires
read_sub-folded-requires c = chain.ends _ _ _ _ c.loop.invariant _ c.sub_at-sub.ensures (more (goal.at.read_sub-folded-requires c).In-loop)

pub overflow_add-at : goal.overflow_add-at
overflow_add-at c =
    let ends = chain.ends _ _ _ _ c.loop.invariant _ c.sub_at-sub.ensures (more (goal.at.overflow_add-at c).In-loop) in
    record { fits = omega (arith, ends) }

pub loop-preserved : goal.loop-preserved
loop-preserved c = chain.onward _ _ _ _ c.loop.invariant _ c.sub_at-sub.ensures (more (goal.at.loop-preserved c).In-loop)
