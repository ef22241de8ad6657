-- `following::following::put_subs` meets its contract: each turn puts the sub-frame whose header is next.
use Prim.Native.Nat.{◌<◌}
use native.Mathlib.Omega.{arith}
use lib.ListN.{length}
use Rattle.frame.specs.Opening.{opening}
use Rattle.following.proofs.Turns as turns
use Rattle.following.proofs.following.put_subs.Goals as goal
use Rattle.following.proofs.following.put_subs.Goals.{In-loop}

-- a turn begins where there are more
more : (c : In-loop) → c.loop.counter < length (opening c.args.frame.now).subs
more c = omega (arith, c.loop-test.true, c.requires.count_value)

pub loop-init : goal.loop-init
loop-init c = turns.begins _ _ _ _ _ _ _

pub put_sub-next-requires-clause-at_in_bounds : goal.put_sub-next-requires-clause-at_in_bounds
put_sub-next-requires-clause-at_in_bounds c = turns.room-left _ _ _ _ c.loop.invariant c.requires.at_in_bounds _ c.sub_at-sub.ensures (more (goal.at.put_sub-next-requires-clause-at_in_bounds c).In-loop)

pub put_sub-next-requires-clause-sub_in_bounds : goal.put_sub-next-requires-clause-sub_in_bounds
put_sub-next-requires-clause-sub_in_bounds c = turns.ends _ _ _ _ c.loop.invariant c.requires.at_in_bounds _ c.sub_at-sub.ensures (more (goal.at.put_sub-next-requires-clause-sub_in_bounds c).In-loop)

pub overflow_add-place : goal.overflow_add-place
overflow_add-place c =
    let ends = turns.ends _ _ _ _ c.loop.invariant c.requires.at_in_bounds _ c.sub_at-sub.ensures (more (goal.at.overflow_add-place c).In-loop) in
    record { fits = omega (arith, c.requires.frame_len_bound) }

pub loop-preserved : goal.loop-preserved
loop-preserved c = turns.turn _ _ _ _ c.loop.invariant c.requires.at_in_bounds _ c.sub_at-sub.ensures (more (goal.at.loop-preserved c).In-loop) c.put_sub-next.ensures

pub returns : goal.returns
returns c = turns.whole _ _ _ _ c.loop.invariant c.requires.at_in_bounds (omega (arith, c.loop-test.false, c.requires.count_value))
