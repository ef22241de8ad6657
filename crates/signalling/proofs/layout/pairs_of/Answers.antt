-- `signalling::layout::pairs_of` meets its contract: after i turns i octets of two samples each stand in their places.
use Prim.Native.Nat.{ℕ, ◌+◌, ◌<◌}
use native.Mathlib.Omega.{arith}
use lib.ListN.{get_or}
use Rattle.signalling.proofs.LayoutBack as layout
use Rattle.signalling.proofs.layout.pairs_of.Goals as goal
use Rattle.signalling.proofs.layout.pairs_of.Goals.{Start}

-- each sample has four bits
small : (c : Start) (j : ℕ) → j < 30 → get_or c.args.samples j 0 < 16
small c = layout.all_small c.args.samples c.requires

pub overflow_mul-octets : goal.overflow_mul-octets
overflow_mul-octets c = let low = small (goal.at.overflow_mul-octets c).Start (c.loop-i.i + c.loop-i.i) (omega arith) in
    let high = small (goal.at.overflow_mul-octets c).Start (c.loop-i.i + c.loop-i.i + 1) (omega arith) in
    omega arith

pub overflow_add-octets : goal.overflow_add-octets
overflow_add-octets c = let low = small (goal.at.overflow_add-octets c).Start (c.loop-i.i + c.loop-i.i) (omega arith) in
    let high = small (goal.at.overflow_add-octets c).Start (c.loop-i.i + c.loop-i.i + 1) (omega arith) in
    omega arith

pub loop-i-preserved : goal.loop-i-preserved
loop-i-preserved c = layout.pair-stored c.args.samples c.loop-i.octets c.loop-i.i c.loop-i.invariant (omega arith)

pub returns : goal.returns
returns c = layout.all-paired c.args.samples c.loop-i.octets c.loop-i.i c.loop-i.invariant (omega arith) (omega arith)
