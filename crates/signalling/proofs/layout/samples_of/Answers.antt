-- `signalling::layout::samples_of` meets its contract: after i turns the samples of i octets stand in their places.
use native.Mathlib.Omega.{arith}
use Rattle.signalling.proofs.Halves as halves_of
use Rattle.signalling.proofs.layout.samples_of.Goals as goal

pub loop-i-preserved : goal.loop-i-preserved
loop-i-preserved c = let s = c.before in
    halves_of.turn s.args.payload.now s.requires c.loop-i.samples c.loop-i.i (omega arith) c.loop-i.invariant

pub returns : goal.returns
returns c = let s = c.before in
    halves_of.done s.args.payload.now s.requires c.loop-i.samples c.loop-i.i (omega arith) (omega arith) c.loop-i.invariant
