-- `signalling::layout::samples_of` meets its contract: after i turns the samples of i octets stand in their places.
use Prim.Native.Nat.{◌+◌}
use mathlib.Core.Path.{◌≡◌}
use lib.ListN.{drop, replicate}
use lib.Seq.{paste}
use Rattle.signalling.specs.Layout.{halves}
use Rattle.signalling.proofs.layout.samples_of.Given as goal

abbrev pub invariant-loop-i : goal.invariant-loop-i
invariant-loop-i l = l.samples ≡ paste (replicate 30 0) 0 (halves (drop 1 l.payload)) (l.i + l.i)
