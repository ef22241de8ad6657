-- `signalling::layout::pairs_of` meets its contract: after i turns i octets of two samples each stand in their places.
use mathlib.Core.Path.{◌≡◌}
use lib.ListN.{replicate}
use lib.Seq.{paste}
use Rattle.signalling.specs.Layout.{pairs}
use Rattle.signalling.proofs.layout.pairs_of.Given as goal

abbrev pub invariant-loop-i : goal.invariant-loop-i
invariant-loop-i l = l.octets ≡ paste (replicate 15 0) 0 (pairs 15 0 l.samples) l.i
