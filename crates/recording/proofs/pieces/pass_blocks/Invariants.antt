-- `recording::pieces::pass_blocks` meets its contract: the blocks passed have no LF.
use Prim.Native.Nat.{◌-◌, ◌≤◌}
use mathlib.Core.Path.{◌≡◌}
use mathlib.Core.Bool.{false}
use lib.ListN.{length, take}
use Rattle.octets.specs.Text.{has_lf}
use Rattle.recording.proofs.pieces.pass_blocks.Given as goal

abbrev pub invariant-loop-at : goal.invariant-loop-at
invariant-loop-at l = (l.at ≤ length l.s) × (has_lf (take l.at l.s) ≡ false)

abbrev pub decreases-loop-at : goal.decreases-loop-at
decreases-loop-at l = length l.s - l.at
