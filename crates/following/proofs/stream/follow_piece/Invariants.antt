-- `following::stream::follow_piece` meets its contract: each turn takes a line, or what the piece has of it.
use mathlib.Core.Path.{◌≡◌}
use lib.ListN.{length}
use Rattle.following.specs.Stream.{piece_followed}
use Rattle.following.proofs.StreamTurns as turns
use Rattle.following.proofs.stream.follow_piece.Given as goal

abbrev pub invariant-loop-frame : goal.invariant-loop-frame
invariant-loop-frame l =
    turns.Going l.table l.cid l.initial.out l.piece (piece_followed (length l.initial.out) l.table l.cid l.initial.stands l.initial.kept l.initial.trunk l.piece) l.kept l.out l.stands l.used l.trunk l.rest
    × (length l.frame ≡ 1600)

abbrev pub decreases-loop-frame : goal.decreases-loop-frame
decreases-loop-frame l = length l.rest
