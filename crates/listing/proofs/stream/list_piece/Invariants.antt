-- `listing::stream::list_piece` meets its contract: each turn takes a line, or what the piece has of it.
use mathlib.Core.Path.{◌≡◌}
use lib.ListN.{length}
use Rattle.listing.specs.Stream.{piece_listed}
use Rattle.listing.proofs.StreamTurns as turns
use Rattle.listing.proofs.stream.list_piece.Given as goal

abbrev pub invariant-loop-frame : goal.invariant-loop-frame
invariant-loop-frame l =
    turns.Going l.table l.initial.out l.piece (piece_listed (length l.initial.out) l.table l.initial.stands l.initial.kept l.piece) l.kept l.out l.stands l.used l.rest
    × (length l.frame ≡ 1600)

abbrev pub decreases-loop-frame : goal.decreases-loop-frame
decreases-loop-frame l = length l.rest
