-- The first octets of a line decide its listing; so the pieces print the whole input's.
use mathlib.Core.Path.{ap}
use mathlib.Core.List.{List}
use Prim.Native.Nat.{ℕ}
use Rattle.recording.specs.Claims.{ByStart}
use Rattle.recording.proofs.LineStart as line
use Rattle.recording.proofs.InputStart as inputs
use Rattle.listing.specs.Claims.{StartDecides, PiecesList}
use Rattle.listing.specs.Listing.{read_listing, line_listing, tell_line, lister}

pub start-decides : StartDecides
unfolding line_listing
start-decides n table l one = ap (read_listing n table) (line.start-tells l one)

by-start : (table : List ℕ) → ByStart (tell_line table)
by-start table n l state one = ap (λ (text : List ℕ). record { text = text; state = state }) (start-decides n table l one)

pub pieces-list : PiecesList
pieces-list room kept first pieces = inputs.pieces-print (Unit {0}) lister room kept first pieces by-start
