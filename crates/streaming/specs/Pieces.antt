-- A piece of the input, and what is left of it.
use Rattle.std.specs.Prelude.{ℕ, ◌<◌, ◌≤◌, ◌≡◌, Bool, ◌&&◌, ltb, leb}
use Rattle.streaming.specs.declared.input.Piece.{Piece}

-- a piece lies within a room of so many octets
abbrev pub Within : Piece → ℕ → Type 0
Within piece room = (piece.from ≤ piece.to) × (piece.to ≤ room)

-- whether some of it is left there
abbrev pub left : Piece → ℕ → Bool
left piece room = ltb piece.from piece.to && leb piece.to room

-- what is left of a piece of which some was there: its end, and a place behind its start
abbrev pub GoesOn : Piece → Piece → Type 0
GoesOn piece left = (piece.from < piece.to → piece.from < left.from) × (left.to ≡ piece.to)
