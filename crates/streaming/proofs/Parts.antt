-- The octets of a piece.
use Prim.Native.Nat.{ℕ, ◌-◌, ◌<◌}
use mathlib.Core.Path.{◌≡◌}
use mathlib.Core.Bool.{true}
use mathlib.Core.List.{List}
use native.Mathlib.Omega.{arith}
use lib.ListN.{length, take, drop, length-drop}
use lib.Seq.{length-take-le}
use borrow.Author.Tests.{ltb-true, leb-true}
use Rattle.record.proofs.Listed.{both}
use Rattle.streaming.specs.declared.input.Piece.{Piece}
use Rattle.streaming.specs.Pieces.{Within, left}

abbrev pub part : List ℕ → Piece → List ℕ
part input piece = take (piece.to - piece.from) (drop piece.from input)

pub size : (input : List ℕ) (piece : Piece) → Within piece (length input) → length (part input piece) ≡ piece.to - piece.from
size input piece within = length-take-le (piece.to - piece.from) (drop piece.from input) (omega (arith, length-drop piece.from input, within.0, within.1))

-- a piece of which some is left lies within its room
pub left-within : (piece : Piece) (room : ℕ) → left piece room ≡ true → Within piece room
left-within piece room is =
    let b = both _ _ is in
    let some : piece.from < piece.to = ltb-true piece.from piece.to b.0 in
    (omega (arith, some), leb-true piece.to room b.1)
