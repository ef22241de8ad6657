-- What a program takes of a piece: no more than the piece has, and some of it where the room is there.
use Prim.Native.Nat.{ℕ, ◌<◌, ◌≤◌}
use mathlib.Core.Path.{◌≡◌, ap}
use mathlib.Core.List.{List}
use native.Mathlib.Omega.{arith}
use lib.ListN.{length}
use Rattle.recording.specs.declared.stream.Begun.{Begun}
use Rattle.recording.specs.declared.stream.Walked.{Walked}
use Rattle.recording.specs.Walk.{Tell, piece_told, answered}
use Rattle.recording.proofs.Walks as walks
use Rattle.recording.proofs.Joins as joins

module _ {S : Type 0} (tell : Tell S) (most room : ℕ) (begun : Begun) (kept : List ℕ) (state : S) (piece : List ℕ) (r : Walked)
    (is : r ≡ answered (piece_told tell most room begun kept state piece)) where
  pub within : r.taken ≤ length piece
  within = omega (arith, ap (λ (w : Walked). w.taken) is, walks.taken-within tell most (length piece) room 0 begun kept state piece)

  pub some : most ≤ room → 0 < length piece → 0 < r.taken
  some enough more =
      omega (arith, ap (λ (w : Walked). w.taken) is, joins.some-taken S tell most room begun kept state piece enough more)
