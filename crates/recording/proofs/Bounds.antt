-- What a program over a recording lends on lies within its buffers.
use Prim.Native.Nat.{ℕ, ◌+◌, ◌-◌, ◌≤◌}
use mathlib.Core.Path.{◌≡◌, ap}
use mathlib.Core.Bool.{true}
use mathlib.Core.List.{List, ◌++◌}
use native.Mathlib.Omega.{arith}
use lib.ListN.{length, take, drop, length-append, length-take, length-drop}
use lib.Seq.{length-take-le}
use Rattle.octets.specs.Room.{written}
use Rattle.recording.specs.Pieces.{text_end}
use Rattle.recording.proofs.Ends as ends

-- a text that stands at the start of room that is as long as before fits it
pub fits : (out after text : List ℕ) → after ≡ written out 0 text → length after ≡ length out → length text ≤ length after
fits out after text holds same =
    let all : length after ≡ length (take 0 out ++ text ++ drop (0 + length text) out) = ap length holds in
    let parts : length (take 0 out ++ text ++ drop (0 + length text) out) ≡ length text + (length out - (0 + length text)) =
    simp (length-append, length-take, length-drop) (omega arith)
    in
    omega arith

-- the text ends within the octets looked at
pub text_ends : (s : List ℕ) (n end : ℕ) → n ≤ length s → end ≡ text_end (take n s) → end ≤ n
text_ends s n end h e = omega (arith, ends.text-within true (take n s), length-take-le n s h)
