-- The first octets of a line decide what is printed of it and what comes of the trunk; so the pieces print what is due for the whole
-- input.
use Prim.Native.Nat.{ℕ}
use mathlib.Core.Path.{ap}
use mathlib.Core.List.{List}
use Rattle.hexline.specs.Line.{Held}
use Rattle.recording.specs.Claims.{ByStart}
use Rattle.recording.proofs.LineStart as line
use Rattle.recording.proofs.InputStart as inputs
use Rattle.trunk.specs.declared.Trunk.{Trunk}
use Rattle.following.specs.Following.{read_following, line_following, follower}
use Rattle.following.specs.Claims.{PiecesFollow}

by-start : (cid : ℕ) (table : List ℕ) → ByStart (line_following table cid)
unfolding line_following
by-start cid table n l t one = ap (λ (held : Held). read_following n table cid held t) (line.start-tells l one)

pub pieces-follow : PiecesFollow
pieces-follow cid room kept first pieces = inputs.pieces-print Trunk (follower cid) room kept first pieces (by-start cid)
