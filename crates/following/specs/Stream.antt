-- A recording followed piece by piece: each line of a piece that is whole goes to the trunk under its number (docs/FOLLOW.md).
use Rattle.std.specs.Prelude.{ℕ, List}
use Rattle.recording.specs.declared.stream.Begun.{Begun}
use Rattle.recording.specs.Walk.{Walk, piece_told, last_told}
use Rattle.trunk.specs.declared.Trunk.{Trunk}
use Rattle.following.specs.Following.{follower}

abbrev pub piece_followed : ℕ → List ℕ → ℕ → Begun → List ℕ → Trunk → List ℕ → Walk Trunk
piece_followed room table cid begun kept t piece = piece_told ((follower cid).tell table) (follower cid).most room begun kept t piece

-- what is printed at the end of the input
abbrev pub last_followed : ℕ → List ℕ → ℕ → Begun → List ℕ → Trunk → List ℕ
last_followed room table cid begun kept t = (last_told ((follower cid).tell table) (follower cid).most room begun kept t).text
