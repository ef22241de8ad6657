-- What the program builds on: the pieces print what is due for the whole input. Proved in proofs/Pieces.antt.
use Rattle.std.specs.Prelude.{ℕ, ◌<◌, ◌≤◌, ◌≡◌, List, [], ◌++◌, ◌⊎◌, length, drop}
use Rattle.recording.specs.Claims.{most_kept}
use Rattle.recording.specs.Pieces.{text_end, line_ends}
use Rattle.recording.specs.Walk.{whole}
use Rattle.recording.specs.Input.{pieces_printed}
use Rattle.following.specs.Following.{follower, following, most_followed}

-- However the input is cut into pieces, what is printed over them is what is due for the whole input, where the first has 8,198
-- octets or is all there is. The room is there for a line's text; the frame numbers stay below 2^64.
abbrev pub PiecesFollow : Type 0
PiecesFollow =
    (cid room : ℕ) (kept first : List ℕ) (pieces : List (List ℕ))
    → most_followed ≤ room
    → length kept ≡ most_kept
    → (8198 ≤ length first) ⊎ (whole pieces ≡ [])
    → line_ends (drop (text_end (first ++ whole pieces)) (first ++ whole pieces)) < 18446744073709551616
    → pieces_printed (follower cid) room kept first pieces ≡ following cid (first ++ whole pieces)
