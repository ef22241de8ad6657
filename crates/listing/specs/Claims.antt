-- What the program builds on: fixed memory is enough for a line, and the pieces print the whole input's listing. Proved in
-- proofs/Pieces.antt.
use Rattle.std.specs.Prelude.{ℕ, ◌<◌, ◌≤◌, ◌≡◌, List, [], ◌++◌, ◌⊎◌, length, take, drop}
use Rattle.recording.specs.Claims.{most_kept}
use Rattle.recording.specs.Pieces.{text_end, line_size, line_ends}
use Rattle.recording.specs.Walk.{whole}
use Rattle.recording.specs.Input.{pieces_printed}
use Rattle.listing.specs.Listing.{line_listing, lister, listing, most_listed}

-- Of a line, which has an LF at its end alone, the first 3,207 octets decide the listing.
abbrev pub StartDecides : Type 0
StartDecides =
    (n : ℕ) (table line : List ℕ)
    → line_size line ≡ length line
    → line_listing n table (take most_kept line) ≡ line_listing n table line

-- However the input is cut into pieces, what is printed over them is its listing, where the first has 8,198 octets or is all there
-- is. The room is there for a line's listing; the frame numbers stay below 2^64.
abbrev pub PiecesList : Type 0
PiecesList =
    (room : ℕ) (kept first : List ℕ) (pieces : List (List ℕ))
    → most_listed ≤ room
    → length kept ≡ most_kept
    → (8198 ≤ length first) ⊎ (whole pieces ≡ [])
    → line_ends (drop (text_end (first ++ whole pieces)) (first ++ whole pieces)) < 18446744073709551616
    → pieces_printed lister room kept first pieces ≡ listing (first ++ whole pieces)
