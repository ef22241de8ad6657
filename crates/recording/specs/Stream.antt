-- A recording piece by piece, in fixed memory: a line that a piece has whole is read from it, one that goes on is kept until it is
-- whole; every line takes a number, refused or not (document 01, "Listing program": "frame number from 0").
use Rattle.std.specs.Prelude.{ℕ, ◌+◌, List, [], cond, ◌&&◌, ltb, eqb, length, take, Some, None}
use Rattle.octets.specs.Room.{written}
use Rattle.octets.specs.Text.{has_lf}
use Rattle.recording.specs.declared.stream.Begun.{Begun}
use Rattle.recording.specs.declared.stream.Taken.{Taken}
use Rattle.recording.specs.Pieces.{line_size, to_keep}
use Rattle.hexline.specs.Line.{Held, octets, line_read, in_room, read_of}

-- the number after this one, up to the last of 64 bits
unfoldable pub next_number : ℕ → ℕ
next_number n = cond (ltb n 18446744073709551615) (n + 1) n

-- the octets of the present line that are kept, and the lent room for them, with what a piece has of the line
abbrev pub have_of : ℕ → List ℕ → List ℕ → ℕ
have_of have kept piece = have + length (to_keep (length kept) have piece)

abbrev pub kept_of : ℕ → List ℕ → List ℕ → List ℕ
kept_of have kept piece = written kept have (to_keep (length kept) have piece)

-- the line that ends in a piece: the piece's own, where nothing of it is kept
abbrev pub line_of : ℕ → List ℕ → List ℕ → List ℕ
line_of have kept piece =
    cond (eqb have 0) (take (line_size piece) piece) (take (have_of have kept piece) (kept_of have kept piece))

-- what it holds, in lent room for so many octets of a frame; a line that goes on holds nothing yet
abbrev pub held_by : ℕ → ℕ → List ℕ → List ℕ → Held
held_by room have kept piece = cond (has_lf piece) (in_room room (line_read (line_of have kept piece))) (octets [])

-- how it stands after the piece's line: the octets kept of the next one, and its number
abbrev pub next_of : Begun → List ℕ → List ℕ → Begun
next_of begun kept piece =
    record {
      have = cond (has_lf piece) 0 (have_of begun.have kept piece);
      number = cond (has_lf piece) (next_number begun.number) begun.number;
    }

-- and what the room for a line holds
abbrev pub kept_behind : ℕ → List ℕ → List ℕ → List ℕ
kept_behind have kept piece = cond (has_lf piece && eqb have 0) kept (kept_of have kept piece)

-- the answer of the code
abbrev pub taken : ℕ → Begun → List ℕ → List ℕ → Taken
taken room begun kept piece =
    record {
      size = line_size piece;
      line = cond (has_lf piece) (Some (read_of (held_by room begun.have kept piece))) None;
      next = next_of begun kept piece;
    }
