-- What every program over recordings builds on: fixed memory is enough for a line and for the text, and pieces of any size print
-- what is due for the whole input. Proved in proofs/LineStart.antt, proofs/Joins.antt and proofs/InputStart.antt.
use Rattle.std.specs.Prelude.{ℕ, ◌<◌, ◌≤◌, ◌≡◌, List, [], ◌++◌, ◌⊎◌, length, take, drop}
use Rattle.provisioning.specs.Text.{taken, Entry}
use Rattle.recording.specs.declared.stream.Begun.{Begun}
use Rattle.hexline.specs.Line.{line_read}
use Rattle.recording.specs.Pieces.{text_end, line_size, line_ends}
use Rattle.recording.specs.Walk.{Tell, piece_told, all_told, input_told, whole}
use Rattle.recording.specs.Input.{Program, text_read, input_printed, pieces_printed}

-- Of a line, which has an LF at its end alone, the first 3,207 octets decide what it holds: `frame=`, 3,200 characters, and one
-- octet more.
abbrev pub most_kept : ℕ
most_kept = 3207

abbrev pub StartTells : Type 0
StartTells = (line : List ℕ) → line_size line ≡ length line → line_read (take most_kept line) ≡ line_read line

-- A program of which the same goes: they decide what it tells of the line.
abbrev pub ByStart : {S : Type 0} → Tell S → Type 0
ByStart {S} tell =
    (n : ℕ) (line : List ℕ) (state : S) → line_size line ≡ length line → tell n (take most_kept line) state ≡ tell n line state

-- However an input is cut into pieces, such a program tells of them, and of a last line, what it tells of the whole input. The room
-- is there for the text of one line; the frame numbers stay below 2^64.
abbrev pub PiecesTell : Type 1
PiecesTell =
    (S : Type 0) (tell : Tell S) (most room : ℕ) (kept : List ℕ) (state : S) (pieces : List (List ℕ))
    → ByStart tell
    → most ≤ room
    → length kept ≡ most_kept
    → line_ends (whole pieces) < 18446744073709551616
    → input_told tell most room kept state pieces ≡ all_told tell state (whole pieces)

-- No input of less than 2^64 octets comes to those numbers.
abbrev pub FewLines : Type 0
FewLines = (s : List ℕ) → line_ends s ≤ length s

-- With that room some of a piece is taken, so that a program that hands over the rest comes to its end.
abbrev pub SomeTaken : Type 1
SomeTaken =
    (S : Type 0) (tell : Tell S) (most room : ℕ) (begun : Begun) (kept : List ℕ) (state : S) (piece : List ℕ)
    → most ≤ room
    → 0 < length piece
    → 0 < (piece_told tell most room begun kept state piece).taken

-- The first 8,198 octets of the input, or more, decide what reading the text tells; and where it is taken, where it ends.
abbrev pub FirstPieceDecides : Type 0
FirstPieceDecides = (input : List ℕ) (n : ℕ) → 8198 ≤ n → text_read (take n input) ≡ text_read input

abbrev pub FirstPieceEnds : Type 0
FirstPieceEnds =
    (input : List ℕ) (n : ℕ) (es : List Entry) → 8198 ≤ n → text_read input ≡ taken es → text_end (take n input) ≡ text_end input

-- However an input is cut into pieces, what a program prints over them is what is due for the whole input, where the first has
-- 8,198 octets or is all there is.
abbrev pub PiecesPrint : Type 1
PiecesPrint =
    (S : Type 0) (p : Program S) (room : ℕ) (kept first : List ℕ) (pieces : List (List ℕ))
    → ((table : List ℕ) → ByStart (p.tell table))
    → p.most ≤ room
    → length kept ≡ most_kept
    → (8198 ≤ length first) ⊎ (whole pieces ≡ [])
    → line_ends (drop (text_end (first ++ whole pieces)) (first ++ whole pieces)) < 18446744073709551616
    → pieces_printed p room kept first pieces ≡ input_printed p (first ++ whole pieces)
