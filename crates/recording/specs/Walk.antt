-- A recording gone through by a program that tells a text of each line (document 01, "Listing program"): what it tells of all
-- lines, and, in fixed memory, of a piece, of a last line, and of pieces one after the other. A state goes on from line to line.
use Rattle.std.specs.Prelude.{ℕ, zero, suc, ◌+◌, ◌-◌, List, [], ◌∷◌, ◌++◌, cond, ltb, eqb, length, take, drop}
use Rattle.octets.specs.Text.{has_lf}
use Rattle.recording.specs.declared.stream.Begun.{Begun}
use Rattle.recording.specs.declared.stream.Walked.{Walked}
use Rattle.recording.specs.Pieces.{line_size}
use Rattle.recording.specs.Stream.{line_of, next_of, kept_behind}

-- What is told: a text, and the state behind it.
pub record Told (S : Type 0) : Type 0 where
  pub text : List ℕ
  pub state : S

abbrev pub nothing : {S : Type 0} → S → Told S
nothing state = record { text = []; state = state }

-- What a program tells of a line, by its number, its octets and the state before it.
abbrev pub Tell : Type 0 → Type 0
Tell S = ℕ → List ℕ → S → Told S

-- what is told behind a text
abbrev pub behind : {S : Type 0} → List ℕ → Told S → Told S
behind text told = record { text = text ++ told.text; state = told.state }

-- The lines of s from number n on. Each has an octet, so that a first number not below the octets is enough.
unfoldable pub lines_told : {S : Type 0} → Tell S → ℕ → ℕ → S → List ℕ → Told S
lines_told tell zero n state s = nothing state
lines_told tell (suc more) n state [] = nothing state
lines_told tell (suc more) n state (x ∷ xs) =
    let size = line_size (x ∷ xs) in
    let told = tell n (take size (x ∷ xs)) state in
    behind told.text (lines_told tell more (n + 1) told.state (drop size (x ∷ xs)))

-- "frame number from 0"
abbrev pub all_told : {S : Type 0} → Tell S → S → List ℕ → Told S
all_told tell state s = lines_told tell (length s) 0 state s

-- What going through a piece does: the text, the octets taken, the lent room for a line with the octets that are kept there, how
-- the next line stands, and the state.
pub record Walk (S : Type 0) : Type 0 where
  pub text : List ℕ
  pub taken : ℕ
  pub kept : List ℕ
  pub next : Begun
  pub state : S

-- what the code answers that goes through a piece (listing, following)
abbrev pub answered : {S : Type 0} → Walk S → Walked
answered w = record { taken = w.taken; used = length w.text; next = w.next }

abbrev pub stopped : {S : Type 0} → Begun → List ℕ → S → Walk S
stopped begun kept state = record { text = []; taken = 0; kept = kept; next = begun; state = state }

-- a text and the octets that it took, before what follows
abbrev pub before : {S : Type 0} → List ℕ → ℕ → Walk S → Walk S
before text size w =
    record { text = text ++ w.text; taken = size + w.taken; kept = w.kept; next = w.next; state = w.state }

-- what is told of the line that a piece starts or goes on with: nothing where it goes on behind the piece
abbrev pub next_told : {S : Type 0} → Tell S → Begun → List ℕ → S → List ℕ → Told S
next_told tell begun kept state piece =
    cond (has_lf piece) (tell begun.number (line_of begun.have kept piece) state) (nothing state)

-- The lines of a piece, with `used` of `room` octets written already: one after the other, as long as the room is there for the
-- `most` octets that a line's text may have. Each line has an octet, so that a first number not below the octets is enough.
unfoldable pub walk : {S : Type 0} → Tell S → ℕ → ℕ → ℕ → ℕ → Begun → List ℕ → S → List ℕ → Walk S
walk tell most zero room used begun kept state piece = stopped begun kept state
walk tell most (suc more) room used begun kept state [] = stopped begun kept state
walk tell most (suc more) room used begun kept state (x ∷ xs) =
    let piece = x ∷ xs in
    let told = next_told tell begun kept state piece in
    cond (ltb (room - used) most) (stopped begun kept state)
    (before told.text (line_size piece)
    (walk tell most more room (used + length told.text) (next_of begun kept piece) (kept_behind begun.have kept piece) told.state
    (drop (line_size piece) piece)))

abbrev pub piece_told : {S : Type 0} → Tell S → ℕ → ℕ → Begun → List ℕ → S → List ℕ → Walk S
piece_told tell most room begun kept state piece = walk tell most (length piece) room 0 begun kept state piece

-- what is told at the end of the input: of a last line that lacks its LF, where the room is there
unfoldable pub last_told : {S : Type 0} → Tell S → ℕ → ℕ → Begun → List ℕ → S → Told S
last_told tell most room begun kept state =
    cond (eqb begun.have 0) (nothing state)
    (cond (ltb room most) (nothing state) (tell begun.number (take begun.have kept) state))

-- A piece in as many parts as the room asks: what is left of it is handed over again, with the room anew. Each part has an octet.
unfoldable pub parts_told : {S : Type 0} → Tell S → ℕ → ℕ → ℕ → Begun → List ℕ → S → List ℕ → Walk S
parts_told tell most zero room begun kept state piece = stopped begun kept state
parts_told tell most (suc more) room begun kept state [] = stopped begun kept state
parts_told tell most (suc more) room begun kept state (x ∷ xs) =
    let w = piece_told tell most room begun kept state (x ∷ xs) in
    before w.text w.taken (parts_told tell most more room w.next w.kept w.state (drop w.taken (x ∷ xs)))

-- piece after piece
unfoldable pub pieces_told : {S : Type 0} → Tell S → ℕ → ℕ → Begun → List ℕ → S → List (List ℕ) → Walk S
pieces_told tell most room begun kept state [] = stopped begun kept state
pieces_told tell most room begun kept state (piece ∷ pieces) =
    let w = parts_told tell most (length piece) room begun kept state piece in
    before w.text w.taken (pieces_told tell most room w.next w.kept w.state pieces)

-- An input in pieces, from the first to the last line; `kept` is the lent room for a line, whatever stands there.
abbrev pub input_told : {S : Type 0} → Tell S → ℕ → ℕ → List ℕ → S → List (List ℕ) → Told S
input_told tell most room kept state pieces =
    let w = pieces_told tell most room (record { have = 0; number = 0 }) kept state pieces in
    behind w.text (last_told tell most room w.next w.kept w.state)

-- the octets of all pieces
unfoldable pub whole : List (List ℕ) → List ℕ
whole [] = []
whole (piece ∷ pieces) = piece ++ whole pieces
