-- A whole input, a provisioning text and then lines (document 01, "Listing program"): what a program prints for it, and over pieces
-- of it.
use Rattle.std.specs.Prelude.{ℕ, List, ◌∷◌, take, drop}
use Rattle.refusal.specs.declared.Refusal.{Refusal}
use Rattle.provisioning.specs.Text.{Reading, refused, taken, reading, table_of}
use Rattle.recording.specs.Pieces.{text_end}
use Rattle.recording.specs.Walk.{Tell, all_told, input_told}

-- A program: what it prints of a refused text, by its refusal and line; what it tells of a line, by the table that the text
-- gives; its state before the first line; and the most octets that the text of a line may have.
pub record Program (S : Type 0) : Type 0 where
  pub refusing : Refusal → ℕ → List ℕ
  pub tell : List ℕ → Tell S
  pub fresh : S
  pub most : ℕ

-- the text by its own end: what reading it tells
abbrev pub text_read : List ℕ → Reading
text_read input = reading (take (text_end input) input)

abbrev pub after_text : {S : Type 0} → Program S → Reading → List ℕ → List ℕ
after_text p (refused refusal line) rest = p.refusing refusal line
after_text p (taken es) rest = (all_told (p.tell (table_of es)) p.fresh rest).text

-- What is printed for a whole input.
unfoldable pub input_printed : {S : Type 0} → Program S → List ℕ → List ℕ
input_printed p input = after_text p (text_read input) (drop (text_end input) input)

-- The same over pieces, in `room` octets and a lent room for a line: the text is read from the first piece.
abbrev pub behind_text : {S : Type 0} → Program S → Reading → ℕ → List ℕ → List (List ℕ) → List ℕ
behind_text p (refused refusal line) room kept pieces = p.refusing refusal line
behind_text p (taken es) room kept pieces = (input_told (p.tell (table_of es)) p.most room kept p.fresh pieces).text

unfoldable pub pieces_printed : {S : Type 0} → Program S → ℕ → List ℕ → List ℕ → List (List ℕ) → List ℕ
pieces_printed p room kept first pieces =
    behind_text p (text_read first) room kept (drop (text_end first) first ∷ pieces)
