-- Provisioning texts, read and written: every text that is taken is the text of its table, and every legal text is taken.
-- Proved in proofs/TextBack.antt and proofs/TextTaken.antt.
use Rattle.std.specs.Prelude.{ℕ, ◌<◌, ◌≤◌, ◌≡◌, List, [], ◌∷◌, ◌++◌, true}
use Rattle.record.specs.Record.{legal}
use Rattle.provisioning.specs.Text.{Entry, taken, reading, table_of}
use Rattle.provisioning.specs.Back.{block_text, text_of_table}

-- the blocks of entries, one after the other
abbrev pub text_of : List Entry → List ℕ
text_of [] = []
text_of (e ∷ es) = block_text e.cid e.made ++ text_of es

-- a CID from 4 to 255, above the one before
pub record Risen (before cid : ℕ) : Type 0 where
  pub above : before < cid
  pub from : 4 ≤ cid
  pub to : cid ≤ 255

-- entries of legal records, on strictly rising CIDs from 4 to 255
abbrev pub Rises : ℕ → List Entry → Type 0
Rises last [] = Unit {0}
Rises last (e ∷ es) = Risen last e.cid × (legal e.made ≡ true) × Rises e.cid es

-- The text of the table that a taken text fills is that text.
abbrev pub TextBack : Type 0
TextBack = (s : List ℕ) (es : List Entry) → reading s ≡ taken es → text_of_table (table_of es) ≡ s

-- The text of legal entries is taken, whatever they are, and tells those entries.
abbrev pub LegalTaken : Type 0
LegalTaken = (es : List Entry) → Rises 0 es → reading (text_of es) ≡ taken es
