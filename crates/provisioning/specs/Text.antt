-- Reading a provisioning text (document 01, "Provisioning text").
use Rattle.std.specs.Prelude.{ℕ, zero, suc, ◌+◌, List, [], ◌∷◌, cond, ltb, length, drop, set, replicate, Result, Ok, Err}
use Rattle.record.specs.declared.syntax.Record.{Record}
use Rattle.provisioning.specs.declared.line.Kind.{Kind}
use Rattle.provisioning.specs.declared.line.State.{State}
use Rattle.provisioning.specs.declared.line.Step.{Step}
use Rattle.provisioning.specs.declared.text.Refused.{Refused}
use Rattle.record.specs.Record.{packed}
use Rattle.provisioning.specs.Line.{start, row, line_at}
use Rattle.refusal.specs.declared.Refusal.{Refusal}
use Rattle.refusal.specs.declared.Refusal.TheVariants.{LineMalformed, TextTooLong}

-- "34: over 8,192 octets."
abbrev pub most_octets : ℕ
most_octets = 8192

-- What a block provisions.
pub record Entry : Type 0 where
  pub cid : ℕ
  pub made : Record

-- What reading a text tells: a refusal and its line, or what the blocks provision, in order.
pub data Reading : Type 0 where
  refused : Refusal → ℕ → Reading
  taken : List Entry → Reading

-- a block, before what follows it
abbrev pub before : Entry → Reading → Reading
before e (refused refusal line) = refused refusal line
before e (taken es) = taken (e ∷ es)

-- "A block cut at the end: 31 at the line after the last."
abbrev pub at_end : Kind → ℕ → Reading
at_end kind done = cond (row kind).begins (taken []) (refused LineMalformed (done + 1))

-- a line, after which `st` is due, before what follows it: a line after which a block is due ends one
abbrev pub after : State → Reading → Reading
after st rest = cond (row st.kind).begins (before (record { cid = st.cid; made = st.made }) rest) rest

-- a line after `done` others at the start of s, and what follows it
abbrev pub onwards : Result Step Refusal → ℕ → List ℕ → (State → List ℕ → Reading) → Reading
onwards (Ok step) done s rest = after step.state (rest step.state (drop step.size s))
onwards (Err refusal) done s rest = refused refusal (done + 1)

-- The lines of s, after `done` others, where `st` is due. Each line has an octet, so that `room`, above the octets, is enough.
unfoldable pub walk : ℕ → State → ℕ → List ℕ → Reading
walk zero st done s = refused LineMalformed (done + 1)
walk (suc room) st done [] = at_end st.kind done
walk (suc room) st done (x ∷ xs) =
    onwards (line_at st (x ∷ xs)) done (x ∷ xs) (λ next rest. walk room next (done + 1) rest)

-- The reading of a text: its length first, then line by line.
unfoldable pub reading : List ℕ → Reading
reading s = cond (ltb most_octets (length s)) (refused TextTooLong 0) (walk (most_octets + 1) start 0 s)

-- the answer of the code
abbrev pub answer : Reading → Result ℕ Refused
answer (refused refusal line) = Err (record { refusal = refusal; line = line })
answer (taken es) = Ok (length es)

-- the table t with these entries
abbrev pub filled : List ℕ → List Entry → List ℕ
filled t [] = t
filled t (e ∷ es) = filled (set t e.cid (packed e.made)) es

-- 256 numbers: the packed record at each entry's CID, and 0 elsewhere
abbrev pub table_of : List Entry → List ℕ
table_of es = filled (replicate 256 0) es

-- what the lent table holds then
abbrev pub table_after : Reading → List ℕ → List ℕ
table_after (refused refusal line) t = t
table_after (taken es) t = table_of es
