-- One line of a provisioning text (document 01, "Provisioning text").
use Rattle.std.specs.Prelude.{ℕ, List, [], ◌∷◌, Bool, true, false, not, ◌&&◌, leb, eqb, Option, is_none, unwrap_or, Result, Ok, Err}
use Rattle.octets.specs.Text.{ascii}
use Rattle.refusal.specs.Order.{◌gives◌, in_order}
use Rattle.record.specs.declared.syntax.Syntax.TheVariants.{Acelp}
use Rattle.record.specs.declared.syntax.Record.{Record}
use Rattle.record.specs.Record.{m_listed, seq_listed, syntax_at}
use Rattle.value.specs.declared.Value.{Value}
use Rattle.provisioning.specs.declared.line.Kind.{Kind}
use Rattle.provisioning.specs.declared.line.Kind.TheVariants.{OfCid, OfSyntax, OfM, OfSeq}
use Rattle.provisioning.specs.declared.line.State.{State}
use Rattle.provisioning.specs.declared.line.Step.{Step}
use Rattle.value.specs.Value.{valued, number_of, word_of, value_line}
use Rattle.refusal.specs.declared.Refusal.{Refusal}
use Rattle.refusal.specs.declared.Refusal.TheVariants.{LineMalformed, ValueNotListed, CidNotRising}

-- a line of this kind is due, and these are the CID and the record under way
abbrev pub due : Kind → ℕ → Record → State
due kind cid made = record { kind = kind; cid = cid; made = made }

-- What is due at the start: a block, on a CID above 0. The record under way is acelp with m 1 and seq 0.
abbrev pub start : State
start = due OfCid 0 (record { syntax = Acelp; m = 1; seq = false })

-- A kind of line: its key; whether it begins a block; how its value is read; which values are listed, for the record under
-- way; and what is due after it: the next kind of line, and what the value tells in its place.
pub record Row : Type 0 where
  pub key : List ℕ
  pub begins : Bool
  pub read : List ℕ → Option Value
  pub listed : Record → ℕ → Bool
  pub told : State → ℕ → State

-- "Blocks of four lines, each ended by LF: `cid=`, `syntax=`, `m=`, `seq=`." "CIDs 4 to 255": their rising is a test of its own,
-- below. A syntax word is told by its place among the seven.
abbrev pub row : Kind → Row
row OfCid =
    record {
      key = ascii "cid=";
      begins = true;
      read = number_of;
      listed = λ made cid. leb 4 cid && leb cid 255;
      told = λ st cid. due OfSyntax cid st.made;
    }
row OfSyntax =
    record {
      key = ascii "syntax=";
      begins = false;
      read = word_of;
      listed = λ made place. leb 1 place && leb place 7;
      told = λ st place. due OfM st.cid (record { syntax = syntax_at place; m = st.made.m; seq = st.made.seq });
    }
row OfM =
    record {
      key = ascii "m=";
      begins = false;
      read = number_of;
      listed = λ made m. m_listed made.syntax m;
      told = λ st m. due OfSeq st.cid (record { syntax = st.made.syntax; m = m; seq = st.made.seq });
    }
row OfSeq =
    record {
      key = ascii "seq=";
      begins = false;
      read = number_of;
      listed = λ made seq. leb seq 1 && seq_listed made.syntax (eqb seq 1);
      told = λ st seq. due OfCid st.cid (record { syntax = st.made.syntax; m = st.made.m; seq = eqb seq 1 });
    }

-- A line that is taken.
abbrev pub taken : State → Value → Step
taken st v = record { state = (row st.kind).told st v.value; size = v.size }

-- A line with this value, where `st` is due: "tried in this order: 31 wrong key, malformed number or missing LF; 32 value not
-- listed above; 33 CID not above the one before."
unfoldable pub line_by : State → Option Value → Result Step Refusal
line_by st value =
    let v = unwrap_or value (valued 0 0) in
    in_order
    (is_none value gives LineMalformed
    ∷ not ((row st.kind).listed st.made v.value) gives ValueNotListed
    ∷ ((row st.kind).begins && leb v.value st.cid) gives CidNotRising
    ∷ [])
    Err
    (Ok (taken st v))

-- The line that a text starts with, where this is due.
abbrev pub line_at : State → List ℕ → Result Step Refusal
line_at st s = line_by st (value_line (row st.kind).key (row st.kind).read s)
