-- Demand 2 speaks of definitions, and these are what the functions' contracts say: results that meet the contract of a function
-- (`Post`, which the kit makes of it) are the definition's; results that meet the six writers' contracts, call after call, are
-- `fed`, and those that meet the readers' are `gotten`. Where a contract cited another definition, this would have no proof.
-- Proved in proofs/Tied.antt.
use Rattle.std.specs.Prelude.{ℕ, ◌≡◌, List, [], ◌∷◌, map, Bool, true, length, take, drop, Option, Result, Ok, Err}
use contract.Lifetimes.{Lfts}
use borrow.Fn.Kinds.{Dens}
use Rattle.contracts.specs.Meeting.{Answers, Leaves, Met}
use Rattle.refusal.specs.declared.Refusal.{Refusal}
use Rattle.record.specs.declared.syntax.Record.{Record}
use Rattle.record.specs.declared.syntax.Syntax.{Syntax}
use Rattle.record.specs.Record.{found_at}
use Rattle.header.specs.declared.SubFrame.{SubFrame}
use Rattle.frame.specs.declared.Opened.{Opened}
use Rattle.frame.specs.declared.Refused.{Refused}
use Rattle.frame.specs.Opening.{opening, answer}
use Rattle.voice.specs.Voice.{voice_read}
use Rattle.sid.specs.Sid.{sid_read}
use Rattle.data.specs.Data.{data_read}
use Rattle.fax.specs.Fax.{fax_read}
use Rattle.digits.specs.Layout.{digits_read}
use Rattle.signalling.specs.Layout.{signalling_read}
use Rattle.payload.specs.declared.layout.Layout.{Layout}
use Rattle.payload.specs.declared.layout.Layout.TheVariants.{OfVoice, OfDigits, OfSignalling, OfFax, OfSid, OfData}
use Rattle.payload.specs.Layout.{layout_of}
use Rattle.payload.specs.Content.{Content, speech, dialled, seized, faxed, silent, fragment, Reading, refused, of_voice, of_digits, of_signalling, of_fax, of_sid, of_data}
use Rattle.place.specs.declared.Writer.{Writer}
use Rattle.place.specs.Place.{fresh_writer}
use Rattle.writer.specs.Writer.{Writing, writing, left_writing}
use Rattle.writer.specs.Answers.{answered}
use Rattle.roundtrip.specs.Demand2.{Sub, AllStated, is_last, Fed, took, stopped, fed, frame_of, Got, gotten, same_as, RoundTrip}
use Rattle.place.proofs.fresh.Kinds as fresh-kinds
use Rattle.place.proofs.fresh.Reads as fresh-reads
use Rattle.writer.proofs.primary.write_voice.Kinds as voice-kinds
use Rattle.writer.proofs.primary.write_voice.Reads as voice-reads
use Rattle.writer.proofs.primary.write_data.Kinds as data-kinds
use Rattle.writer.proofs.primary.write_data.Reads as data-reads
use Rattle.writer.proofs.signalled.write_digits.Kinds as digits-kinds
use Rattle.writer.proofs.signalled.write_digits.Reads as digits-reads
use Rattle.writer.proofs.signalled.write_signalling.Kinds as signalling-kinds
use Rattle.writer.proofs.signalled.write_signalling.Reads as signalling-reads
use Rattle.writer.proofs.signalled.write_fax.Kinds as fax-kinds
use Rattle.writer.proofs.signalled.write_fax.Reads as fax-reads
use Rattle.writer.proofs.signalled.write_sid.Kinds as sid-kinds
use Rattle.writer.proofs.signalled.write_sid.Reads as sid-reads
use Rattle.frame.proofs.open.Kinds as open-kinds
use Rattle.frame.proofs.open.Reads as open-reads
use Rattle.record.proofs.table.record_of.Kinds as record-of-kinds
use Rattle.record.proofs.table.record_of.Reads as record-of-reads
use Rattle.payload.proofs.layout.layout_of.Kinds as layout-of-kinds
use Rattle.payload.proofs.layout.layout_of.Reads as layout-of-reads
use Rattle.voice.proofs.read_voice.Kinds as read-voice-kinds
use Rattle.voice.proofs.read_voice.Reads as read-voice-reads
use Rattle.digits.proofs.layout.read_digits.Kinds as read-digits-kinds
use Rattle.digits.proofs.layout.read_digits.Reads as read-digits-reads
use Rattle.signalling.proofs.layout.read_signalling.Kinds as read-signalling-kinds
use Rattle.signalling.proofs.layout.read_signalling.Reads as read-signalling-reads
use Rattle.fax.proofs.read_fax.Kinds as read-fax-kinds
use Rattle.fax.proofs.read_fax.Reads as read-fax-reads
use Rattle.sid.proofs.read_sid.Kinds as read-sid-kinds
use Rattle.sid.proofs.read_sid.Reads as read-sid-reads
use Rattle.data.proofs.read_data.Kinds as read-data-kinds
use Rattle.data.proofs.read_data.Reads as read-data-reads

-- What a writing function is handed: the lent frame, the writer, whether it is the last, the table and the sub-frame.
pub record Handed : Type 0 where
  pub frame : List ℕ
  pub writer : Writer
  pub last : Bool
  pub table : List ℕ
  pub sub : Sub

abbrev pub handed : List ℕ → Writer → Bool → List ℕ → ℕ → Content → Handed
handed frame writer last table cid content =
    record { frame = frame; writer = writer; last = last; table = table; sub = record { cid = cid; content = content } }

-- what the writer does with it, and the lent frame then
abbrev pub does : Handed → Writing
does h = writing (length h.frame) h.writer h.last (found_at h.table h.sub.cid) h.sub.cid h.sub.content

abbrev pub left_of : Handed → List ℕ
left_of h = left_writing (does h) h.frame h.writer.at

-- the same taken from each function's arguments
abbrev pub to_voice : (κs : Lfts 3) → Dens κs voice-kinds.ps → Handed
to_voice κs a =
    handed a.0.now a.1.0 a.1.1.0 a.1.1.1.0.now a.1.1.1.1.0
    (speech a.1.1.1.1.1.0 a.1.1.1.1.1.1.0 a.1.1.1.1.1.1.1.0.now)

abbrev pub to_data : (κs : Lfts 3) → Dens κs data-kinds.ps → Handed
to_data κs a =
    handed a.0.now a.1.0 a.1.1.0 a.1.1.1.0.now a.1.1.1.1.0
    (fragment a.1.1.1.1.1.0 a.1.1.1.1.1.1.0 a.1.1.1.1.1.1.1.0 a.1.1.1.1.1.1.1.1.0.now)

abbrev pub to_digits : (κs : Lfts 2) → Dens κs digits-kinds.ps → Handed
to_digits κs a = handed a.0.now a.1.0 a.1.1.0 a.1.1.1.0.now a.1.1.1.1.0 (dialled a.1.1.1.1.1.0)

abbrev pub to_signalling : (κs : Lfts 2) → Dens κs signalling-kinds.ps → Handed
to_signalling κs a = handed a.0.now a.1.0 a.1.1.0 a.1.1.1.0.now a.1.1.1.1.0 (seized a.1.1.1.1.1.0)

abbrev pub to_fax : (κs : Lfts 3) → Dens κs fax-kinds.ps → Handed
to_fax κs a =
    handed a.0.now a.1.0 a.1.1.0 a.1.1.1.0.now a.1.1.1.1.0
    (faxed a.1.1.1.1.1.0 a.1.1.1.1.1.1.0 a.1.1.1.1.1.1.1.0 a.1.1.1.1.1.1.1.1.0.now)

abbrev pub to_sid : (κs : Lfts 2) → Dens κs sid-kinds.ps → Handed
to_sid κs a = handed a.0.now a.1.0 a.1.1.0 a.1.1.1.0.now a.1.1.1.1.0 (silent a.1.1.1.1.1.0)

pub record Tied : Type 0 where
  pub fresh : Answers 0 fresh-kinds.ps fresh-kinds.r (λ κs a. fresh_writer) fresh-reads.Post
  pub voice : Answers 3 voice-kinds.ps voice-kinds.r (λ κs a. answered (does (to_voice κs a))) voice-reads.Post
  pub voice_left : Leaves 3 voice-kinds.ps voice-kinds.r (λ κs s. s.0.now) (λ κs a. left_of (to_voice κs a)) voice-reads.Post
  pub fragments : Answers 3 data-kinds.ps data-kinds.r (λ κs a. answered (does (to_data κs a))) data-reads.Post
  pub fragments_left : Leaves 3 data-kinds.ps data-kinds.r (λ κs s. s.0.now) (λ κs a. left_of (to_data κs a)) data-reads.Post
  pub digits : Answers 2 digits-kinds.ps digits-kinds.r (λ κs a. answered (does (to_digits κs a))) digits-reads.Post
  pub digits_left : Leaves 2 digits-kinds.ps digits-kinds.r (λ κs s. s.0.now) (λ κs a. left_of (to_digits κs a)) digits-reads.Post
  pub signalling : Answers 2 signalling-kinds.ps signalling-kinds.r (λ κs a. answered (does (to_signalling κs a))) signalling-reads.Post
  pub signalling_left : Leaves 2 signalling-kinds.ps signalling-kinds.r (λ κs s. s.0.now) (λ κs a. left_of (to_signalling κs a)) signalling-reads.Post
  pub fax : Answers 3 fax-kinds.ps fax-kinds.r (λ κs a. answered (does (to_fax κs a))) fax-reads.Post
  pub fax_left : Leaves 3 fax-kinds.ps fax-kinds.r (λ κs s. s.0.now) (λ κs a. left_of (to_fax κs a)) fax-reads.Post
  pub sid : Answers 2 sid-kinds.ps sid-kinds.r (λ κs a. answered (does (to_sid κs a))) sid-reads.Post
  pub sid_left : Leaves 2 sid-kinds.ps sid-kinds.r (λ κs s. s.0.now) (λ κs a. left_of (to_sid κs a)) sid-reads.Post
  -- reading: the frame opened, the record, the layout, and each layout's own
  pub opens : Answers 1 open-kinds.ps open-kinds.r (λ κs a. answer (opening a.0.now)) open-reads.Post
  pub record_of : Answers 1 record-of-kinds.ps record-of-kinds.r (λ κs a. found_at a.0.now a.1.0) record-of-reads.Post
  pub layout_of : Answers 0 layout-of-kinds.ps layout-of-kinds.r (λ κs a. layout_of a.0 a.1.0) layout-of-reads.Post
  pub read_voice : Answers 1 read-voice-kinds.ps read-voice-kinds.r (λ κs a. voice_read a.0 a.1.0.now) read-voice-reads.Post
  pub read_digits : Answers 1 read-digits-kinds.ps read-digits-kinds.r (λ κs a. digits_read a.0.now) read-digits-reads.Post
  pub read_signalling : Answers 1 read-signalling-kinds.ps read-signalling-kinds.r (λ κs a. signalling_read a.0.now) read-signalling-reads.Post
  pub read_fax : Answers 1 read-fax-kinds.ps read-fax-kinds.r (λ κs a. fax_read a.0.now) read-fax-reads.Post
  pub read_sid : Answers 1 read-sid-kinds.ps read-sid-kinds.r (λ κs a. sid_read a.0 a.1.0.now) read-sid-reads.Post
  pub read_data : Answers 1 read-data-kinds.ps read-data-kinds.r (λ κs a. data_read a.0.now) read-data-reads.Post

-- what comes of a call: its answer, and what the lent frame then holds
pub record Back : Type 0 where
  pub answer : Result Writer Refusal
  pub left : List ℕ

-- A call of one of the six, handed this, of which that comes, and which meets its contract.
pub data Call (h : Handed) (back : Back) : Type 0 where
  by_voice : Met 3 voice-kinds.ps voice-kinds.r voice-reads.Post to_voice (λ κs x s. record { answer = x; left = s.0.now }) h back → Call h back
  by_data : Met 3 data-kinds.ps data-kinds.r data-reads.Post to_data (λ κs x s. record { answer = x; left = s.0.now }) h back → Call h back
  by_digits : Met 2 digits-kinds.ps digits-kinds.r digits-reads.Post to_digits (λ κs x s. record { answer = x; left = s.0.now }) h back → Call h back
  by_signalling : Met 2 signalling-kinds.ps signalling-kinds.r signalling-reads.Post to_signalling (λ κs x s. record { answer = x; left = s.0.now }) h back → Call h back
  by_fax : Met 3 fax-kinds.ps fax-kinds.r fax-reads.Post to_fax (λ κs x s. record { answer = x; left = s.0.now }) h back → Call h back
  by_sid : Met 2 sid-kinds.ps sid-kinds.r sid-reads.Post to_sid (λ κs x s. record { answer = x; left = s.0.now }) h back → Call h back

-- Calls that meet their contracts, one for each sub-frame of a list, each handed the writer and the lent frame that the one before
-- left, until one refuses or the last is taken.
pub data Calls (table : List ℕ) : List ℕ → Writer → List Sub → Fed → Type 0 where
  all_taken : (frame : List ℕ) (w : Writer) → Calls table frame w [] (took w frame)
  goes_on : (frame left : List ℕ) (w next : Writer) (s : Sub) (ss : List Sub) (end : Fed)
      → Call (record { frame = frame; writer = w; last = is_last ss; table = table; sub = s }) (record { answer = Ok next; left = left })
      → Calls table left next ss end
      → Calls table frame w (s ∷ ss) end
  stops : (frame left : List ℕ) (w : Writer) (s : Sub) (ss : List Sub) (refusal : Refusal)
      → Call (record { frame = frame; writer = w; last = is_last ss; table = table; sub = s }) (record { answer = Err refusal; left = left })
      → Calls table frame w (s ∷ ss) (stopped refusal (s ∷ ss) w left)

-- They are `fed`.
abbrev pub CallsAreFed : Type 0
CallsAreFed = (table frame : List ℕ) (w : Writer) (ss : List Sub) (end : Fed) → Calls table frame w ss end → end ≡ fed table frame w ss

-- A payload read by the function of its layout, in a call that meets its contract.
abbrev pub ReadBy : Result Layout Refusal → List ℕ → Reading → Type 0
ReadBy (Ok (OfVoice r)) p got = Met 1 read-voice-kinds.ps read-voice-kinds.r read-voice-reads.Post {I = Record × List ℕ} (λ κs a. (a.0, a.1.0.now)) (λ κs x s. of_voice p x) (r, p) got
ReadBy (Ok OfDigits) p got = Met 1 read-digits-kinds.ps read-digits-kinds.r read-digits-reads.Post (λ κs a. a.0.now) (λ κs x s. of_digits x) p got
ReadBy (Ok OfSignalling) p got = Met 1 read-signalling-kinds.ps read-signalling-kinds.r read-signalling-reads.Post (λ κs a. a.0.now) (λ κs x s. of_signalling x) p got
ReadBy (Ok OfFax) p got = Met 1 read-fax-kinds.ps read-fax-kinds.r read-fax-reads.Post (λ κs a. a.0.now) (λ κs x s. of_fax p x) p got
ReadBy (Ok (OfSid syntax)) p got = Met 1 read-sid-kinds.ps read-sid-kinds.r read-sid-reads.Post {I = Syntax × List ℕ} (λ κs a. (a.0, a.1.0.now)) (λ κs x s. of_sid x) (syntax, p) got
ReadBy (Ok OfData) p got = Met 1 read-data-kinds.ps read-data-kinds.r read-data-reads.Post (λ κs a. a.0.now) (λ κs x s. of_data p x) p got
ReadBy (Err refusal) p got = got ≡ refused refusal

-- a sub-frame of a frame f, read so by the record of its sub-channel
pub record Gets (table f : List ℕ) (sub : SubFrame) (got : Got) : Type 0 where
  pub found : Option Record
  pub layout : Result Layout Refusal
  pub finds : Met 1 record-of-kinds.ps record-of-kinds.r record-of-reads.Post {I = List ℕ × ℕ} (λ κs a. (a.0.now, a.1.0)) (λ κs x s. x) (table, sub.cid) found
  pub lays : Met 0 layout-of-kinds.ps layout-of-kinds.r layout-of-reads.Post {I = Option Record × ℕ} (λ κs a. (a.0, a.1.0)) (λ κs x s. x) (found, sub.ptype) layout
  pub read : ReadBy layout (take sub.len (drop sub.start f)) got.reading
  pub same_cid : got.cid ≡ sub.cid

abbrev pub AllGet : List ℕ → List ℕ → List SubFrame → List Got → Type 0
AllGet table f [] [] = Unit
AllGet table f [] (got ∷ gots) = ⊥
AllGet table f (sub ∷ subs) [] = ⊥
AllGet table f (sub ∷ subs) (got ∷ gots) = Gets table f sub got × AllGet table f subs gots

-- the sub-frames of an opened frame: "1 to 8 refuse the whole frame: number, offset .., no sub-frame"
abbrev pub subs_of : Result Opened Refused → List SubFrame
subs_of (Ok opened) = take opened.count opened.subs
subs_of (Err whole) = []

-- a frame opened, and its sub-frames read so
pub record ReadByCalls (table f : List ℕ) (gots : List Got) : Type 0 where
  pub opened : Result Opened Refused
  pub opens : Met 1 open-kinds.ps open-kinds.r open-reads.Post (λ κs a. a.0.now) (λ κs x s. x) f opened
  pub each : AllGet table f (subs_of opened) gots

-- What comes is `gotten`.
abbrev pub CallsAreGotten : Type 0
CallsAreGotten = (table f : List ℕ) (gots : List Got) → ReadByCalls table f gots → gots ≡ gotten table f

-- So demand 2 holds of calls: those that begin with what `fresh` returns, and take the list to its last; and what is then read.
abbrev pub Fresh : Writer → Type 0
Fresh w = Met 0 fresh-kinds.ps fresh-kinds.r fresh-reads.Post (λ κs a. tt {0}) (λ κs x s. x) (tt {0}) w

abbrev pub CallsReadBack : Type 0
CallsReadBack =
    (table frame : List ℕ) (ss : List Sub) (first w : Writer) (left : List ℕ)
    → AllStated ss
    → Fresh first
    → Calls table frame first ss (took w left)
    → w.done ≡ true
    → RoundTrip table frame ss w left × ((gots : List Got) → ReadByCalls table (frame_of w left) gots → gots ≡ map same_as ss)
