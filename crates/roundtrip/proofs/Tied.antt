-- The contracts say the definitions that demand 2 speaks of, call after call (specs/Tied.antt).
use Prim.Native.Nat.{ℕ}
use mathlib.Core.Path.{◌≡◌, refl, sym, ap, ap₂, ◌∙◌}
use mathlib.Core.List.{List, [], ◌∷◌, map}
use lib.ListN.{take, drop}
use lib.Seq.{take-append_seam}
use Rattle.std.specs.declared.option.Option.{Option}
use Rattle.std.specs.declared.option.Option.TheVariants.{Some, None}
use Rattle.std.specs.declared.result.Result.{Result}
use Rattle.std.specs.declared.result.Result.TheVariants.{Ok, Err}
use Rattle.contracts.proofs.Coming.{comes_of}
use Rattle.refusal.specs.declared.Refusal.{Refusal}
use Rattle.record.specs.declared.syntax.Record.{Record}
use Rattle.record.specs.declared.syntax.Syntax.{Syntax}
use Rattle.record.specs.Record.{found_at}
use Rattle.header.specs.declared.SubFrame.{SubFrame}
use Rattle.frame.specs.Opening.{Opening, scanned, all_or_none, opening, answer}
use Rattle.voice.specs.Voice.{voice_read}
use Rattle.sid.specs.Sid.{sid_read}
use Rattle.data.specs.Data.{data_read}
use Rattle.fax.specs.Fax.{fax_read}
use Rattle.digits.specs.Layout.{digits_read}
use Rattle.signalling.specs.Layout.{signalling_read}
use Rattle.payload.specs.declared.layout.Layout.{Layout}
use Rattle.payload.specs.declared.layout.Layout.TheVariants.{OfVoice, OfDigits, OfSignalling, OfFax, OfSid, OfData}
use Rattle.payload.specs.Layout.{layout_of}
use Rattle.payload.specs.Content.{Reading, read_by, payload_read, of_voice, of_digits, of_signalling, of_fax, of_sid, of_data}
use Rattle.place.specs.declared.Writer.{Writer}
use Rattle.place.specs.Place.{fresh_writer}
use Rattle.writer.specs.Writer.{Writing, writes, refuses, left_writing}
use Rattle.writer.specs.Answers.{answered}
use Rattle.roundtrip.specs.Demand2.{Sub, took, stopped, first, fed, frame_of, Got, got_of}
use Rattle.roundtrip.specs.Tied.{Handed, does, left_of, to_voice, to_data, to_digits, to_signalling, to_fax, to_sid, Tied, Back, Call, by_voice, by_data, by_digits, by_signalling, by_fax, by_sid, all_taken, goes_on, stops, CallsAreFed, ReadBy, Gets, AllGet, subs_of, CallsAreGotten, CallsReadBack}
use Rattle.roundtrip.proofs.RoundTrip.{written-reads-back}
use Rattle.place.proofs.fresh.Kinds as fresh-kinds
use Rattle.place.proofs.fresh.Reads as fresh-reads
use Rattle.writer.proofs.primary.write_voice.Kinds as voice-kinds
use Rattle.writer.proofs.primary.write_voice.Reads as voice-reads
use Rattle.writer.proofs.primary.write_data.Kinds as data-kinds
use Rattle.writer.proofs.primary.write_data.Reads as data-reads
use Rattle.writer.proofs.signalled.write_digits.Kinds as digits-kinds
use Rattle.writer.proofs.signalled.write_digits.Reads as digits-reads
use Rattle.writer.proofs.signalled.write_signalling.Kinds as signalling-kinds
use Rattle.writer.proofs.signalled.write_signalling.Reads as signalling-reads
use Rattle.writer.proofs.signalled.write_fax.Kinds as fax-kinds
use Rattle.writer.proofs.signalled.write_fax.Reads as fax-reads
use Rattle.writer.proofs.signalled.write_sid.Kinds as sid-kinds
use Rattle.writer.proofs.signalled.write_sid.Reads as sid-reads
use Rattle.frame.proofs.open.Kinds as open-kinds
use Rattle.frame.proofs.open.Reads as open-reads
use Rattle.record.proofs.table.record_of.Kinds as record-of-kinds
use Rattle.record.proofs.table.record_of.Reads as record-of-reads
use Rattle.payload.proofs.layout.layout_of.Kinds as layout-of-kinds
use Rattle.payload.proofs.layout.layout_of.Reads as layout-of-reads
use Rattle.voice.proofs.read_voice.Kinds as read-voice-kinds
use Rattle.voice.proofs.read_voice.Reads as read-voice-reads
use Rattle.digits.proofs.layout.read_digits.Kinds as read-digits-kinds
use Rattle.digits.proofs.layout.read_digits.Reads as read-digits-reads
use Rattle.signalling.proofs.layout.read_signalling.Kinds as read-signalling-kinds
use Rattle.signalling.proofs.layout.read_signalling.Reads as read-signalling-reads
use Rattle.fax.proofs.read_fax.Kinds as read-fax-kinds
use Rattle.fax.proofs.read_fax.Reads as read-fax-reads
use Rattle.sid.proofs.read_sid.Kinds as read-sid-kinds
use Rattle.sid.proofs.read_sid.Reads as read-sid-reads
use Rattle.data.proofs.read_data.Kinds as read-data-kinds
use Rattle.data.proofs.read_data.Reads as read-data-reads

pub tied : Tied
tied =
    record {
      fresh = λ κs a x s p. p;
      voice = λ κs a x s p. p.0;
      voice_left = λ κs a x s p. p.1;
      fragments = λ κs a x s p. p.0;
      fragments_left = λ κs a x s p. p.1;
      digits = λ κs a x s p. p.0;
      digits_left = λ κs a x s p. p.1;
      signalling = λ κs a x s p. p.0;
      signalling_left = λ κs a x s p. p.1;
      fax = λ κs a x s p. p.0;
      fax_left = λ κs a x s p. p.1;
      sid = λ κs a x s p. p.0;
      sid_left = λ κs a x s p. p.1;
      opens = λ κs a x s p. p;
      record_of = λ κs a x s p. p;
      layout_of = λ κs a x s p. p;
      read_voice = λ κs a x s p. p;
      read_digits = λ κs a x s p. p;
      read_signalling = λ κs a x s p. p;
      read_fax = λ κs a x s p. p;
      read_sid = λ κs a x s p. p;
      read_data = λ κs a x s p. p;
    }

-- what comes of a call, by the definitions
abbrev back_of : Handed → Back
back_of h = record { answer = answered (does h); left = left_of h }

called : (h : Handed) (back : Back) → Call h back → back ≡ back_of h
called h back (by_voice m) = comes_of 3 voice-kinds.ps voice-kinds.r voice-reads.Post to_voice _ back_of (λ κs a x s p. cc) h back m
called h back (by_data m) = comes_of 3 data-kinds.ps data-kinds.r data-reads.Post to_data _ back_of (λ κs a x s p. cc) h back m
called h back (by_digits m) = comes_of 2 digits-kinds.ps digits-kinds.r digits-reads.Post to_digits _ back_of (λ κs a x s p. cc) h back m
called h back (by_signalling m) = comes_of 2 signalling-kinds.ps signalling-kinds.r signalling-reads.Post to_signalling _ back_of (λ κs a x s p. cc) h back m
called h back (by_fax m) = comes_of 3 fax-kinds.ps fax-kinds.r fax-reads.Post to_fax _ back_of (λ κs a x s p. cc) h back m
called h back (by_sid m) = comes_of 2 sid-kinds.ps sid-kinds.r sid-reads.Post to_sid _ back_of (λ κs a x s p. cc) h back m

-- one call of a run, by what the writer does
step-on : (table frame left : List ℕ) (w next : Writer) (s : Sub) (ss : List Sub) (does : Writing)
    → first table frame w s ss ≡ does
    → Ok next ≡ answered does
    → left ≡ left_writing does frame w.at
    → fed table left next ss ≡ fed table frame w (s ∷ ss)
unfolding fed
step-on table frame left w next s ss (writes octets to) is answers leaves = rw is cc
step-on table frame left w next s ss (refuses refusal) is answers leaves = cc

stops_so : (table frame left : List ℕ) (w : Writer) (refusal : Refusal) (s : Sub) (ss : List Sub) (does : Writing)
    → first table frame w s ss ≡ does
    → Err refusal ≡ answered does
    → left ≡ left_writing does frame w.at
    → stopped refusal (s ∷ ss) w left ≡ fed table frame w (s ∷ ss)
unfolding fed
stops_so table frame left w refusal s ss (writes octets to) is answers leaves = cc
stops_so table frame left w refusal s ss (refuses other) is answers leaves = rw is cc

pub calls-are-fed : CallsAreFed
unfolding fed
calls-are-fed table f v ss end (all_taken frame w) = refl
calls-are-fed table f v ss end (goes_on frame left w next s rest to call calls) =
    let is = called _ _ call in
    calls-are-fed table left next rest to calls
    ∙ step-on table frame left w next s rest (first table frame w s rest) refl (ap (λ (b : Back). b.answer) is) (ap (λ (b : Back). b.left) is)
calls-are-fed table f v ss end (stops frame left w s rest refusal call) =
    let is = called _ _ call in
    stops_so table frame left w refusal s rest (first table frame w s rest) refl (ap (λ (b : Back). b.answer) is) (ap (λ (b : Back). b.left) is)

reads-by : (l : Result Layout Refusal) (p : List ℕ) (got : Reading) → ReadBy l p got → got ≡ read_by l p
reads-by (Ok (OfVoice r)) p got m = comes_of 1 read-voice-kinds.ps read-voice-kinds.r read-voice-reads.Post _ _ (λ (i : Record × List ℕ). of_voice p (voice_read i.0 i.1)) (λ κs a x s e. ap (of_voice p) e) (r, p) got m
reads-by (Ok OfDigits) p got m = comes_of 1 read-digits-kinds.ps read-digits-kinds.r read-digits-reads.Post _ _ (λ (q : List ℕ). of_digits (digits_read q)) (λ κs a x s e. ap of_digits e) p got m
reads-by (Ok OfSignalling) p got m = comes_of 1 read-signalling-kinds.ps read-signalling-kinds.r read-signalling-reads.Post _ _ (λ (q : List ℕ). of_signalling (signalling_read q)) (λ κs a x s e. ap of_signalling e) p got m
reads-by (Ok OfFax) p got m = comes_of 1 read-fax-kinds.ps read-fax-kinds.r read-fax-reads.Post _ _ (λ (q : List ℕ). of_fax p (fax_read q)) (λ κs a x s e. ap (of_fax p) e) p got m
reads-by (Ok (OfSid syntax)) p got m = comes_of 1 read-sid-kinds.ps read-sid-kinds.r read-sid-reads.Post _ _ (λ (i : Syntax × List ℕ). of_sid (sid_read i.0 i.1)) (λ κs a x s e. ap of_sid e) (syntax, p) got m
reads-by (Ok OfData) p got m = comes_of 1 read-data-kinds.ps read-data-kinds.r read-data-reads.Post _ _ (λ (q : List ℕ). of_data p (data_read q)) (λ κs a x s e. ap (of_data p) e) p got m
reads-by (Err refusal) p got m = m

gets : (table f : List ℕ) (sub : SubFrame) (got : Got) → Gets table f sub got → got ≡ got_of table f sub
gets table f sub got g =
    let found : g.found ≡ found_at table sub.cid =
    comes_of 1 record-of-kinds.ps record-of-kinds.r record-of-reads.Post _ _ (λ (i : List ℕ × ℕ). found_at i.0 i.1) (λ κs a x s e. e) (table, sub.cid) g.found g.finds
    in
    let laid : g.layout ≡ layout_of g.found sub.ptype =
    comes_of 0 layout-of-kinds.ps layout-of-kinds.r layout-of-reads.Post _ _ (λ (i : Option Record × ℕ). layout_of i.0 i.1) (λ κs a x s e. e) (g.found, sub.ptype) g.layout g.lays
    in
    let p = take sub.len (drop sub.start f) in
    let reading : got.reading ≡ payload_read (found_at table sub.cid) sub.ptype p =
    reads-by g.layout p got.reading g.read
    ∙ ap (λ (l : Result Layout Refusal). read_by l p) (laid ∙ ap (λ (x : Option Record). layout_of x sub.ptype) found)
    in
    ap₂ (λ (c : ℕ) (r : Reading). record { cid = c; reading = r }) g.same_cid reading

all-get : (table f : List ℕ) (subs : List SubFrame) (gots : List Got) → AllGet table f subs gots → gots ≡ map (got_of table f) subs
all-get table f [] [] all = refl
all-get table f [] (got ∷ gots) all = absurd all
all-get table f (sub ∷ subs) [] all = absurd all
all-get table f (sub ∷ subs) (got ∷ gots) all = ap₂ ◌∷◌ (gets table f sub got all.0) (all-get table f subs gots all.1)

-- what a frame opens to is listed, and none of a refused frame
listed : (f : List ℕ) → subs_of (answer (opening f)) ≡ (opening f).subs
unfolding opening
listed f = go (scanned f).refused (scanned f).at (scanned f).subs
  where
    go : (refused : Option Refusal) (at : ℕ) (subs : List SubFrame)
        → let o : Opening = all_or_none (record { refused = refused; at = at; subs = subs }) in
        subs_of (answer o) ≡ o.subs
    go (Some refusal) at subs = refl
    go None at subs = take-append_seam subs _

pub calls-are-gotten : CallsAreGotten
calls-are-gotten table f gots read =
    let opened : read.opened ≡ answer (opening f) = comes_of 1 open-kinds.ps open-kinds.r open-reads.Post _ _ (λ (s : List ℕ). answer (opening s)) (λ κs a x s e. e) f read.opened read.opens in
    let subs : subs_of read.opened ≡ (opening f).subs = ap subs_of opened ∙ listed f in
    all-get table f (subs_of read.opened) gots read.each ∙ ap (map (got_of table f)) subs

pub calls-read-back : CallsReadBack
calls-read-back table frame ss begin w left stated fresh calls done =
    let is : begin ≡ fresh_writer = comes_of 0 fresh-kinds.ps fresh-kinds.r fresh-reads.Post (λ κs a. tt {0}) (λ κs x s. x) (λ t. fresh_writer) (λ κs a x s p. p) (tt {0}) begin fresh in
    let taken : fed table frame fresh_writer ss ≡ took w left = ap (λ (v : Writer). fed table frame v ss) (sym is) ∙ sym (calls-are-fed table frame begin ss (took w left) calls) in
    let back = written-reads-back table frame ss w left (record { stated = stated; taken = taken; to_last = done }) in
    (back, λ gots read. calls-are-gotten table (frame_of w left) gots read ∙ back.same)
