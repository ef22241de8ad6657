-- Demand 3 of a trunk (specs/Trunks.antt): what comes to it is heard by each receiver as a run of the sender's payloads, with
-- accepted voice in between for digits.
use Prim.Native.Nat.{ℕ}
use mathlib.Core.Path.{◌≡◌, refl, sym, ap, ap₂, ◌∙◌}
use mathlib.Core.List.{List, [], ◌∷◌, ◌++◌}
use mathlib.Core.Bool.{Bool, true, false}
use Rattle.std.specs.declared.option.Option.{Option}
use Rattle.std.specs.declared.result.Result.{Result}
use Rattle.std.specs.declared.result.Result.TheVariants.{Ok, Err}
use Rattle.refusal.specs.declared.Refusal.{Refusal}
use Rattle.record.specs.declared.syntax.Record.{Record}
use Rattle.voice.specs.declared.Voice.{Voice}
use Rattle.voice.specs.Voice.{voice_read}
use Rattle.sid.specs.Sid.{sid_read}
use Rattle.data.specs.Data.{data_read}
use Rattle.faxing.specs.Replay as faxing
use Rattle.digits.specs.declared.layout.Window.{Window}
use Rattle.digits.specs.declared.layout.Digits.{Digits}
use Rattle.digits.specs.Layout.{digits_read}
use Rattle.signalling.specs.declared.layout.Signalling.{Signalling}
use Rattle.signalling.specs.Layout.{signalling_read}
use Rattle.dialled.specs.declared.Receiver as digit_receiver
use Rattle.dialled.specs.declared.Appended as dialled-appended
use Rattle.dialled.specs.Receiver as dialled
use Rattle.seized.specs.declared.Receiver as signalling_receiver
use Rattle.seized.specs.declared.Appended as seized-appended
use Rattle.seized.specs.Receiver as seized
use Rattle.payload.specs.declared.layout.Layout.{Layout}
use Rattle.payload.specs.declared.layout.Layout.TheVariants.{OfVoice, OfDigits, OfSignalling, OfFax, OfSid, OfData}
use Rattle.payload.specs.Layout.{layout_of}
use Rattle.payload.specs.Content.{dialled, seized, reads, read_by, of_digits, of_signalling}
use Rattle.trunk.specs.declared.Trunk.{Trunk}
use Rattle.trunk.specs.Trunk.{Told, fresh_trunk, refusing, told_by, digits_taken, signalling_taken, voice_taken, taken_as, taken}
use Rattle.trunk.proofs.Cases.{as-layout, dialled_stands, seized_stands}
use Rattle.trunk.proofs.Leaves.{numbers}
use Rattle.replay.specs.Periods.{Mark}
use Rattle.carried.specs.Emissions.{Emission}
use Rattle.carried.specs.Digits as digits
use Rattle.carried.specs.Signalling as signalling
use Rattle.carried.specs.Trunks.{Coming, came, other, payloads_of, tellings, numbers_in, dialled_marks, digit_marks, seized_marks, signalling_marks, NoDigits, NoSignalling, TrunkDigitsCarried, TrunkSignallingCarried}
use Rattle.carried.proofs.Digits.{digits-carried}
use Rattle.carried.proofs.Signalling.{signalling-carried}

-- A telling, as a receiver of the trunk has it: these marks in its record, and this receiver after it.
pub record To {M R : Type 0} (marks : Told → List M) (part : Trunk → R) (x : Told) (appended : List M) (after : R) : Type 0 where
  pub appends : marks x ≡ appended
  pub leaves : part x.trunk ≡ after

module _ {M R : Type 0} {marks : Told → List M} {part : Trunk → R} where
  -- before what follows it
  joined : {x : Told} {ms : List M} {r : R} (rest : Trunk → List M) (heard : R → List M) → To marks part x ms r → ((t : Trunk) → rest t ≡ heard (part t)) → marks x ++ rest x.trunk ≡ ms ++ heard r
  joined {x} rest heard to is = ap₂ (λ (l m : List M). l ++ m) to.appends (is x.trunk ∙ ap heard to.leaves)

  -- what is told of an answer, whether it is a refusal or not
  by-answer :
      {A : Type 0} {ms : List M} {r : R} (t : Trunk) (answer : Result A Refusal) (heard : A → Told)
      → ((a : A) → answer ≡ Ok a → To marks part (heard a) ms r)
      → ((refusal : Refusal) → answer ≡ Err refusal → To marks part (refusing t refusal) ms r)
      → To marks part (told_by t answer heard) ms r
  by-answer t (Ok a) heard ok err = ok a refl
  by-answer t (Err refusal) heard ok err = err refusal refl

-- the digit receiver
abbrev ToDigits : Told → List (Mark Window) → digit_receiver.Receiver → Type 0
ToDigits x ms r = To (λ (y : Told). dialled_marks y.answer) (λ (t : Trunk). t.digits) x ms r

-- a payload of the sender
from-digits : (t : Trunk) (p : List ℕ) → ToDigits (digits_taken t p) (digits.marks_of (dialled.appended_in (dialled.received t.digits p))) (dialled.received t.digits p).receiver
from-digits t p =
    by-answer t (dialled.received t.digits p).answer _ (λ a is. record { appends = rw is refl; leaves = refl })
    (λ refusal is. record { appends = rw is refl; leaves = sym (dialled_stands p refusal t.digits is) })

-- another payload is accepted voice to it, or nothing
abbrev reads_voice : Result Voice Refusal → Bool
reads_voice (Ok voice) = true
reads_voice (Err refusal) = false

abbrev is_voice : Result Layout Refusal → List ℕ → Bool
is_voice (Ok (OfVoice r)) p = reads_voice (voice_read r p)
is_voice (Ok OfDigits) p = false
is_voice (Ok OfSignalling) p = false
is_voice (Ok OfFax) p = false
is_voice (Ok (OfSid syntax)) p = false
is_voice (Ok OfData) p = false
is_voice (Err refusal) p = false

abbrev receiver_by : Bool → digit_receiver.Receiver → digit_receiver.Receiver
receiver_by true r = dialled.voice_heard r
receiver_by false r = r

-- a payload that does not read is not accepted
no-windows : (r : digit_receiver.Receiver) (read : Result Digits Refusal) (a : dialled-appended.Appended) → ((d : Digits) → read ≡ Ok d → ⊥) → (dialled.received_by r read).answer ≡ Ok a → ⊥
no-windows r (Ok d) a none is = none d refl
no-windows r (Err refusal) a none is = cc

other-to-digits : (l : Result Layout Refusal) (t : Trunk) (p : List ℕ) → ((d : Digits) → read_by l p ≡ reads (dialled d) → ⊥) → ToDigits (taken_as l t p) [] (receiver_by (is_voice l p) t.digits)
unfolding dialled.received
other-to-digits (Ok (OfVoice r)) t p none = go (voice_read r p)
  where
    go : (read : Result Voice Refusal) → ToDigits (voice_taken t read) [] (receiver_by (reads_voice read) t.digits)
    go (Ok voice) = record { appends = refl; leaves = refl }
    go (Err refusal) = record { appends = refl; leaves = refl }
other-to-digits (Ok OfDigits) t p none =
    by-answer t (dialled.received t.digits p).answer _ (λ a is. absurd (no-windows t.digits (digits_read p) a (λ d e. none d (ap of_digits e)) is)) (λ refusal is. record { appends = refl; leaves = refl })
other-to-digits (Ok OfSignalling) t p none = by-answer t (seized.received t.signalling p).answer _ (λ a is. record { appends = refl; leaves = refl }) (λ refusal is. record { appends = refl; leaves = refl })
other-to-digits (Ok OfFax) t p none = by-answer t (faxing.received t.fax p).answer _ (λ a is. record { appends = refl; leaves = refl }) (λ refusal is. record { appends = refl; leaves = refl })
other-to-digits (Ok (OfSid syntax)) t p none = by-answer t (sid_read syntax p) _ (λ sid is. record { appends = refl; leaves = refl }) (λ refusal is. record { appends = refl; leaves = refl })
other-to-digits (Ok OfData) t p none = by-answer t (data_read p) _ (λ fragment is. record { appends = refl; leaves = refl }) (λ refusal is. record { appends = refl; leaves = refl })
other-to-digits (Err refusal) t p none = record { appends = refl; leaves = refl }

-- the run that it hears
abbrev heard_before : Bool → List digits.Heard → List digits.Heard
heard_before true hs = digits.voice ∷ hs
heard_before false hs = hs

abbrev run_of : Option Record → List Coming → List digits.Heard
run_of found [] = []
run_of found (came p ∷ cs) = digits.came p ∷ run_of found cs
run_of found (other ptype octets ∷ cs) = heard_before (is_voice (layout_of found ptype) octets) (run_of found cs)

others-silent : (b : Bool) (r : digit_receiver.Receiver) (hs : List digits.Heard) → digits.answers (receiver_by b r) hs ≡ digits.answers r (heard_before b hs)
others-silent true r hs = refl
others-silent false r hs = refl

others-no-payload : (b : Bool) (hs : List digits.Heard) → digits.payloads_of (heard_before b hs) ≡ digits.payloads_of hs
others-no-payload true hs = refl
others-no-payload false hs = refl

same-payloads : (found : Option Record) (cs : List Coming) → digits.payloads_of (run_of found cs) ≡ payloads_of cs
same-payloads found [] = refl
same-payloads found (came p ∷ cs) = ap (λ (ps : List Emission). p ∷ ps) (same-payloads found cs)
same-payloads found (other ptype octets ∷ cs) = others-no-payload (is_voice (layout_of found ptype) octets) (run_of found cs) ∙ same-payloads found cs

-- the record of what comes and the numbers, as they are told, are those of that run
abbrev DigitsTold : Option Record → List Coming → Trunk → Type 0
DigitsTold found cs t =
    (digit_marks (tellings 1 found t cs) ≡ digits.marks_in (digits.answers t.digits (run_of found cs)))
    × (numbers_in cs (tellings 1 found t cs) ≡ digits.numbers_in (digits.answers t.digits (run_of found cs)))

digits-told : (found : Option Record) → layout_of found 1 ≡ Ok OfDigits → (cs : List Coming) → NoDigits found cs → (t : Trunk) → DigitsTold found cs t
digits-told found carries [] none t = (refl, refl)
digits-told found carries (came p ∷ cs) none t =
    let x = taken t found 1 p.octets in
    let got = dialled.received t.digits p.octets in
    let to : ToDigits x (digits.marks_of (dialled.appended_in got)) got.receiver = rw (as-layout t found 1 p.octets carries) (from-digits t p.octets) in
    let rest = digits-told found carries cs none in (
      joined (λ u. digit_marks (tellings 1 found u cs)) (λ r. digits.marks_in (digits.answers r (run_of found cs))) to (λ u. (rest u).0),
      ap₂ (λ (n : ℕ) (ns : List ℕ). n ∷ ns) (numbers.digits t found 1 p.octets carries) ((rest x.trunk).1 ∙ ap (λ (r : digit_receiver.Receiver). digits.numbers_in (digits.answers r (run_of found cs))) to.leaves),
    )
digits-told found carries (other ptype octets ∷ cs) none t =
    let x = taken t found ptype octets in
    let l = layout_of found ptype in
    let to : ToDigits x [] (receiver_by (is_voice l octets) t.digits) = rw (as-layout t found ptype octets refl) (other-to-digits l t octets none.0) in
    let silent = others-silent (is_voice l octets) t.digits (run_of found cs) in
    let rest = digits-told found carries cs none.1 in (
      joined (λ u. digit_marks (tellings 1 found u cs)) (λ r. digits.marks_in (digits.answers r (run_of found cs))) to (λ u. (rest u).0) ∙ ap digits.marks_in silent,
      (rest x.trunk).1 ∙ ap (λ (r : digit_receiver.Receiver). digits.numbers_in (digits.answers r (run_of found cs))) to.leaves ∙ ap digits.numbers_in silent,
    )

pub trunk-digits-carried : TrunkDigitsCarried
trunk-digits-carried found entries one two given =
    let told = digits-told found given.carries one given.others fresh_trunk in
    let told2 = digits-told found given.carries two given.others2 fresh_trunk in
    let p1 = same-payloads found one in
    let p2 = same-payloads found two in
    rw (told.0, told2.0, told.1, told2.1, ← p1, ← p2)
    (digits-carried entries (run_of found one) (run_of found two)
    (record {
      some = rw p1 given.some;
      some2 = rw p2 given.some2;
      arriving = rw p1 given.arriving;
      arriving2 = rw p2 given.arriving2;
      more = rw (p1, p2) given.more;
    }))

-- the signalling receiver
abbrev ToSignalling : Told → List (Mark (List ℕ)) → signalling_receiver.Receiver → Type 0
ToSignalling x ms r = To (λ (y : Told). seized_marks y.answer) (λ (t : Trunk). t.signalling) x ms r

from-signalling : (t : Trunk) (p : List ℕ) → ToSignalling (signalling_taken t p) (signalling.marks_of (seized.appended_in (seized.received t.signalling p))) (seized.received t.signalling p).receiver
from-signalling t p =
    by-answer t (seized.received t.signalling p).answer _ (λ a is. record { appends = rw is refl; leaves = refl })
    (λ refusal is. record { appends = rw is refl; leaves = sym (seized_stands p refusal t.signalling is) })

-- a payload that does not read is not accepted
no-samples : (r : signalling_receiver.Receiver) (read : Result Signalling Refusal) (a : seized-appended.Appended) → ((s : Signalling) → read ≡ Ok s → ⊥) → (seized.received_by r read).answer ≡ Ok a → ⊥
no-samples r (Ok s) a none is = none s refl
no-samples r (Err refusal) a none is = cc

other-to-signalling : (l : Result Layout Refusal) (t : Trunk) (p : List ℕ) → ((s : Signalling) → read_by l p ≡ reads (seized s) → ⊥) → ToSignalling (taken_as l t p) [] t.signalling
unfolding seized.received
other-to-signalling (Ok (OfVoice r)) t p none = by-answer t (voice_read r p) _ (λ voice is. record { appends = refl; leaves = refl }) (λ refusal is. record { appends = refl; leaves = refl })
other-to-signalling (Ok OfDigits) t p none = by-answer t (dialled.received t.digits p).answer _ (λ a is. record { appends = refl; leaves = refl }) (λ refusal is. record { appends = refl; leaves = refl })
other-to-signalling (Ok OfSignalling) t p none =
    by-answer t (seized.received t.signalling p).answer _ (λ a is. absurd (no-samples t.signalling (signalling_read p) a (λ s e. none s (ap of_signalling e)) is)) (λ refusal is. record { appends = refl; leaves = refl })
other-to-signalling (Ok OfFax) t p none = by-answer t (faxing.received t.fax p).answer _ (λ a is. record { appends = refl; leaves = refl }) (λ refusal is. record { appends = refl; leaves = refl })
other-to-signalling (Ok (OfSid syntax)) t p none = by-answer t (sid_read syntax p) _ (λ sid is. record { appends = refl; leaves = refl }) (λ refusal is. record { appends = refl; leaves = refl })
other-to-signalling (Ok OfData) t p none = by-answer t (data_read p) _ (λ fragment is. record { appends = refl; leaves = refl }) (λ refusal is. record { appends = refl; leaves = refl })
other-to-signalling (Err refusal) t p none = record { appends = refl; leaves = refl }

-- the record of what comes and the numbers, as they are told, are those of the sender's payloads alone
abbrev SignallingTold : Option Record → List Coming → Trunk → Type 0
SignallingTold found cs t =
    (signalling_marks (tellings 2 found t cs) ≡ signalling.marks_in (signalling.answers t.signalling (payloads_of cs)))
    × (numbers_in cs (tellings 2 found t cs) ≡ signalling.numbers_in (signalling.answers t.signalling (payloads_of cs)))

signalling-told : (found : Option Record) → layout_of found 2 ≡ Ok OfSignalling → (cs : List Coming) → NoSignalling found cs → (t : Trunk) → SignallingTold found cs t
signalling-told found carries [] none t = (refl, refl)
signalling-told found carries (came p ∷ cs) none t =
    let x = taken t found 2 p.octets in
    let got = seized.received t.signalling p.octets in
    let to : ToSignalling x (signalling.marks_of (seized.appended_in got)) got.receiver = rw (as-layout t found 2 p.octets carries) (from-signalling t p.octets) in
    let rest = signalling-told found carries cs none in (
      joined (λ u. signalling_marks (tellings 2 found u cs)) (λ r. signalling.marks_in (signalling.answers r (payloads_of cs))) to (λ u. (rest u).0),
      ap₂ (λ (n : ℕ) (ns : List ℕ). n ∷ ns) (numbers.signalling t found 2 p.octets carries) ((rest x.trunk).1 ∙ ap (λ (r : signalling_receiver.Receiver). signalling.numbers_in (signalling.answers r (payloads_of cs))) to.leaves),
    )
signalling-told found carries (other ptype octets ∷ cs) none t =
    let x = taken t found ptype octets in
    let l = layout_of found ptype in
    let to : ToSignalling x [] t.signalling = rw (as-layout t found ptype octets refl) (other-to-signalling l t octets none.0) in
    let rest = signalling-told found carries cs none.1 in (
      joined (λ u. signalling_marks (tellings 2 found u cs)) (λ r. signalling.marks_in (signalling.answers r (payloads_of cs))) to (λ u. (rest u).0),
      (rest x.trunk).1 ∙ ap (λ (r : signalling_receiver.Receiver). signalling.numbers_in (signalling.answers r (payloads_of cs))) to.leaves,
    )

pub trunk-signalling-carried : TrunkSignallingCarried
trunk-signalling-carried found start entries one two given =
    let told = signalling-told found given.carries one given.others fresh_trunk in
    let told2 = signalling-told found given.carries two given.others2 fresh_trunk in
    rw (told.0, told2.0, told.1, told2.1)
    (signalling-carried start entries (payloads_of one) (payloads_of two)
    (record {
      begins = given.begins;
      ten = given.ten;
      some = given.some;
      some2 = given.some2;
      arriving = given.arriving;
      arriving2 = given.arriving2;
      more = given.more;
    }))
