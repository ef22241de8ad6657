-- What a payload leaves alone, and its number (specs/Claims.antt).
use Prim.Native.Nat.{ℕ}
use mathlib.Core.Path.{◌≡◌, refl, sym, ap, ap₂, ◌∙◌}
use mathlib.Core.List.{List}
use mathlib.Core.Bool.{Bool, false}
use Rattle.refusal.specs.Numbers.{sound, number}
use Rattle.record.specs.declared.syntax.Record.{Record}
use Rattle.voice.specs.declared.Voice.{Voice}
use Rattle.voice.specs.Voice.{voice_read}
use Rattle.sid.specs.Sid.{sid_read}
use Rattle.refusal.proofs.Numbers.{some}
use Rattle.data.specs.Data.{data_read}
use Rattle.fax.specs.declared.Fax.{Fax}
use Rattle.fax.specs.Fax.{fax_read}
use Rattle.digits.specs.Layout.{digits_read}
use Rattle.signalling.specs.declared.layout.Signalling.{Signalling}
use Rattle.signalling.specs.Layout.{signalling_read}
use Rattle.dialled.specs.declared.Receiver as dialled-receiver
use Rattle.dialled.specs.Receiver as dialled
use Rattle.seized.specs.declared.Receiver as seized-receiver
use Rattle.seized.specs.Receiver as seized
use Rattle.faxing.specs.declared.Receiver as fax-receiver
use Rattle.faxing.specs.Replay as faxing
use Rattle.payload.specs.declared.layout.Layout.{Layout}
use Rattle.payload.specs.declared.layout.Layout.TheVariants.{OfVoice, OfDigits, OfSignalling, OfFax, OfSid, OfData}
use Rattle.payload.specs.Layout.{layout_of}
use Rattle.payload.specs.Content.{read_as, read_by, number_of, of_voice, of_digits, of_signalling, of_fax, of_sid, of_data}
use Rattle.trunk.specs.declared.Trunk.{Trunk}
use Rattle.trunk.specs.Trunk.{Told, number_in, refusing, told_by, voice_taken, taken_as, taken}
use Rattle.trunk.proofs.Cases.{as-layout, dialled_stands, seized_stands, fax_stands}
use Rattle.trunk.specs.Claims.{Numbers, ReadingRefuses, RefusedStands, Leaves}
use Rattle.digits.specs.declared.layout.Digits.{Digits}
use Rattle.refusal.specs.declared.Refusal.{Refusal}
use Rattle.std.specs.declared.option.Option.{Option}
use Rattle.std.specs.declared.result.Result.{Result}
use Rattle.std.specs.declared.result.Result.TheVariants.{Ok, Err}

-- what is told of an answer: the number, the trunk after it, and a trunk that stands
module _ {A : Type 0} (t : Trunk) where
  number-told :
      (answer : Result A Refusal) (heard : A → Told) (n : Result A Refusal → ℕ)
      → ((a : A) → number_in (heard a) ≡ n (Ok a))
      → ((refusal : Refusal) → number refusal ≡ n (Err refusal))
      → number_in (told_by t answer heard) ≡ n answer
  number-told (Ok a) heard n ok err = ok a
  number-told (Err refusal) heard n ok err = err refusal

  trunk-told :
      (answer : Result A Refusal) (heard : A → Told) (after : Trunk)
      → ((a : A) → (heard a).trunk ≡ after)
      → ((refusal : Refusal) → answer ≡ Err refusal → t ≡ after)
      → (told_by t answer heard).trunk ≡ after
  trunk-told (Ok a) heard after ok err = ok a
  trunk-told (Err refusal) heard after ok err = err refusal refl

  stands-told :
      (answer : Result A Refusal) (heard : A → Told) (refusal : Refusal)
      → ((a : A) → (heard a).answer ≡ Err refusal → ⊥)
      → (told_by t answer heard).answer ≡ Err refusal
      → told_by t answer heard ≡ refusing t refusal
  stands-told (Ok a) heard refusal never is = absurd (never a is)
  stands-told (Err first) heard refusal never is = cc

-- by the number of a voice payload, which no refusal has as 0
voice-leaves : (t : Trunk) (read : Result Voice Refusal) → number_in (voice_taken t read) ≡ sound → (voice_taken t read).trunk ≡ record { digits = dialled.voice_heard t.digits; signalling = t.signalling; fax = t.fax }
voice-leaves t (Ok voice) none = refl
voice-leaves t (Err refusal) none = absurd (some refusal none)

untoned : (r : dialled-receiver.Receiver) → r.on ≡ false → r.code ≡ 0 → dialled.voice_heard r ≡ r
untoned r off none = sym (ap₂ (λ (on : Bool) (code : ℕ). record { heard = r.heard; last = r.last; on = on; code = code }) off none)

voice_untoned : (t : Trunk) (read : Result Voice Refusal) → t.digits.on ≡ false → t.digits.code ≡ 0 → (voice_taken t read).trunk ≡ t
voice_untoned t (Ok voice) off none = ap (λ (r : dialled-receiver.Receiver). record { digits = r; signalling = t.signalling; fax = t.fax }) (untoned t.digits off none)
voice_untoned t (Err refusal) off none = refl

-- the number under a layout: that of a receiver or of the fax replay, or of reading
abbrev number_as : Result Layout Refusal → Trunk → List ℕ → ℕ
number_as (Ok (OfVoice r)) t p = number_of (read_as (OfVoice r) p)
number_as (Ok OfDigits) t p = dialled.number_in (dialled.received t.digits p)
number_as (Ok OfSignalling) t p = seized.number_in (seized.received t.signalling p)
number_as (Ok OfFax) t p = faxing.number_in (faxing.received t.fax p)
number_as (Ok (OfSid syntax)) t p = number_of (read_as (OfSid syntax) p)
number_as (Ok OfData) t p = number_of (read_as OfData p)
number_as (Err refusal) t p = number refusal

number-as : (l : Result Layout Refusal) (t : Trunk) (p : List ℕ) → number_in (taken_as l t p) ≡ number_as l t p
number-as (Ok (OfVoice r)) t p = number-told t (voice_read r p) _ (λ read. number_of (of_voice p read)) (λ voice. refl) (λ refusal. refl)
number-as (Ok OfDigits) t p = number-told t (dialled.received t.digits p).answer _ dialled.number_of (λ appended. refl) (λ refusal. refl)
number-as (Ok OfSignalling) t p = number-told t (seized.received t.signalling p).answer _ seized.number_of (λ appended. refl) (λ refusal. refl)
number-as (Ok OfFax) t p = number-told t (faxing.received t.fax p).answer _ faxing.number_of (λ handed. refl) (λ refusal. refl)
number-as (Ok (OfSid syntax)) t p = number-told t (sid_read syntax p) _ (λ read. number_of (of_sid read)) (λ sid. refl) (λ refusal. refl)
number-as (Ok OfData) t p = number-told t (data_read p) _ (λ read. number_of (of_data p read)) (λ fragment. refl) (λ refusal. refl)
number-as (Err refusal) t p = refl

readings : (l : Result Layout Refusal) (t : Trunk) (p : List ℕ) → (l ≡ Ok OfDigits → ⊥) → (l ≡ Ok OfSignalling → ⊥) → (l ≡ Ok OfFax → ⊥) → number_as l t p ≡ number_of (read_by l p)
readings (Ok (OfVoice r)) t p no-digits no-signalling no-fax = refl
readings (Ok OfDigits) t p no-digits no-signalling no-fax = absurd (no-digits refl)
readings (Ok OfSignalling) t p no-digits no-signalling no-fax = absurd (no-signalling refl)
readings (Ok OfFax) t p no-digits no-signalling no-fax = absurd (no-fax refl)
readings (Ok (OfSid syntax)) t p no-digits no-signalling no-fax = refl
readings (Ok OfData) t p no-digits no-signalling no-fax = refl
readings (Err n) t p no-digits no-signalling no-fax = refl

-- what reading refuses, the receivers refuse
digits-read-refused : (r : dialled-receiver.Receiver) (read : Result Digits Refusal) → (number_of (of_digits read) ≡ sound → ⊥) → dialled.number_in (dialled.received_by r read) ≡ number_of (of_digits read)
digits-read-refused r (Ok d) h = absurd (h refl)
digits-read-refused r (Err n) h = refl

signalling-read-refused : (r : seized-receiver.Receiver) (read : Result Signalling Refusal) → (number_of (of_signalling read) ≡ sound → ⊥) → seized.number_in (seized.received_by r read) ≡ number_of (of_signalling read)
signalling-read-refused r (Ok s) h = absurd (h refl)
signalling-read-refused r (Err n) h = refl

fax-read-refused : (r : fax-receiver.Receiver) (p : List ℕ) (read : Result Fax Refusal) → (number_of (of_fax p read) ≡ sound → ⊥) → faxing.number_in (faxing.received_by r p read) ≡ number_of (of_fax p read)
fax-read-refused r p (Ok fax) h = absurd (h refl)
fax-read-refused r p (Err n) h = refl

refused-first : (l : Result Layout Refusal) (t : Trunk) (p : List ℕ) → (number_of (read_by l p) ≡ sound → ⊥) → number_as l t p ≡ number_of (read_by l p)
unfolding dialled.received seized.received faxing.received
refused-first (Ok (OfVoice r)) t p h = refl
refused-first (Ok OfDigits) t p h = digits-read-refused t.digits (digits_read p) h
refused-first (Ok OfSignalling) t p h = signalling-read-refused t.signalling (signalling_read p) h
refused-first (Ok OfFax) t p h = fax-read-refused t.fax p (fax_read p) h
refused-first (Ok (OfSid syntax)) t p h = refl
refused-first (Ok OfData) t p h = refl
refused-first (Err n) t p h = refl

-- the number under the layout that was found
number_at : (t : Trunk) (found : Option Record) (ptype : ℕ) (p : List ℕ) {l : Result Layout Refusal} → layout_of found ptype ≡ l → number_in (taken t found ptype p) ≡ number_as l t p
unfolding taken
number_at t found ptype p e = number-as (layout_of found ptype) t p ∙ ap (λ (l : Result Layout Refusal). number_as l t p) e

pub numbers : Numbers
numbers =
    record {
      digits = λ t found ptype p e. number_at t found ptype p e;
      signalling = λ t found ptype p e. number_at t found ptype p e;
      fax = λ t found ptype p e. number_at t found ptype p e;
      others = λ t found ptype p no-digits no-signalling no-fax.
          number_at t found ptype p refl ∙ readings (layout_of found ptype) t p no-digits no-signalling no-fax;
    }

pub reading-refuses : ReadingRefuses
unfolding taken
reading-refuses t found ptype p h =
    number-as (layout_of found ptype) t p ∙ refused-first (layout_of found ptype) t p h

-- a refusal leaves the trunk
stands-as : (l : Result Layout Refusal) (t : Trunk) (p : List ℕ) (refusal : Refusal) → (taken_as l t p).answer ≡ Err refusal → taken_as l t p ≡ refusing t refusal
stands-as (Ok (OfVoice r)) t p refusal = stands-told t (voice_read r p) _ refusal (λ voice is. cc)
stands-as (Ok OfDigits) t p refusal = stands-told t (dialled.received t.digits p).answer _ refusal (λ appended is. cc)
stands-as (Ok OfSignalling) t p refusal = stands-told t (seized.received t.signalling p).answer _ refusal (λ appended is. cc)
stands-as (Ok OfFax) t p refusal = stands-told t (faxing.received t.fax p).answer _ refusal (λ handed is. cc)
stands-as (Ok (OfSid syntax)) t p refusal = stands-told t (sid_read syntax p) _ refusal (λ sid is. cc)
stands-as (Ok OfData) t p refusal = stands-told t (data_read p) _ refusal (λ fragment is. cc)
stands-as (Err first) t p refusal = λ is. cc

pub refused-stands : RefusedStands
unfolding taken
refused-stands t found ptype p = stands-as (layout_of found ptype) t p

-- the trunk under a layout
trunk-as : (t : Trunk) (found : Option Record) (ptype : ℕ) (p : List ℕ) {l : Result Layout Refusal} → layout_of found ptype ≡ l → (taken t found ptype p).trunk ≡ (taken_as l t p).trunk
trunk-as t found ptype p e = ap (λ (x : Told). x.trunk) (as-layout t found ptype p e)

pub leaves : Leaves
leaves =
    record {
      refused = λ t found ptype p refusal is. ap (λ (x : Told). x.trunk) (refused-stands t found ptype p refusal is);
      silence = λ t found ptype p s e. trunk-as t found ptype p e ∙ trunk-told t (sid_read s p) _ t (λ sid. refl) (λ refusal is. refl);
      fax = λ t found ptype p e. trunk-as t found ptype p e
          ∙ trunk-told t (faxing.received t.fax p).answer _ _ (λ handed. refl) (λ refusal is. rw (fax_stands p refusal t.fax is));
      fragments = λ t found ptype p e. trunk-as t found ptype p e ∙ trunk-told t (data_read p) _ t (λ fragment. refl) (λ refusal is. refl);
      digits = λ t found ptype p e. trunk-as t found ptype p e
          ∙ trunk-told t (dialled.received t.digits p).answer _ _ (λ appended. refl) (λ refusal is. rw (dialled_stands p refusal t.digits is));
      signalling = λ t found ptype p e. trunk-as t found ptype p e
          ∙ trunk-told t (seized.received t.signalling p).answer _ _ (λ appended. refl) (λ refusal is. rw (seized_stands p refusal t.signalling is));
      voice = λ t found ptype p r e taken-so.
          trunk-as t found ptype p e
          ∙ voice-leaves t (voice_read r p) (sym (ap number_in (as-layout t found ptype p e)) ∙ taken-so);
      voice_untoned = λ t found ptype p r e off none. trunk-as t found ptype p e ∙ voice_untoned t (voice_read r p) off none;
    }
