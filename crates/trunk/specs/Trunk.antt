-- One sub-channel at the far end (document 01, "Payload types" and "Receivers"; document 02, wishes 1 and 3): what a payload of a
-- type brings about, by what is provisioned on the sub-channel. The layout names the receiver; a refusal hands the trunk back
-- unchanged.
use Rattle.std.specs.Prelude.{ℕ, List, Option, Result, Ok, Err}
use Rattle.refusal.specs.declared.Refusal.{Refusal}
use Rattle.refusal.specs.Numbers.{sound, number}
use Rattle.record.specs.declared.syntax.Record.{Record}
use Rattle.voice.specs.declared.Voice.{Voice}
use Rattle.voice.specs.Voice.{voice_read}
use Rattle.sid.specs.declared.Sid.{Sid}
use Rattle.sid.specs.Sid.{sid_read}
use Rattle.data.specs.declared.Fragment.{Fragment}
use Rattle.data.specs.Data.{data_read}
use Rattle.dialled.specs.Receiver as dialled
use Rattle.seized.specs.Receiver as seized
use Rattle.faxing.specs.Replay as faxing
use Rattle.payload.specs.declared.layout.Layout.{Layout}
use Rattle.payload.specs.declared.layout.Layout.TheVariants.{OfVoice, OfDigits, OfSignalling, OfFax, OfSid, OfData}
use Rattle.payload.specs.Layout.{layout_of}
use Rattle.trunk.specs.declared.Trunk.{Trunk}
use Rattle.trunk.specs.declared.Heard.{Heard}
use Rattle.trunk.specs.declared.Heard.TheVariants.{HeardVoice, HeardSilence, HeardDigits, HeardSignalling, HeardData, HeardFax}

-- the receivers as they are before anything has come
abbrev pub fresh_trunk : Trunk
fresh_trunk =
    record { digits = dialled.fresh_receiver; signalling = seized.fresh_receiver; fax = faxing.fresh_receiver }

-- What becomes of a payload: what was heard, or its refusal; and the trunk after it.
pub record Told : Type 0 where
  pub answer : Result Heard Refusal
  pub trunk : Trunk

-- the number of an answer, 0 where it is no refusal
abbrev pub number_of : Result Heard Refusal → ℕ
number_of (Ok heard) = sound
number_of (Err refusal) = number refusal

abbrev pub number_in : Told → ℕ
number_in x = number_of x.answer

-- "A refusal returns its number only .., and all .. state stand as at entry."
abbrev pub refusing : Trunk → Refusal → Told
refusing t refusal = record { answer = Err refusal; trunk = t }

-- a payload that is taken, and the trunk after it
abbrev pub passing : Trunk → Heard → Told
passing t heard = record { answer = Ok heard; trunk = t }

-- a payload by what reading it or a receiver answers: what is refused leaves the trunk
abbrev pub told_by : {A : Type 0} → Trunk → Result A Refusal → (A → Told) → Told
told_by t (Ok a) told = told a
told_by t (Err refusal) told = refusing t refusal

-- "An accepted type 0 voice payload ends a sounding tone".
abbrev pub voice_taken : Trunk → Result Voice Refusal → Told
voice_taken t read =
    told_by t read (λ voice.
    passing (record { digits = dialled.voice_heard t.digits; signalling = t.signalling; fax = t.fax }) HeardVoice)

-- a digits payload, by what the digit receiver answers: what reading refuses, then 19
abbrev pub digits_taken : Trunk → List ℕ → Told
digits_taken t payload =
    let got = dialled.received t.digits payload in
    told_by t got.answer (λ appended.
    passing (record { digits = got.receiver; signalling = t.signalling; fax = t.fax }) (HeardDigits appended))

-- a signalling payload, by what the signalling receiver answers: what reading refuses, then 19
abbrev pub signalling_taken : Trunk → List ℕ → Told
signalling_taken t payload =
    let got = seized.received t.signalling payload in
    told_by t got.answer (λ appended.
    passing (record { digits = t.digits; signalling = got.receiver; fax = t.fax }) (HeardSignalling appended))

-- a fax payload, by what the fax replay answers: what reading refuses, then 41, then 42
abbrev pub fax_taken : Trunk → List ℕ → Told
fax_taken t payload =
    let got = faxing.received t.fax payload in
    told_by t got.answer (λ handed.
    passing (record { digits = t.digits; signalling = t.signalling; fax = got.receiver }) (HeardFax handed))

-- silence and data
abbrev pub sid_taken : Trunk → Result Sid Refusal → Told
sid_taken t read = told_by t read (λ sid. passing t HeardSilence)

abbrev pub data_taken : Trunk → Result Fragment Refusal → Told
data_taken t read = told_by t read (λ fragment. passing t HeardData)

-- a payload of a layout
abbrev pub taken_as : Result Layout Refusal → Trunk → List ℕ → Told
taken_as (Ok (OfVoice r)) t payload = voice_taken t (voice_read r payload)
taken_as (Ok OfDigits) t payload = digits_taken t payload
taken_as (Ok OfSignalling) t payload = signalling_taken t payload
taken_as (Ok OfFax) t payload = fax_taken t payload
taken_as (Ok (OfSid syntax)) t payload = sid_taken t (sid_read syntax payload)
taken_as (Ok OfData) t payload = data_taken t (data_read payload)
taken_as (Err refusal) t payload = refusing t refusal

-- A payload of a type on a sub-channel where this is provisioned.
unfoldable pub taken : Trunk → Option Record → ℕ → List ℕ → Told
taken t found ptype payload = taken_as (layout_of found ptype) t payload
