-- A payload read into its content or refused, and a content made into octets or refused (document 01, "Payload types"): 11 and 12
-- by the sub-channel's record and the type, the other numbers by the layout.
use Rattle.std.specs.Prelude.{ℕ, List, Bool, drop, Option, Result, Some, None, Ok, Err}
use Rattle.refusal.specs.declared.Refusal.{Refusal}
use Rattle.refusal.specs.declared.Refusal.TheVariants.{NotProvisioned}
use Rattle.refusal.specs.Numbers.{sound, number}
use Rattle.octets.specs.Made.{Made, unmade}
use Rattle.counts.specs.declared.VoiceCount.{VoiceCount}
use Rattle.counts.specs.declared.DataCount.{DataCount}
use Rattle.record.specs.declared.syntax.Record.{Record}
use Rattle.voice.specs.declared.Voice.{Voice}
use Rattle.voice.specs.Voice.{voice_read, voice_made}
use Rattle.sid.specs.declared.Sid.{Sid}
use Rattle.sid.specs.Sid.{sid_read, sid_made}
use Rattle.data.specs.declared.Fragment.{Fragment}
use Rattle.data.specs.Data.{data_read, data_made}
use Rattle.fax.specs.declared.Command.{Command}
use Rattle.fax.specs.declared.Fax.{Fax}
use Rattle.fax.specs.Fax.{fax_read, fax_made}
use Rattle.digits.specs.declared.layout.Digits.{Digits}
use Rattle.digits.specs.Layout.{digits_read, digits_made}
use Rattle.signalling.specs.declared.layout.Signalling.{Signalling}
use Rattle.signalling.specs.Layout.{signalling_read, signalling_made}
use Rattle.payload.specs.declared.layout.Layout.{Layout}
use Rattle.payload.specs.declared.layout.Layout.TheVariants.{OfVoice, OfDigits, OfSignalling, OfFax, OfSid, OfData}
use Rattle.payload.specs.declared.layout.Kind.{Kind}
use Rattle.payload.specs.declared.layout.Kind.TheVariants.{AVoice, ADigits, ASignalling, AFax, ASid, AData}
use Rattle.payload.specs.Layout.{layout_of, type_for}

-- the six kinds of content; the last list is the octets that pass through
pub data Content : Type 0 where
  speech : VoiceCount → ℕ → List ℕ → Content
  dialled : Digits → Content
  seized : Signalling → Content
  faxed : ℕ → Option ℕ → Command → List ℕ → Content
  silent : Sid → Content
  fragment : Bool → Bool → DataCount → List ℕ → Content

pub data Reading : Type 0 where
  reads : Content → Reading
  refused : Refusal → Reading

-- reading
abbrev pub of_voice : List ℕ → Result Voice Refusal → Reading
of_voice p (Ok voice) = reads (speech voice.sequence voice.coding (drop voice.front p))
of_voice p (Err refusal) = refused refusal

abbrev pub of_digits : Result Digits Refusal → Reading
of_digits (Ok digits) = reads (dialled digits)
of_digits (Err refusal) = refused refusal

abbrev pub of_signalling : Result Signalling Refusal → Reading
of_signalling (Ok signalling) = reads (seized signalling)
of_signalling (Err refusal) = refused refusal

abbrev pub of_fax : List ℕ → Result Fax Refusal → Reading
of_fax p (Ok fax) = reads (faxed fax.sequence fax.stamp fax.command (drop fax.front p))
of_fax p (Err refusal) = refused refusal

abbrev pub of_sid : Result Sid Refusal → Reading
of_sid (Ok sid) = reads (silent sid)
of_sid (Err refusal) = refused refusal

abbrev pub of_data : List ℕ → Result Fragment Refusal → Reading
of_data p (Ok told) = reads (fragment told.begins told.ends told.sequence (drop 2 p))
of_data p (Err refusal) = refused refusal

abbrev pub read_as : Layout → List ℕ → Reading
read_as (OfVoice r) p = of_voice p (voice_read r p)
read_as OfDigits p = of_digits (digits_read p)
read_as OfSignalling p = of_signalling (signalling_read p)
read_as OfFax p = of_fax p (fax_read p)
read_as (OfSid syntax) p = of_sid (sid_read syntax p)
read_as OfData p = of_data p (data_read p)

abbrev pub read_by : Result Layout Refusal → List ℕ → Reading
read_by (Ok layout) p = read_as layout p
read_by (Err refusal) p = refused refusal

abbrev pub payload_read : Option Record → ℕ → List ℕ → Reading
payload_read found ptype p = read_by (layout_of found ptype) p

-- whether it reads
abbrev pub checked : Reading → Result Unit Refusal
checked (reads content) = Ok tt
checked (refused refusal) = Err refusal

-- the refusal number, 0 for none
abbrev pub number_of : Reading → ℕ
number_of (reads content) = sound
number_of (refused refusal) = number refusal

-- writing
abbrev pub kind_of : Content → Kind
kind_of (speech sequence coding body) = AVoice
kind_of (dialled digits) = ADigits
kind_of (seized signalling) = ASignalling
kind_of (faxed sequence stamp command body) = AFax
kind_of (silent sid) = ASid
kind_of (fragment begins ends sequence body) = AData

abbrev pub made_on : Record → Content → Made
made_on r (speech sequence coding body) = voice_made r sequence.0 coding body
made_on r (dialled digits) = digits_made digits
made_on r (seized signalling) = signalling_made signalling
made_on r (faxed sequence stamp command body) = fax_made sequence stamp command body
made_on r (silent sid) = sid_made r.syntax sid
made_on r (fragment begins ends sequence body) = data_made begins ends sequence.0 body

abbrev pub made_as : Result ℕ Refusal → Option Record → Content → Made
made_as (Err refusal) found content = unmade refusal
made_as (Ok ptype) (Some r) content = made_on r content
made_as (Ok ptype) None content = unmade NotProvisioned

abbrev pub payload_made : Option Record → Content → Made
payload_made found content = made_as (type_for found (kind_of content)) found content
