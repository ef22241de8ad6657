-- What the voice card is handed (document 01, "Frame and sub-frame"): "the first type 0 payload on its sub-channel that passes
-- its checks or, where there is none, the lent silence block, whole; the answer says which. A refused frame gives its number,
-- then an unprovisioned CID 11, a data or fax one 12; each with an empty part of the frame."
use Rattle.std.specs.Prelude.{ℕ, ◌+◌, List, [], ◌∷◌, Bool, cond, ◌&&◌, eqb, take, drop, is_ok, Option, Some, None, Result, Ok, Err}
use Rattle.std.specs.Option.{option_map_or}
use Rattle.refusal.specs.declared.Refusal.{Refusal}
use Rattle.refusal.specs.declared.Refusal.TheVariants.{NotProvisioned, TypeNotAllowed}
use Rattle.refusal.specs.Numbers.{number}
use Rattle.header.specs.declared.SubFrame.{SubFrame}
use Rattle.frame.specs.Opening.{Opening, opening}
use Rattle.record.specs.declared.syntax.Record.{Record}
use Rattle.record.specs.Record.{found_at}
use Rattle.payload.specs.declared.layout.Family.{Family}
use Rattle.payload.specs.declared.layout.Family.TheVariants.{VoiceFamily, DataFamily, FaxFamily}
use Rattle.payload.specs.Layout.{family_of}
use Rattle.payload.specs.Content.{payload_read, checked}
use Rattle.card.specs.declared.handing.Handed.{Handed}
use Rattle.card.specs.declared.handing.Handed.TheVariants.{FromFrame, FromSilence}

-- a part of the frame s
abbrev pub part : List ℕ → ℕ → ℕ → List ℕ
part s start len = take len (drop start s)

-- a type 0 payload on the sub-channel that passes its checks
unfoldable pub serves : Option Record → ℕ → List ℕ → SubFrame → Bool
serves found cid s sub =
    eqb sub.cid cid
    && (eqb sub.ptype 0 && is_ok (checked (payload_read found 0 (part s sub.start sub.len))))

-- the first such payload or, where there is none, silence
unfoldable pub first_of : Option Record → ℕ → List ℕ → List SubFrame → Handed
first_of found cid s [] = FromSilence
first_of found cid s (sub ∷ subs) =
    cond (serves found cid s sub) (FromFrame sub.start sub.len) (first_of found cid s subs)

-- "then an unprovisioned CID 11, a data or fax one 12"
abbrev pub on_family : Family → Handed → Result Handed Refusal
on_family VoiceFamily h = Ok h
on_family DataFamily h = Err TypeNotAllowed
on_family FaxFamily h = Err TypeNotAllowed

abbrev pub on_channel : Option Record → Handed → Result Handed Refusal
on_channel (Some r) h = on_family (family_of r.syntax) h
on_channel None h = Err NotProvisioned

-- "A refused frame gives its number"
unfoldable pub after_opening : Option Record → ℕ → List ℕ → Opening → Result Handed Refusal
after_opening found cid s o = option_map_or Err o.refused (on_channel found (first_of found cid s o.subs))

-- What is handed for a call on a sub-channel, from the frame s.
unfoldable pub handed : List ℕ → List ℕ → ℕ → Result Handed Refusal
handed s table cid = after_opening (found_at table cid) cid s (opening s)

-- Its octets, from the frame s and the silence block.
abbrev pub octets_of : List ℕ → List ℕ → Result Handed Refusal → List ℕ
octets_of s silence (Ok (FromFrame start len)) = part s start len
octets_of s silence (Ok FromSilence) = silence
octets_of s silence (Err refusal) = []

-- Where they lie, a block of memory and a place in it: in the frame, behind `start` octets; where the silence block lies; at
-- the frame's first octet.
abbrev pub place_of : ℕ × ℕ → ℕ × ℕ → Result Handed Refusal → ℕ × ℕ
place_of frame silence (Ok (FromFrame start len)) = (frame.0, frame.1 + start)
place_of frame silence (Ok FromSilence) = silence
place_of frame silence (Err refusal) = frame

-- Which it is: the frame, the silence block, or a refusal. Document 01 has no refusal of these two numbers.
abbrev pub from_frame : ℕ
from_frame = 0

abbrev pub from_silence : ℕ
from_silence = 255

abbrev pub source_of : Result Handed Refusal → ℕ
source_of (Ok (FromFrame start len)) = from_frame
source_of (Ok FromSilence) = from_silence
source_of (Err refusal) = number refusal
