-- Which layout a payload has, by its sub-channel's record and its type (document 01, "Payload types"): "Type 0 is the
-- provisioned syntax, 1 digits, 2 signalling, 3 fax, 4 silence (SID). A data sub-channel allows 0 only; a fax one 0, 1, 2; the
-- others 0 to 4. Types 5 to 15 get 12." 11 comes first.
use Rattle.std.specs.Prelude.{ℕ, cond, eqb, Option, Result, Some, None, Ok, Err}
use Rattle.record.specs.declared.syntax.Syntax.{Syntax}
use Rattle.record.specs.declared.syntax.Syntax.TheVariants.{Acelp, Pcm, G727, G728, G7231, Data, Fax}
use Rattle.record.specs.declared.syntax.Record.{Record}
use Rattle.payload.specs.declared.layout.Family.{Family}
use Rattle.payload.specs.declared.layout.Family.TheVariants.{VoiceFamily, DataFamily, FaxFamily}
use Rattle.payload.specs.declared.layout.Layout.{Layout}
use Rattle.payload.specs.declared.layout.Layout.TheVariants.{OfVoice, OfDigits, OfSignalling, OfFax, OfSid, OfData}
use Rattle.payload.specs.declared.layout.Kind.{Kind}
use Rattle.payload.specs.declared.layout.Kind.TheVariants.{AVoice, ADigits, ASignalling, AFax, ASid, AData}
use Rattle.refusal.specs.declared.Refusal.{Refusal}
use Rattle.refusal.specs.declared.Refusal.TheVariants.{NotProvisioned, TypeNotAllowed}

-- what the syntaxes have in common
abbrev pub family_of : Syntax → Family
family_of Acelp = VoiceFamily
family_of Pcm = VoiceFamily
family_of G727 = VoiceFamily
family_of G728 = VoiceFamily
family_of G7231 = VoiceFamily
family_of Data = DataFamily
family_of Fax = FaxFamily

-- the layout of a type in each family
unfoldable pub on_voice : Record → ℕ → Result Layout Refusal
on_voice r ptype =
    cond (eqb ptype 0) (Ok (OfVoice r))
    (cond (eqb ptype 1) (Ok OfDigits)
    (cond (eqb ptype 2) (Ok OfSignalling)
    (cond (eqb ptype 3) (Ok OfFax)
    (cond (eqb ptype 4) (Ok (OfSid r.syntax))
    (Err TypeNotAllowed)))))

unfoldable pub on_fax : ℕ → Result Layout Refusal
on_fax ptype =
    cond (eqb ptype 0) (Ok OfFax)
    (cond (eqb ptype 1) (Ok OfDigits)
    (cond (eqb ptype 2) (Ok OfSignalling)
    (Err TypeNotAllowed)))

unfoldable pub on_data : ℕ → Result Layout Refusal
on_data ptype = cond (eqb ptype 0) (Ok OfData) (Err TypeNotAllowed)

abbrev pub layout_in : Family → Record → ℕ → Result Layout Refusal
layout_in VoiceFamily r ptype = on_voice r ptype
layout_in DataFamily r ptype = on_data ptype
layout_in FaxFamily r ptype = on_fax ptype

abbrev pub layout_of : Option Record → ℕ → Result Layout Refusal
layout_of (Some r) ptype = layout_in (family_of r.syntax) r ptype
layout_of None ptype = Err NotProvisioned

-- The type of a content's kind, for writing: a kind that the sub-channel does not carry is 12.
abbrev pub type_in : Family → Kind → Result ℕ Refusal
type_in VoiceFamily AVoice = Ok 0
type_in VoiceFamily ADigits = Ok 1
type_in VoiceFamily ASignalling = Ok 2
type_in VoiceFamily AFax = Ok 3
type_in VoiceFamily ASid = Ok 4
type_in VoiceFamily AData = Err TypeNotAllowed
type_in FaxFamily AVoice = Err TypeNotAllowed
type_in FaxFamily ADigits = Ok 1
type_in FaxFamily ASignalling = Ok 2
type_in FaxFamily AFax = Ok 0
type_in FaxFamily ASid = Err TypeNotAllowed
type_in FaxFamily AData = Err TypeNotAllowed
type_in DataFamily AVoice = Err TypeNotAllowed
type_in DataFamily ADigits = Err TypeNotAllowed
type_in DataFamily ASignalling = Err TypeNotAllowed
type_in DataFamily AFax = Err TypeNotAllowed
type_in DataFamily ASid = Err TypeNotAllowed
type_in DataFamily AData = Ok 0

abbrev pub type_for : Option Record → Kind → Result ℕ Refusal
type_for (Some r) kind = type_in (family_of r.syntax) kind
type_for None kind = Err NotProvisioned
