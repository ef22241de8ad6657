-- A content that is made on its sub-channel reads back: by the layout's own round trip, whatever the family.
use Prim.Native.Nat.{ℕ}
use mathlib.Core.Path.{◌≡◌, refl, sym, ap, ◌∙◌}
use mathlib.Core.List.{List, [], ◌∷◌}
use mathlib.Core.Bool.{true, false}
use lib.IntN.{pos}
use lib.ListN.{replicate}
use Rattle.octets.specs.Made.{made}
use Rattle.record.specs.declared.syntax.Record.{Record}
use Rattle.record.specs.declared.syntax.Syntax.TheVariants.{Acelp, Data}
use Rattle.voice.specs.Voice.{block_octets, body_octets, front_of, voice_made}
use Rattle.sid.specs.declared.Sid.TheVariants.{Plain}
use Rattle.sid.specs.Sid.{sid_made}
use Rattle.data.specs.Data.{data_made}
use Rattle.fax.specs.declared.Command.TheVariants.{Off}
use Rattle.fax.specs.Fax.{body_sized, fax_made}
use Rattle.digits.specs.declared.layout.Window.{Window}
use Rattle.digits.specs.Layout.{digits_made}
use Rattle.signalling.specs.Layout.{all_allowed, pairs, signalling_made}
use Rattle.voice.proofs.VoiceBack.{voice-reads-back}
use Rattle.sid.proofs.SidBack.{sid-reads-back}
use Rattle.data.proofs.Back as data-back
use Rattle.fax.proofs.MadeReads as fax-back
use Rattle.digits.proofs.LayoutBack.{digits-read-back}
use Rattle.signalling.proofs.LayoutBack.{signalling-reads-back}
use Rattle.payload.specs.declared.layout.Family.{Family}
use Rattle.payload.specs.declared.layout.Family.TheVariants.{VoiceFamily, DataFamily, FaxFamily}
use Rattle.payload.specs.declared.layout.Layout.{Layout}
use Rattle.payload.specs.declared.layout.Layout.TheVariants.{OfVoice, OfDigits, OfSignalling, OfFax, OfSid, OfData}
use Rattle.payload.specs.Layout.{family_of, on_voice, on_fax, on_data, layout_in, type_in}
use Rattle.payload.specs.Content.{Content, speech, dialled, seized, faxed, silent, fragment, reads, of_voice, of_digits, of_signalling, of_fax, of_sid, of_data, read_as, read_by, kind_of, made_on, made_as, payload_made}
use Rattle.payload.specs.Claims.{normal_content, samples_in, ContentReadsBack}
use Rattle.refusal.specs.declared.Refusal.{Refusal}
use Rattle.std.specs.declared.option.Option.{Option}
use Rattle.std.specs.declared.result.Result.{Result}
use Rattle.std.specs.declared.option.Option.TheVariants.{Some, None}
use Rattle.std.specs.declared.result.Result.TheVariants.{Ok}

typed-is : (a b : ℕ) → ◌≡◌ {A = Result ℕ Refusal} (Ok a) (Ok b) → a ≡ b
typed-is a b e = cc

-- the layout that a content belongs to
abbrev home : Record → Content → Layout
home r (speech sequence coding body) = OfVoice r
home r (dialled digits) = OfDigits
home r (seized signalling) = OfSignalling
home r (faxed sequence stamp command body) = OfFax
home r (silent sid) = OfSid r.syntax
home r (fragment begins ends sequence body) = OfData

-- it is the layout of the content's type
at_home : (family : Family) (r : Record) (content : Content) (ptype : ℕ)
    → type_in family (kind_of content) ≡ Ok ptype
    → layout_in family r ptype ≡ Ok (home r content)
unfolding on_voice on_fax on_data
at_home VoiceFamily r (speech sequence coding body) ptype e = sym (ap (layout_in VoiceFamily r) (typed-is _ _ e))
at_home VoiceFamily r (dialled digits) ptype e = sym (ap (layout_in VoiceFamily r) (typed-is _ _ e))
at_home VoiceFamily r (seized signalling) ptype e = sym (ap (layout_in VoiceFamily r) (typed-is _ _ e))
at_home VoiceFamily r (faxed sequence stamp command body) ptype e = sym (ap (layout_in VoiceFamily r) (typed-is _ _ e))
at_home VoiceFamily r (silent sid) ptype e = sym (ap (layout_in VoiceFamily r) (typed-is _ _ e))
at_home VoiceFamily r (fragment begins ends sequence body) ptype e = absurd cc
at_home DataFamily r (speech sequence coding body) ptype e = absurd cc
at_home DataFamily r (dialled digits) ptype e = absurd cc
at_home DataFamily r (seized signalling) ptype e = absurd cc
at_home DataFamily r (faxed sequence stamp command body) ptype e = absurd cc
at_home DataFamily r (silent sid) ptype e = absurd cc
at_home DataFamily r (fragment begins ends sequence body) ptype e = sym (ap (layout_in DataFamily r) (typed-is _ _ e))
at_home FaxFamily r (speech sequence coding body) ptype e = absurd cc
at_home FaxFamily r (dialled digits) ptype e = sym (ap (layout_in FaxFamily r) (typed-is _ _ e))
at_home FaxFamily r (seized signalling) ptype e = sym (ap (layout_in FaxFamily r) (typed-is _ _ e))
at_home FaxFamily r (faxed sequence stamp command body) ptype e = sym (ap (layout_in FaxFamily r) (typed-is _ _ e))
at_home FaxFamily r (silent sid) ptype e = absurd cc
at_home FaxFamily r (fragment begins ends sequence body) ptype e = absurd cc

-- there it reads back
home-back : (r : Record) (content : Content) (octets : List ℕ)
    → samples_in content ≡ 30
    → made_on r content ≡ made octets
    → read_as (home r content) octets ≡ reads (normal_content content)
home-back r (speech sequence coding body) octets thirty e =
    let b = voice-reads-back r sequence.0 coding body octets e in
    ap (of_voice octets) b.0 ∙ ap (λ (p : List ℕ). reads (speech sequence coding p)) b.1
home-back r (dialled digits) octets thirty e = ap of_digits (digits-read-back digits octets e)
home-back r (seized signalling) octets thirty e = ap of_signalling (signalling-reads-back signalling octets thirty e)
home-back r (faxed sequence stamp command body) octets thirty e =
    let b = fax-back.made-reads-back sequence stamp command body octets e in
    ap (of_fax octets) b.0 ∙ ap (λ (p : List ℕ). reads (faxed sequence stamp command p)) b.1
home-back r (silent sid) octets thirty e = ap of_sid (sid-reads-back r.syntax sid octets e)
home-back r (fragment begins ends sequence body) octets thirty e =
    let b = data-back.made-reads-back begins ends sequence body octets e in
    ap (of_data octets) b.0 ∙ ap (λ (p : List ℕ). reads (fragment begins ends sequence p)) b.1

pub content-reads-back : ContentReadsBack
content-reads-back (Some r) content ptype octets thirty typed e =
    let on : made_on r content ≡ made octets = sym (ap (λ (t : Result ℕ Refusal). made_as t (Some r) content) typed) ∙ e in
    let there = at_home (family_of r.syntax) r content ptype typed in
    ap (λ (l : Result Layout Refusal). read_by l octets) there ∙ home-back r content octets thirty on
content-reads-back None content ptype octets thirty typed e = absurd cc

-- Each of the six kinds is made on some sub-channel: what the theorem asks can be met.
on-acelp : Option Record
on-acelp = Some (record { syntax = Acelp; m = 1; seq = false })

on-data : Option Record
on-data = Some (record { syntax = Data; m = 1; seq = false })

off : Window
off = record { on = false; edge = 0; code = 0 }

can-be-met :
    (payload_made on-acelp (speech (record { 0 = 0 }) 0 (replicate 10 0)) ∷ payload_made on-acelp
    (dialled (record { sequence = record { 0 = 0 }; level = pos 0; current = off; recent = off; previous = off })) ∷ payload_made on-acelp
    (seized (record { alarm = false; sequence = record { 0 = 0 }; samples = replicate 30 0 })) ∷ payload_made on-acelp (faxed 0 (Some 0) Off [])
    ∷ payload_made on-acelp (silent Plain) ∷ payload_made on-data (fragment true true (record { 0 = 0 }) (0 ∷ [])) ∷ [])
    ≡ made (replicate 10 0) ∷ made (replicate 8 0) ∷ made (replicate 16 0) ∷ made (128 ∷ 0 ∷ 0 ∷ []) ∷ made [] ∷ made (192 ∷ 0 ∷ 0 ∷ []) ∷ []
unfolding on-acelp on-data off voice_made body_octets block_octets front_of digits_made signalling_made all_allowed pairs fax_made body_sized sid_made data_made
can-be-met = refl
