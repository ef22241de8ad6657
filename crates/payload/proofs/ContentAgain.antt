-- A content that a payload reads as is made again: by the layout's own theorem, whatever the family.
use Prim.Native.Nat.{ℕ}
use mathlib.Core.Path.{◌≡◌, refl, sym, ap, ◌∙◌, subst}
use mathlib.Core.List.{List}
use borrow.Author.Tests.{eqb-true}
use mathlib.Core.Bool.{true}
use lib.Dec.{eqb}
use lib.ListN.{length}
use Rattle.std.specs.declared.option.Option.TheVariants.{Some, None}
use Rattle.std.specs.declared.result.Result.{Result}
use Rattle.std.specs.declared.result.Result.TheVariants.{Ok, Err}
use Rattle.refusal.specs.declared.Refusal.{Refusal}
use Rattle.octets.specs.Octets.{Octets}
use Rattle.octets.specs.Made.{made}
use Rattle.octets.proofs.Order.{picked}
use Rattle.record.specs.declared.syntax.Record.{Record}
use Rattle.sid.specs.Claims.{unreserved}
use Rattle.voice.specs.declared.Voice.{Voice}
use Rattle.voice.specs.Voice.{voice_read}
use Rattle.sid.specs.declared.Sid.{Sid}
use Rattle.sid.specs.Sid.{sid_read}
use Rattle.data.specs.declared.Fragment.{Fragment}
use Rattle.data.specs.Data.{data_read}
use Rattle.fax.specs.declared.Fax.{Fax}
use Rattle.fax.specs.Fax.{fax_read}
use Rattle.digits.specs.declared.layout.Digits.{Digits}
use Rattle.digits.specs.Layout.{digits_read}
use Rattle.digits.specs.Claims.{unheard}
use Rattle.signalling.specs.declared.layout.Signalling.{Signalling}
use Rattle.signalling.specs.Layout.{signalling_read}
use Rattle.voice.proofs.VoiceBack.{voice-made-again}
use Rattle.sid.proofs.SidBack.{sid-made-again, sid-read-alike}
use Rattle.data.proofs.Back as data-back
use Rattle.fax.proofs.ReadMakes as fax-again
use Rattle.digits.proofs.LayoutBack.{digits-made-again, digits-read-alike}
use Rattle.signalling.proofs.LayoutBack.{signalling-made-again}
use Rattle.payload.specs.declared.layout.Family.{Family}
use Rattle.payload.specs.declared.layout.Family.TheVariants.{VoiceFamily, DataFamily, FaxFamily}
use Rattle.payload.specs.declared.layout.Layout.{Layout}
use Rattle.payload.specs.declared.layout.Layout.TheVariants.{OfVoice, OfDigits, OfSignalling, OfFax, OfSid, OfData}
use Rattle.payload.specs.declared.layout.Kind.TheVariants.{AVoice, ADigits, ASignalling, AFax, ASid, AData}
use Rattle.payload.specs.Layout.{family_of, on_voice, on_fax, on_data, layout_in, type_in}
use Rattle.payload.specs.Content.{Content, reads, of_voice, of_digits, of_signalling, of_fax, of_sid, of_data, read_by, kind_of, made_on, made_as}
use Rattle.payload.specs.Claims.{samples_in, ContentMadeAgain}

-- the layout of a family's type, for a record: its record is that one, and its kind is written with that type
abbrev Right : Family → Record → ℕ → Result Layout Refusal → Type 0
Right family r ptype (Ok (OfVoice q)) = (q ≡ r) × (type_in family AVoice ≡ Ok ptype)
Right family r ptype (Ok OfDigits) = type_in family ADigits ≡ Ok ptype
Right family r ptype (Ok OfSignalling) = type_in family ASignalling ≡ Ok ptype
Right family r ptype (Ok OfFax) = type_in family AFax ≡ Ok ptype
Right family r ptype (Ok (OfSid syntax)) = (syntax ≡ r.syntax) × (type_in family ASid ≡ Ok ptype)
Right family r ptype (Ok OfData) = type_in family AData ≡ Ok ptype
Right family r ptype (Err refusal) = Unit

type-of : (ptype k : ℕ) → eqb ptype k ≡ true → ◌≡◌ {A = Result ℕ Refusal} (Ok k) (Ok ptype)
type-of ptype k t = ap Ok (sym (eqb-true ptype k t))

right : (family : Family) (r : Record) (ptype : ℕ) → Right family r ptype (layout_in family r ptype)
unfolding on_voice on_fax on_data
right VoiceFamily r ptype =
    picked (Right VoiceFamily r ptype) (eqb ptype 0) _ _ (λ t. (refl, type-of ptype 0 t))
    (λ t.
    picked (Right VoiceFamily r ptype) (eqb ptype 1) _ _ (type-of ptype 1)
    (λ t.
    picked (Right VoiceFamily r ptype) (eqb ptype 2) _ _ (type-of ptype 2)
    (λ t.
    picked (Right VoiceFamily r ptype) (eqb ptype 3) _ _ (type-of ptype 3)
    (λ t. picked (Right VoiceFamily r ptype) (eqb ptype 4) _ _ (λ t. (refl, type-of ptype 4 t)) (λ t. tt)))))
right DataFamily r ptype = picked (Right DataFamily r ptype) (eqb ptype 0) _ _ (type-of ptype 0) (λ t. tt)
right FaxFamily r ptype =
    picked (Right FaxFamily r ptype) (eqb ptype 0) _ _ (type-of ptype 0)
    (λ t. picked (Right FaxFamily r ptype) (eqb ptype 1) _ _ (type-of ptype 1) (λ t. picked (Right FaxFamily r ptype) (eqb ptype 2) _ _ (type-of ptype 2) (λ t. tt)))

-- a content made again on a record, as a layout reads it
record OnRecord (r : Record) (family : Family) (ptype : ℕ) (l : Result Layout Refusal) (octets : List ℕ) (content : Content) : Type 0 where
  typed : type_in family (kind_of content) ≡ Ok ptype
  thirty : samples_in content ≡ 30
  again : List ℕ
  makes : made_on r content ≡ made again
  as_many : length again ≡ length octets
  alike : read_by l again ≡ reads content

same : (a b : Content) → reads a ≡ reads b → a ≡ b
same a b e = cc

module _ (r : Record) (family : Family) (ptype : ℕ) (octets : List ℕ) (content : Content) (all : Octets octets) where
  of-voice : type_in family AVoice ≡ Ok ptype → (told : Result Voice Refusal) → voice_read r octets ≡ told → of_voice octets told ≡ reads content
      → OnRecord r family ptype (Ok (OfVoice r)) octets content
  of-voice typed (Ok v) told is =
      let back = voice-made-again r v.sequence.0 v.coding v.front octets all told in
      subst (OnRecord r family ptype (Ok (OfVoice r)) octets) (same _ _ is)
      (record { typed = typed; thirty = refl; again = octets; makes = back.1; as_many = refl; alike = ap (of_voice octets) told })
  of-voice typed (Err refusal) told is = absurd cc

  of-digits : type_in family ADigits ≡ Ok ptype → (told : Result Digits Refusal) → digits_read octets ≡ told → of_digits told ≡ reads content
      → OnRecord r family ptype (Ok OfDigits) octets content
  of-digits typed (Ok d) told is =
      let alike = digits-read-alike d octets all told in
      subst (OnRecord r family ptype (Ok OfDigits) octets) (same _ _ is)
      (record {
        typed = typed;
        thirty = refl;
        again = unheard octets;
        makes = (digits-made-again d octets all told).1;
        as_many = alike.0;
        alike = ap of_digits alike.1;
      })
  of-digits typed (Err refusal) told is = absurd cc

  of-fax : type_in family AFax ≡ Ok ptype → (told : Result Fax Refusal) → fax_read octets ≡ told → of_fax octets told ≡ reads content
      → OnRecord r family ptype (Ok OfFax) octets content
  of-fax typed (Ok f) told is =
      subst (OnRecord r family ptype (Ok OfFax) octets) (same _ _ is)
      (record {
        typed = typed;
        thirty = refl;
        again = octets;
        makes = fax-again.read-is-made octets f all told;
        as_many = refl;
        alike = ap (of_fax octets) told;
      })
  of-fax typed (Err refusal) told is = absurd cc

  of-sid : type_in family ASid ≡ Ok ptype → (told : Result Sid Refusal) → sid_read r.syntax octets ≡ told → of_sid told ≡ reads content
      → OnRecord r family ptype (Ok (OfSid r.syntax)) octets content
  of-sid typed (Ok sid) told is =
      let alike = sid-read-alike r.syntax sid octets all told in
      subst (OnRecord r family ptype (Ok (OfSid r.syntax)) octets) (same _ _ is)
      (record {
        typed = typed;
        thirty = refl;
        again = unreserved octets;
        makes = sid-made-again r.syntax sid octets all told;
        as_many = alike.0;
        alike = ap of_sid alike.1;
      })
  of-sid typed (Err refusal) told is = absurd cc

  of-data : type_in family AData ≡ Ok ptype → (told : Result Fragment Refusal) → data_read octets ≡ told → of_data octets told ≡ reads content
      → OnRecord r family ptype (Ok OfData) octets content
  of-data typed (Ok f) told is =
      subst (OnRecord r family ptype (Ok OfData) octets) (same _ _ is)
      (record {
        typed = typed;
        thirty = refl;
        again = octets;
        makes = data-back.read-is-made octets f.begins f.ends f.sequence all told;
        as_many = refl;
        alike = ap (of_data octets) told;
      })
  of-data typed (Err refusal) told is = absurd cc

  of-signalling : type_in family ASignalling ≡ Ok ptype → (told : Result Signalling Refusal) → signalling_read octets ≡ told → of_signalling told ≡ reads content
      → OnRecord r family ptype (Ok OfSignalling) octets content
  of-signalling typed (Ok signalling) told is =
      let back = signalling-made-again signalling octets all told in
      subst (OnRecord r family ptype (Ok OfSignalling) octets) (same _ _ is)
      (record { typed = typed; thirty = back.0; again = octets; makes = back.1; as_many = refl; alike = ap of_signalling told })
  of-signalling typed (Err refusal) told is = absurd cc

  by_layout : (l : Result Layout Refusal) → Right family r ptype l → read_by l octets ≡ reads content → OnRecord r family ptype l octets content
  by_layout (Ok (OfVoice q)) fits is =
      subst (λ (x : Record). OnRecord r family ptype (Ok (OfVoice x)) octets content) (sym fits.0)
      (of-voice fits.1 (voice_read r octets) refl (ap (λ (x : Record). of_voice octets (voice_read x octets)) (sym fits.0) ∙ is))
  by_layout (Ok OfDigits) fits is = of-digits fits (digits_read octets) refl is
  by_layout (Ok OfSignalling) fits is = of-signalling fits (signalling_read octets) refl is
  by_layout (Ok OfFax) fits is = of-fax fits (fax_read octets) refl is
  by_layout (Ok (OfSid syntax)) fits is =
      subst (λ x. OnRecord r family ptype (Ok (OfSid x)) octets content) (sym fits.0)
      (of-sid fits.1 (sid_read r.syntax octets) refl (ap (λ x. of_sid (sid_read x octets)) (sym fits.0) ∙ is))
  by_layout (Ok OfData) fits is = of-data fits (data_read octets) refl is
  by_layout (Err refusal) fits is = absurd cc

pub content-made-again : ContentMadeAgain
content-made-again (Some r) ptype octets content all is =
    let family = family_of r.syntax in
    let on = by_layout r family ptype octets content all (layout_in family r ptype) (right family r ptype) is in
    record {
      typed = on.typed;
      thirty = on.thirty;
      again = on.again;
      makes = ap (λ (t : Result ℕ Refusal). made_as t (Some r) content) on.typed ∙ on.makes;
      as_many = on.as_many;
      alike = on.alike;
    }
content-made-again None ptype octets content all is = absurd cc
