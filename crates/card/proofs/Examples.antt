-- Frames and what the voice card is handed of them (document 01, "Frame and sub-frame"; the shared readings of it).
use Prim.Native.Nat.{ℕ}
use mathlib.Core.Path.{◌≡◌, refl}
use mathlib.Core.List.{List, [], ◌∷◌, ◌++◌, map}
use mathlib.Core.Bool.{Bool, true, false}
use lib.ListN.{replicate}
use Rattle.std.specs.declared.result.Result.{Result}
use Rattle.std.specs.declared.result.Result.TheVariants.{Ok, Err}
use Rattle.refusal.specs.declared.Refusal.{Refusal}
use Rattle.refusal.specs.declared.Refusal.TheVariants.{FieldEmpty, FieldTooLong, HeaderCut, NotProvisioned, TypeNotAllowed}
use Rattle.record.specs.declared.syntax.Syntax.{Syntax}
use Rattle.record.specs.declared.syntax.Syntax.TheVariants.{Acelp, Pcm, Data, Fax}
use Rattle.record.specs.Record.{syntax_at, packed, meaning, found_at}
use Rattle.header.specs.Header.{told, header_at}
use Rattle.frame.specs.Opening.{scan, scanned, opening}
use Rattle.voice.specs.Voice.{block_octets, body_octets, front_of, voice_read}
use Rattle.payload.specs.Layout.{on_voice, on_fax, on_data}
use Rattle.card.specs.declared.handing.Handed.{Handed}
use Rattle.card.specs.declared.handing.Handed.TheVariants.{FromFrame, FromSilence}
use Rattle.card.specs.Handing.{serves, first_of, after_opening, handed, octets_of, place_of, source_of}

provisioned : Syntax → Bool → ℕ
provisioned syntax seq = packed (record { syntax = syntax; m = 1; seq = seq })

-- CID 5 is acelp without a front octet, 6 fax, 7 data, 8 pcm, each with m 1; no other is provisioned
pub table : List ℕ
table =
    replicate 5 0
    ++ (provisioned Acelp false ∷ provisioned Fax false ∷ provisioned Data false ∷ provisioned Pcm true ∷ replicate 247 0)

-- ten octets of speech
pub speech : List ℕ
speech = 1 ∷ 2 ∷ 3 ∷ 4 ∷ 5 ∷ 6 ∷ 7 ∷ 8 ∷ 9 ∷ 10 ∷ []

pub record Example : Type 0 where
  pub frame : List ℕ
  pub cid : ℕ
  pub tells : Result Handed Refusal

example : List ℕ → ℕ → Result Handed Refusal → Example
example frame cid tells = record { frame = frame; cid = cid; tells = tells }

pub examples : List Example
examples =
    -- 4501aa05..: a payload of one octet, then one of ten
    example (69 ∷ 1 ∷ 170 ∷ 5 ∷ speech) 5 (Ok (FromFrame 4 10))
    ∷
    -- 450a..05..: two that pass
    example (69 ∷ 10 ∷ speech ++ 5 ∷ speech) 5 (Ok (FromFrame 2 10))
    ∷
    -- 480b09..05..: under pcm the front octet is handed on with the rest
    example (72 ∷ 11 ∷ 9 ∷ speech ++ 5 ∷ speech) 8 (Ok (FromFrame 2 11))
    ∷
    -- c50108..05..: digits stand before it
    example (197 ∷ 1 ∷ 8 ∷ replicate 8 0 ++ 5 ∷ speech) 5 (Ok (FromFrame 12 10))
    ∷
    -- 8504: a SID alone
    example (133 ∷ 4 ∷ []) 5 (Ok FromSilence)
    ∷
    -- 05aa: none passes
    example (5 ∷ 170 ∷ []) 5 (Ok FromSilence)
    ∷
    -- 06..: none on the sub-channel
    example (6 ∷ speech) 5 (Ok FromSilence)
    ∷
    -- 85: 3, also without a record on the CID
    example (133 ∷ []) 9 (Err HeaderCut)
    ∷
    -- 450a..85: 3, behind a payload that passes
    example (69 ∷ 10 ∷ speech ++ 133 ∷ []) 5 (Err HeaderCut)
    ∷
    -- 85 for a fax sub-channel: 3
    example (133 ∷ []) 6 (Err HeaderCut)
    ∷
    -- an empty field: 1
    example [] 5 (Err FieldEmpty)
    ∷
    -- 1,601 octets: 2
    example (replicate 1601 5) 5 (Err FieldTooLong)
    ∷
    -- 05.. for a fax sub-channel, and for a data one: 12
    example (5 ∷ speech) 6 (Err TypeNotAllowed)
    ∷ example (5 ∷ speech) 7 (Err TypeNotAllowed)
    ∷
    -- 05.. for CID 3, and for one that is not provisioned: 11
    example (5 ∷ speech) 3 (Err NotProvisioned)
    ∷ example (5 ∷ speech) 9 (Err NotProvisioned)
    ∷ []

pub tells : map (λ e. handed e.frame table e.cid) examples ≡ map (λ e. e.tells) examples
unfolding examples example speech table provisioned handed after_opening first_of serves opening scanned scan header_at told found_at meaning packed syntax_at on_voice on_fax on_data voice_read front_of body_octets block_octets
tells = refl

-- octets, place and source of a payload, of silence and of a refusal, with the frame at octet 100 of block 1 and silence at 0 of block 2
pub octets : map (octets_of (69 ∷ 1 ∷ 170 ∷ 5 ∷ speech) (255 ∷ 254 ∷ [])) (Ok (FromFrame 4 10) ∷ Ok FromSilence ∷ Err NotProvisioned ∷ []) ≡ speech ∷ (255 ∷ 254 ∷ []) ∷ [] ∷ []
unfolding speech
octets = refl

pub places : map (place_of (1, 100) (2, 0)) (Ok (FromFrame 4 10) ∷ Ok FromSilence ∷ Err NotProvisioned ∷ []) ≡ (1, 104) ∷ (2, 0) ∷ (1, 100) ∷ []
places = refl

pub sources : map source_of (Ok (FromFrame 4 10) ∷ Ok FromSilence ∷ Err NotProvisioned ∷ []) ≡ 0 ∷ 255 ∷ 11 ∷ []
sources = refl
