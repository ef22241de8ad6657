-- Fax of a trunk (specs/Trunks.antt): by the layout of each payload.
use Prim.Native.Nat.{ℕ}
use mathlib.Core.Path.{◌≡◌, refl, sym, ◌∙◌}
use mathlib.Core.List.{List, [], ◌∷◌}
use mathlib.Core.Bool.{true, false}
use Rattle.std.specs.declared.result.Result.{Result}
use Rattle.std.specs.declared.result.Result.TheVariants.{Ok, Err}
use Rattle.refusal.specs.declared.Refusal.{Refusal}
use Rattle.octets.proofs.Order.{clash, either}
use Rattle.data.specs.Data.{data_read}
use Rattle.voice.specs.Voice.{voice_read}
use Rattle.sid.specs.Sid.{sid_read}
use Rattle.dialled.specs.Receiver as dialled
use Rattle.seized.specs.Receiver as seized
use Rattle.faxing.specs.declared.Receiver.{Receiver}
use Rattle.faxing.specs.declared.Handed.{Handed}
use Rattle.faxing.specs.Replay.{Received, received}
use Rattle.payload.specs.declared.layout.Layout.{Layout}
use Rattle.payload.specs.declared.layout.Layout.TheVariants.{OfVoice, OfDigits, OfSignalling, OfFax, OfSid, OfData}
use Rattle.payload.specs.Layout.{layout_of}
use Rattle.trunk.specs.declared.Trunk.{Trunk}
use Rattle.trunk.specs.declared.Heard.TheVariants.{HeardFax}
use Rattle.trunk.specs.Trunk.{Told, fresh_trunk, passing, told_by, taken_as, taken}
use Rattle.trunk.proofs.Cases.{fax_stands}
use Rattle.faxed.specs.Events.{handed_by}
use Rattle.faxed.specs.Trunks.{is_fax, fax_among, fax_told, TrunkHands, TrunkHandsComplete}
use Rattle.faxed.proofs.Complete.{handed-complete}

-- what a trunk tells under the layout of fax is what the replay answers
record Tells (x : Told) (got : Received) : Type 0 where
  says : fax_told x.answer ≡ handed_by got.answer
  leaves : x.trunk.fax ≡ got.receiver

fax-tells : (t : Trunk) (answer : Result Handed Refusal) (after : Receiver)
    → ((refusal : Refusal) → answer ≡ Err refusal → after ≡ t.fax)
    → Tells
    (told_by t answer (λ handed. passing (record { digits = t.digits; signalling = t.signalling; fax = after }) (HeardFax handed)))
    (record { answer = answer; receiver = after })
fax-tells t (Ok handed) after stands = record { says = refl; leaves = refl }
fax-tells t (Err refusal) after stands = record { says = refl; leaves = sym (stands refusal refl) }

tells_as : (l : Result Layout Refusal) (t : Trunk) (p : List ℕ) → is_fax l ≡ true → Tells (taken_as l t p) (received t.fax p)
tells_as (Ok (OfVoice r)) t p h = clash false h refl
tells_as (Ok OfDigits) t p h = clash false h refl
tells_as (Ok OfSignalling) t p h = clash false h refl
tells_as (Ok OfFax) t p h =
    fax-tells t (received t.fax p).answer (received t.fax p).receiver (λ refusal is. fax_stands p refusal t.fax is)
tells_as (Ok (OfSid syntax)) t p h = clash false h refl
tells_as (Ok OfData) t p h = clash false h refl
tells_as (Err refusal) t p h = clash false h refl

-- another payload leaves the replay
told-leaves : {A : Type 0} (t : Trunk) (answer : Result A Refusal) (told : A → Told)
    → ((a : A) → (told a).trunk.fax ≡ t.fax)
    → (told_by t answer told).trunk.fax ≡ t.fax
told-leaves t (Ok a) told leaves = leaves a
told-leaves t (Err refusal) told leaves = refl

others-leave : (l : Result Layout Refusal) (t : Trunk) (p : List ℕ) → is_fax l ≡ false → (taken_as l t p).trunk.fax ≡ t.fax
others-leave (Ok (OfVoice r)) t p h = told-leaves t (voice_read r p) _ (λ voice. refl)
others-leave (Ok OfDigits) t p h = told-leaves t (dialled.received t.digits p).answer _ (λ appended. refl)
others-leave (Ok OfSignalling) t p h = told-leaves t (seized.received t.signalling p).answer _ (λ appended. refl)
others-leave (Ok OfFax) t p h = clash true refl h
others-leave (Ok (OfSid syntax)) t p h = told-leaves t (sid_read syntax p) _ (λ sid. refl)
others-leave (Ok OfData) t p h = told-leaves t (data_read p) _ (λ fragment. refl)
others-leave (Err refusal) t p h = refl

pub trunk-hands : TrunkHands
unfolding taken
trunk-hands found t [] = refl
trunk-hands found t (c ∷ cs) =
    let l : Result Layout Refusal = layout_of found c.ptype in
    let rest = trunk-hands found (taken_as l t c.octets).trunk cs in
    either
    (λ (e : is_fax l ≡ true). let tells = tells_as l t c.octets e in rw (e, rest, tells.says, tells.leaves))
    (λ (e : is_fax l ≡ false). rw (e, rest, others-leave l t c.octets e))
    (is_fax l)
    refl

pub trunk-hands-complete : TrunkHandsComplete
trunk-hands-complete f s found cs honest arrives =
    trunk-hands found fresh_trunk cs ∙ (handed-complete f s (fax_among found cs) honest arrives).0
