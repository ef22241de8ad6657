-- Voice payloads, written and read: the claims of specs/Claims.antt.
use Prim.Native.Nat.{ℕ, zero, suc, ◌+◌, ◌*◌, ◌/◌, ◌%◌, ◌<◌, ◌≤◌}
use mathlib.Core.Path.{◌≡◌, refl, sym, ap, ◌∙◌}
use mathlib.Core.List.{List, [], ◌∷◌, ◌++◌}
use native.Mathlib.Omega.{arith}
use borrow.Author.Tests.{le-ltb, ltb-false}
use lib.ListN.{length, get_or, take, length-append, take-append-drop}
use lib.Seq.{take_at, drop_at}
use Rattle.octets.proofs.MadeBack.{same-made}
use Rattle.octets.specs.Octets.{Octets}
use Rattle.octets.specs.Made.{made}
use Rattle.record.specs.declared.syntax.Record.{Record}
use Rattle.std.specs.declared.result.Result.TheVariants.{Ok, Err}
use Rattle.voice.specs.declared.Voice.{Voice}
use Rattle.voice.specs.Voice.{front_of, sequence_in, coding_in, body_in, body_refusals, read_refusals, voice_read, most_sequence, front_octets, voice_made}
use Rattle.voice.specs.Claims.{VoiceReadsBack, VoiceMadeAgain}
use Rattle.refusal.proofs.Order.{Passes, sounds, passed}
use Rattle.voice.proofs.Sizes as sizes
use Rattle.voice.proofs.VoiceCases as cases

-- the fields of a front octet, and those without one
fields :
    (front s c : ℕ)
    → front ≤ 1
    → s ≤ most_sequence front
    → c < 16
    → (front ≡ 0 → c ≡ 0)
    → (get_or (take front ((s * 16 + c) ∷ [])) 0 0 / 16 ≡ s) × (get_or (take front ((s * 16 + c) ∷ [])) 0 0 % 16 ≡ c)
fields zero s c one carried small bare = let none = bare refl in (omega arith, omega arith)
fields (suc zero) s c one carried small bare = (omega arith, omega arith)
fields (suc (suc n)) s c one carried small bare = absurd (omega arith)

module _ (r : Record) (s c : ℕ) (b : List ℕ) (f : cases.Fitting r s c b) where
  front-is : length (front_octets r s c) ≡ front_of r
  front-is = sizes.front_length (front_of r) (s * 16 + c) (sizes.front_small r)

  body_back : body_in r (front_octets r s c ++ b) ≡ b
  body_back = drop_at (front_octets r s c) b (front_of r) front-is

  front-back : (sequence_in r (front_octets r s c ++ b) ≡ s) × (coding_in r (front_octets r s c ++ b) ≡ c)
  front-back =
      let known = cases.in_table r s c b f in
      rw (take_at (front_octets r s c) b (front_of r) front-is)
      (fields (front_of r) s c (sizes.front_small r) f.carried (omega (arith, sizes.codings-small r.syntax))
      (λ e. omega (arith, sizes.bare-coding r e)))

  back : voice_read r (front_octets r s c ++ b) ≡ Ok (record { sequence = record { 0 = s }; coding = c; front = front_of r })
  unfolding voice_read
  back =
      let octets = front_octets r s c ++ b in
      let long : front_of r ≤ length octets = omega (arith, length-append (front_octets r s c) b, front-is) in
      let tests : Passes (body_refusals r (coding_in r octets) (body_in r octets)) = rw (front-back.1, body_back) f.body-sound in
      sounds Err _ (read_refusals r octets) (f.voice, (le-ltb (length octets) (front_of r) long, tests))
      ∙ rw (front-back.0, front-back.1)

pub voice-reads-back : VoiceReadsBack
voice-reads-back r s c b octets e =
    let f = cases.fitting r s c b octets e in
    let is : octets ≡ front_octets r s c ++ b = same-made _ octets _ e (cases.is_made r s c b f) in
    (rw is (back r s c b f), rw is (body_back r s c b f))

-- the front octets that were read
front-again : (front : ℕ) (octets : List ℕ) → front ≤ 1 → front ≤ length octets → let o = get_or (take front octets) 0 0 in take front ((o / 16 * 16 + o % 16) ∷ []) ≡ take front octets
front-again zero octets one whole = refl
front-again (suc zero) [] one whole = absurd (omega arith)
front-again (suc zero) (o ∷ body) one whole = let same : o / 16 * 16 + o % 16 ≡ o = omega arith in ap (λ (x : ℕ). x ∷ []) same
front-again (suc (suc n)) octets one whole = absurd (omega arith)

carried-again : (front : ℕ) (octets : List ℕ) → Octets octets → front ≤ 1 → get_or (take front octets) 0 0 / 16 ≤ most_sequence front
carried-again zero octets small one = omega arith
carried-again (suc zero) [] small one = omega arith
carried-again (suc zero) (o ∷ body) small one = omega (arith, small 0)
carried-again (suc (suc n)) octets small one = absurd (omega arith)

again :
    (r : Record) (octets : List ℕ)
    → Octets octets
    → Passes (read_refusals r octets)
    → voice_made r (sequence_in r octets) (coding_in r octets) (body_in r octets) ≡ made octets
again r octets small tests =
    let f : cases.Fitting r (sequence_in r octets) (coding_in r octets) (body_in r octets) =
    record { voice = tests.0; body-sound = tests.1.1; carried = carried-again (front_of r) octets small (sizes.front_small r) }
    in
    cases.is_made _ _ _ _ f
    ∙ ap (λ (l : List ℕ). made (l ++ body_in r octets))
    (front-again (front_of r) octets (sizes.front_small r) (ltb-false (length octets) (front_of r) tests.1.0))
    ∙ ap made (take-append-drop (front_of r) octets)

pub voice-made-again : VoiceMadeAgain
unfolding voice_read
voice-made-again r s c front octets small e =
    let all = passed Err _ (read_refusals r octets) (Ok (record { sequence = record { 0 = s }; coding = c; front = front })) (λ refusal e. cc) e in
    let is = all.1 in
    let same : ◌≡◌ {A = Voice} (record { sequence = record { 0 = sequence_in r octets }; coding = coding_in r octets; front = front_of r }) (record { sequence = record { 0 = s }; coding = c; front = front }) = cc in
    let sequence : sequence_in r octets ≡ s = ap (λ (x : Voice). x.sequence.0) same in
    let coding : coding_in r octets ≡ c = ap (λ (x : Voice). x.coding) same in
    let size : front_of r ≡ front = ap (λ (x : Voice). x.front) same in
    (sym size, rw (← sequence, ← coding, ← size) (again r octets small all.0))
