-- What `voice_read` and `voice_made` give in each of their cases.
use Prim.Native.Nat.{ℕ, ◌+◌, ◌-◌, ◌*◌, ◌/◌, ◌%◌, ◌<◌, ◌≤◌}
use mathlib.Core.Path.{◌≡◌, refl, ap, ◌∙◌}
use mathlib.Core.List.{List, ◌∷◌, ◌++◌}
use mathlib.Core.Bool.{Bool, true, false, cond}
use native.Mathlib.Omega.{arith}
use borrow.Author.Tests.{lt-ltb, le-ltb, le-leb, lt-leb, ltb-false, leb-false}
use lib.Dec.{ltb, leb}
use lib.ListN.{length, get_or, take, drop, length-drop, length-append}
use lib.Seq.{take_all}
use Rattle.std.specs.declared.result.Result.{Result}
use Rattle.std.specs.declared.result.Result.TheVariants.{Ok, Err}
use Rattle.refusal.specs.declared.Refusal.{Refusal}
use Rattle.refusal.specs.declared.Refusal.TheVariants.{TypeNotAllowed, LengthWrong, ValueOutOfRange, CodingTypeUnknown}
use Rattle.refusal.specs.Order.{◌gives◌, in_order}
use Rattle.refusal.proofs.Order.{Passes, sounds, passed, told, by_answer}
use Rattle.octets.proofs.MadeBack.{octets-made, never-made}
use Rattle.octets.specs.Made.{made, unmade, fit_of}
use Rattle.record.specs.declared.syntax.Record.{Record}
use Rattle.voice.specs.Voice.{codings, block_octets, is_g7231, body_octets, front_of, front_octet, coding_in, body_in, voiceless, body_refusals, voice_read, most_sequence, write_refusals, front_octets, voice_made}
use Rattle.voice.specs.Private.{length_judged}
use Rattle.voice.proofs.Sizes as sizes

-- what is answered to a body with its coding type
abbrev pub judged : Record → ℕ → List ℕ → Result Unit Refusal
judged r coding body = in_order (voiceless r.syntax gives TypeNotAllowed ∷ body_refusals r coding body) Err (Ok tt)

module _ (r : Record) (coding : ℕ) (body : List ℕ) where
  -- blocks of a syntax: 16 for a coding type that it does not have, else by the length
  module _ (blocks : is_g7231 r.syntax ≡ false) (voice : voiceless r.syntax ≡ false) where
    blocks-judged : judged r coding body ≡ cond (leb (codings r.syntax) coding) (Err CodingTypeUnknown) (length_judged r.m (block_octets r.syntax coding) (length body))
    unfolding body_octets
    blocks-judged = simp (blocks, voice, le-ltb (length body) 0 (omega arith))

    pub unknown-judged : codings r.syntax ≤ coding → judged r coding body ≡ Err CodingTypeUnknown
    unknown-judged h = blocks-judged ∙ simp (le-leb (codings r.syntax) coding h)

    pub known-judged :
        {each : ℕ}
        → coding < codings r.syntax
        → each ≡ block_octets r.syntax coding
        → judged r coding body ≡ length_judged r.m each (length body)
    known-judged h is = blocks-judged ∙ simp (lt-leb (codings r.syntax) coding h, is)

pub missing : (r : Record) (payload : List ℕ) → length payload < front_of r → voice_read r payload ≡ Err LengthWrong
unfolding voice_read
missing r payload h =
    let none : ltb (length payload) (front_of r) ≡ true = lt-ltb (length payload) (front_of r) h in
    simp (sizes.fronted-voice r (omega arith), none)

-- reading, by the answer to the body, in what the code has
module _ (r : Record) (payload : List ℕ) (front o : ℕ) (answer : Result Unit Refusal)
    (is : front ≡ front_of r) (whole : front ≤ length payload)
    (octet : o ≡ get_or (take front payload) 0 0)
    (told-body : answer ≡ judged r (o % 16) (take (length payload - front) (drop front payload))) where
  octet-is : o ≡ front_octet r payload
  octet-is = octet ∙ rw is

  answer-is : answer ≡ judged r (coding_in r payload) (body_in r payload)
  answer-is =
      told-body
      ∙ ap (judged r (o % 16)) (take_all (length payload - front) (drop front payload) (simp length-drop (omega arith)))
      ∙ rw (octet-is, is)

  pub read_by : voice_read r payload ≡ told Err (Ok (record { sequence = record { 0 = o / 16 }; coding = o % 16; front = front })) answer
  unfolding voice_read
  read_by =
      let behind : front_of r ≤ length payload = rw is at whole in
      rw (answer-is, octet-is, is, le-ltb (length payload) (front_of r) behind)
      (by_answer Err _ tt (voiceless r.syntax gives TypeNotAllowed ∷ body_refusals r (coding_in r payload) (body_in r payload)))

-- how many octets are made
pub made_length : (r : Record) (sequence coding : ℕ) (body : List ℕ) → length (front_octets r sequence coding ++ body) ≡ front_of r + length body
made_length r sequence coding body =
    length-append (front_octets r sequence coding) body
    ∙ ap (λ (k : ℕ). k + length body) (sizes.front_length (front_of r) (sequence * 16 + coding) (sizes.front_small r))

-- writing, by the answer to the body
module _ (r : Record) (sequence coding : ℕ) (body : List ℕ) (answer : Result Unit Refusal) (told-body : answer ≡ judged r coding body) where
  fits : (a : Result Unit Refusal) (beyond : Bool)
      → fit_of (told unmade (cond beyond (unmade ValueOutOfRange) (made (front_octets r sequence coding ++ body))) a)
      ≡ told Err (cond beyond (Err ValueOutOfRange) (Ok (front_of r + length body))) a
  fits (Err refusal) beyond = refl
  fits (Ok sound) true = refl
  fits (Ok sound) false = ap Ok (made_length r sequence coding body)

  pub fit_by :
      fit_of (voice_made r sequence coding body)
      ≡ told Err (cond (ltb (most_sequence (front_of r)) sequence) (Err ValueOutOfRange) (Ok (front_of r + length body))) answer
  unfolding voice_made
  fit_by =
      rw told-body
      (ap fit_of (by_answer unmade _ tt (voiceless r.syntax gives TypeNotAllowed ∷ body_refusals r coding body))
      ∙ fits (judged r coding body) (ltb (most_sequence (front_of r)) sequence))

  pub fit_beyond : answer ≡ Ok tt → most_sequence (front_of r) < sequence → fit_of (voice_made r sequence coding body) ≡ Err ValueOutOfRange
  fit_beyond h over = fit_by ∙ simp (h, lt-ltb (most_sequence (front_of r)) sequence over)

  pub fit_within : answer ≡ Ok tt → sequence ≤ most_sequence (front_of r) → fit_of (voice_made r sequence coding body) ≡ Ok (front_of r + length body)
  fit_within h within = fit_by ∙ simp (h, le-ltb (most_sequence (front_of r)) sequence within)

-- what is made passed every test, and its octets follow
pub record Fitting (r : Record) (sequence coding : ℕ) (body : List ℕ) : Type 0 where
  pub voice : voiceless r.syntax ≡ false
  pub body-sound : Passes (body_refusals r coding body)
  pub carried : sequence ≤ most_sequence (front_of r)

module _ (r : Record) (sequence coding : ℕ) (body : List ℕ) where
  pub fitting : (octets : List ℕ) → voice_made r sequence coding body ≡ made octets → Fitting r sequence coding body
  unfolding voice_made
  fitting octets e =
      let tests =
      (passed unmade _ (write_refusals r sequence coding body) (made octets) (λ n m. never-made (unmade n) n octets refl m) e).0
      in
      let b = tests.1 in
      record {
        voice = tests.0;
        body-sound = (b.0, (b.1.0, (b.1.1.0, (b.1.1.1.0, tt))));
        carried = ltb-false (most_sequence (front_of r)) sequence b.1.1.1.1.0;
      }

  module _ (f : Fitting r sequence coding body) where
    pub in_table : coding < codings r.syntax
    in_table = leb-false (codings r.syntax) coding f.body-sound.1.0

    pub is_made : voice_made r sequence coding body ≡ made (front_octets r sequence coding ++ body)
    unfolding voice_made
    is_made =
        let b = f.body-sound in
        sounds unmade _ (write_refusals r sequence coding body)
        (f.voice, (b.0, (b.1.0, (b.1.1.0, (b.1.1.1.0, (le-ltb (most_sequence (front_of r)) sequence f.carried, tt))))))

-- what fits is made so, and its front octet is an octet
module _ (r : Record) (sequence coding : ℕ) (body : List ℕ) (n : ℕ) (e : fit_of (voice_made r sequence coding body) ≡ Ok n) where
  fitted : Fitting r sequence coding body
  fitted = let m = octets-made (voice_made r sequence coding body) n e in fitting r sequence coding body m.0 m.1

  pub fit_made : voice_made r sequence coding body ≡ made (front_octets r sequence coding ++ body)
  fit_made = is_made r sequence coding body fitted

  pub fit_octet : sequence * 16 + coding ≤ 255
  fit_octet = omega (arith, fitted.carried, in_table r sequence coding body fitted, sizes.most-small (front_of r), sizes.codings-small r.syntax)
