-- Silence descriptors, written and read: the claims of specs/Claims.antt.
use Prim.Native.Nat.{ℕ, ◌*◌, ◌/◌, ◌%◌, ◌<◌}
use mathlib.Core.Path.{◌≡◌, refl, sym, ap, ◌∙◌}
use mathlib.Core.List.{List, [], ◌∷◌}
use mathlib.Core.Bool.{false}
use mathlib.Core.Logic.{⊎_elim}
use native.Mathlib.Nat.{mod-mod}
use native.Mathlib.Omega.{arith}
use borrow.Author.Tests.{le-ltb, eqb-true, eqb-false, not-false}
use lib.ListN.{length, get_or}
use lib.IntN.{neg_ℤ, pos}
use Rattle.octets.proofs.Order.{eq-or-ne}
use Rattle.octets.specs.Octets.{Octets}
use Rattle.octets.specs.Made.{made}
use Rattle.levels.specs.Level.{level_of, code_of}
use Rattle.levels.proofs.Laws.{code-of-level, level-of-code}
use Rattle.record.specs.declared.syntax.Syntax.{Syntax}
use Rattle.record.specs.declared.syntax.Syntax.TheVariants.{Acelp, Pcm, G727, G728, G7231, Data, Fax}
use Rattle.sid.specs.declared.Sid.{Sid}
use Rattle.sid.specs.declared.Sid.TheVariants.{Noise, Plain}
use Rattle.voice.specs.Voice.{voiceless}
use Rattle.sid.specs.Sid.{sid_octets, sid_in, read_refusals, sid_read, magnitude_in, write_refusals, octets_for, sid_made}
use Rattle.sid.specs.Claims.{SidReadsBack, SidMadeAgain, SidReadAlike, unreserved}
use Rattle.refusal.proofs.Order.{Passes, passed}
use Rattle.sid.proofs.SidCases as cases
use Rattle.std.specs.declared.result.Result.TheVariants.{Ok, Err}

two-or-none : (syntax : Syntax) → (sid_octets syntax ≡ 0 → ⊥) → sid_octets syntax ≡ 2
two-or-none Acelp h = absurd (h refl)
two-or-none Pcm h = refl
two-or-none G727 h = refl
two-or-none G728 h = absurd (h refl)
two-or-none G7231 h = absurd (h refl)
two-or-none Data h = absurd (h refl)
two-or-none Fax h = absurd (h refl)

back : (syntax : Syntax) (sid : Sid) → Passes (write_refusals syntax sid) → sid_read syntax (octets_for sid) ≡ Ok sid
back syntax Plain tests =
    let none : sid_octets syntax ≡ 0 = eqb-true (sid_octets syntax) 0 (not-false _ tests.1.0) in
    cases.reads syntax [] (tests.0, (rw none, tt)) ∙ rw none
back syntax (Noise s z) tests =
    let two : sid_octets syntax ≡ 2 = two-or-none syntax (eqb-false (sid_octets syntax) 0 tests.1.0) in
    let sequence : s.0 * 16 / 16 ≡ s.0 = omega arith in
    let code = cases.in-range (code_of 63 z) tests.1.1.1.0 in
    let level = (level-of-code 63 (magnitude_in (code_of 63 z)) z (omega arith) code).0 in
    cases.reads syntax (octets_for (Noise s z)) (tests.0, (rw two, tt)) ∙ rw (two, sequence, level)

pub sid-reads-back : SidReadsBack
sid-reads-back syntax sid octets e =
    let all = cases.made-passed syntax sid octets e in
    ap (sid_read syntax) (sym all.1) ∙ back syntax sid all.0

-- the code of a level that was read is its magnitude
read-code : (octet : ℕ) → code_of 63 (level_of octet) ≡ Ok (octet % 64)
read-code octet =
    ap (λ (k : ℕ). code_of 63 (neg_ℤ (pos k))) (sym (mod-mod octet 64)) ∙ code-of-level 63 (octet % 64) (omega arith) (omega arith)

-- a descriptor of none, and of two octets
none-again : (syntax : Syntax) (octets : List ℕ) → voiceless syntax ≡ false → sid_octets syntax ≡ 0 → length octets ≡ 0 → sid_made syntax Plain ≡ made (unreserved octets)
none-again syntax [] voice none len = cases.makes syntax Plain (voice, (rw none, tt))
none-again syntax (a ∷ rest) voice none len = absurd (omega arith)

two-again :
    (syntax : Syntax) (octets : List ℕ)
    → Octets octets
    → voiceless syntax ≡ false
    → sid_octets syntax ≡ 2
    → length octets ≡ 2
    → sid_made syntax (Noise (record { 0 = get_or octets 0 0 / 16 }) (level_of (get_or octets 1 0))) ≡ made (unreserved octets)
two-again syntax [] small voice two len = absurd (omega arith)
two-again syntax (a ∷ []) small voice two len = absurd (omega arith)
two-again syntax (a ∷ b ∷ []) small voice two len =
    let first : a < 256 = small 0 in
    cases.makes syntax _ (voice, (rw two, (le-ltb 15 (a / 16) (omega arith), (rw (read-code b), tt)))) ∙ rw (read-code b)
two-again syntax (a ∷ b ∷ x ∷ rest) small voice two len = absurd (omega arith)

again :
    (syntax : Syntax) (octets : List ℕ)
    → Octets octets
    → Passes (read_refusals syntax octets)
    → sid_made syntax (sid_in syntax octets) ≡ made (unreserved octets)
again syntax octets small tests =
    let whole : length octets ≡ sid_octets syntax = eqb-true (length octets) (sid_octets syntax) (not-false _ tests.1.0) in
    ⊎_elim (λ (none : sid_octets syntax ≡ 0). rw none (none-again syntax octets tests.0 none (whole ∙ none)))
    (λ some.
    let two = two-or-none syntax some in
    rw two (two-again syntax octets small tests.0 two (whole ∙ two)))
    (eq-or-ne (sid_octets syntax) 0)

pub sid-made-again : SidMadeAgain
unfolding sid_read
sid-made-again syntax sid octets small e =
    let all = passed Err _ (read_refusals syntax octets) (Ok sid) (λ refusal m. cc) e in
    let is = all.1 in
    let same : sid_in syntax octets ≡ sid = cc in
    rw (← same) (again syntax octets small all.0)

as_many : (octets : List ℕ) → length (unreserved octets) ≡ length octets
as_many [] = refl
as_many (a ∷ []) = refl
as_many (a ∷ b ∷ rest) = refl

pub sid-read-alike : SidReadAlike
sid-read-alike syntax sid octets small e =
    (as_many octets, sid-reads-back syntax sid (unreserved octets) (sid-made-again syntax sid octets small e))
