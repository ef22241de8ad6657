-- The runs of specs/TrunkRuns.antt.
use Prim.Native.Nat.{ℕ}
use mathlib.Core.Path.{◌≡◌, refl, sym, ap, ◌∙◌}
use mathlib.Core.List.{List, [], ◌∷◌, ◌++◌, map}
use mathlib.Core.Bool.{Bool, false}
use lib.Dec.{eqb}
use Rattle.refusal.specs.declared.Refusal.TheVariants.{LengthWrong}
use Rattle.refusal.specs.Order.{◌or◌}
use Rattle.octets.proofs.Order.{neither}
use Rattle.octets.proofs.Texts.{true-not-false}
use Rattle.voice.specs.Voice.{voice_read, body_octets, block_octets}
use Rattle.voice.specs.Voice as voice
use Rattle.sid.specs.Sid.{sid_read}
use Rattle.fax.specs.Fax.{fax_read, is_page, body_sized, tone_refused, command_of}
use Rattle.fax.specs.Fax as fax
use Rattle.digits.specs.Layout.{digits_read}
use Rattle.signalling.specs.Layout.{signalling_read, all_allowed, pairs, halves}
use Rattle.payload.specs.Layout.{on_voice}
use Rattle.payload.specs.Content.{speech, dialled, seized, faxed, silent, fragment, Reading, reads, refused, payload_read}
use Rattle.carried.specs.Emissions.{Emission}
use Rattle.carried.specs.Digits as digits
use Rattle.carried.specs.DigitRuns as digit-runs
use Rattle.carried.specs.SignallingRuns as signalling-runs
use Rattle.carried.specs.Trunks.{Coming, came, other, payloads_of, NoDigits, NoSignalling}
use Rattle.carried.specs.TrunkRuns.{acelp, amid_digits, amid_signalling, reading_of, other_readings, signalling_reading, digits_reading, each, Runs}
use Rattle.carried.proofs.DigitRuns as digit-proofs
use Rattle.carried.proofs.SignallingRuns as signalling-proofs

amid_digits_is : map reading_of amid_digits ≡ other_readings ++ signalling_reading ∷ refused LengthWrong ∷ []
unfolding voice_read body_octets block_octets voice.front_of sid_read fax_read is_page body_sized tone_refused fax.front_of command_of digits_read signalling_read all_allowed pairs halves on_voice
amid_digits_is = refl

amid_signalling_is : map reading_of amid_signalling ≡ other_readings ++ digits_reading ∷ refused LengthWrong ∷ []
unfolding voice_read body_octets block_octets voice.front_of sid_read fax_read is_page body_sized tone_refused fax.front_of command_of digits_read signalling_read all_allowed pairs halves on_voice
amid_signalling_is = refl

-- what a payload reads as: 1 for digits, 2 for signalling, 0 for any other content and a refusal
abbrev tag : Reading → ℕ
tag (reads (speech sequence coding body)) = 0
tag (reads (dialled d)) = 1
tag (reads (seized s)) = 2
tag (reads (faxed sequence stamp command body)) = 0
tag (reads (silent sid)) = 0
tag (reads (fragment begins ends sequence body)) = 0
tag (refused refusal) = 0

-- whether another payload than the sender's reads so
abbrev any_reads : ℕ → List Coming → Bool
any_reads n [] = false
any_reads n (came p ∷ cs) = any_reads n cs
any_reads n (other ptype octets ∷ cs) = eqb (tag (payload_read acelp ptype octets)) n or any_reads n cs

no-digits : (cs : List Coming) → any_reads 1 cs ≡ false → NoDigits acelp cs
no-digits [] none = tt
no-digits (came p ∷ cs) none = no-digits cs none
no-digits (other ptype octets ∷ cs) none =
    let both = neither (eqb (tag (payload_read acelp ptype octets)) 1) (any_reads 1 cs) none in
    (λ d e. true-not-false (sym (ap (λ (r : Reading). eqb (tag r) 1) e) ∙ both.0), no-digits cs both.1)

no-signalling : (cs : List Coming) → any_reads 2 cs ≡ false → NoSignalling acelp cs
no-signalling [] none = tt
no-signalling (came p ∷ cs) none = no-signalling cs none
no-signalling (other ptype octets ∷ cs) none =
    let both = neither (eqb (tag (payload_read acelp ptype octets)) 2) (any_reads 2 cs) none in
    (λ s e. true-not-false (sym (ap (λ (r : Reading). eqb (tag r) 2) e) ∙ both.0), no-signalling cs both.1)

digits-each : (ps : List Emission) → any_reads 1 (each amid_digits ps) ≡ false
unfolding voice_read body_octets block_octets voice.front_of sid_read fax_read is_page body_sized tone_refused fax.front_of command_of digits_read signalling_read all_allowed pairs halves on_voice
digits-each [] = refl
digits-each (p ∷ ps) = digits-each ps

signalling-each : (ps : List Emission) → any_reads 2 (each amid_signalling ps) ≡ false
unfolding voice_read body_octets block_octets voice.front_of sid_read fax_read is_page body_sized tone_refused fax.front_of command_of digits_read signalling_read all_allowed pairs halves on_voice
signalling-each [] = refl
signalling-each (p ∷ ps) = signalling-each ps

-- the sender's payloads among them
payloads-each : (before : List Coming) → ((cs : List Coming) → payloads_of (before ++ cs) ≡ payloads_of cs) → (ps : List Emission) → payloads_of (each before ps) ≡ ps
payloads-each before none [] = refl
payloads-each before none (p ∷ ps) = none (came p ∷ each before ps) ∙ ap (λ (qs : List Emission). p ∷ qs) (payloads-each before none ps)

of-digits : (ps : List Emission) → payloads_of (each amid_digits ps) ≡ ps
of-digits ps = payloads-each amid_digits (λ cs. refl) ps

of-signalling : (ps : List Emission) → payloads_of (each amid_signalling ps) ≡ ps
of-signalling ps = payloads-each amid_signalling (λ cs. refl) ps

pub runs : Runs
unfolding on_voice
runs =
    let given = (digit-proofs.runs).given in
    let heard-first : digits.payloads_of (digit-runs.amid digit-runs.first) ≡ payloads_of (each amid_digits digit-runs.first) = digit-proofs.payloads-amid digit-runs.first ∙ sym (of-digits digit-runs.first) in
    let heard-second : digits.payloads_of (digit-runs.amid digit-runs.second) ≡ payloads_of (each amid_digits digit-runs.second) = digit-proofs.payloads-amid digit-runs.second ∙ sym (of-digits digit-runs.second) in
    let given2 = (signalling-proofs.runs).given in
    record {
      amid_digits_is = amid_digits_is;
      amid_signalling_is = amid_signalling_is;
      digits =
          record {
            carries = refl;
            some = rw (← heard-first) given.some;
            some2 = rw (← heard-second) given.some2;
            arriving = rw (← heard-first) given.arriving;
            arriving2 = rw (← heard-second) given.arriving2;
            more = rw (← heard-first, ← heard-second) given.more;
            others = no-digits (each amid_digits digit-runs.first) (digits-each digit-runs.first);
            others2 = no-digits (each amid_digits digit-runs.second) (digits-each digit-runs.second);
          };
      signalling =
          record {
            carries = refl;
            begins = given2.begins;
            ten = given2.ten;
            some = rw (of-signalling signalling-runs.first) given2.some;
            some2 = rw (of-signalling signalling-runs.second) given2.some2;
            arriving = rw (of-signalling signalling-runs.first) given2.arriving;
            arriving2 = rw (of-signalling signalling-runs.second) given2.arriving2;
            more = rw (of-signalling signalling-runs.first, of-signalling signalling-runs.second) given2.more;
            others = no-signalling (each amid_signalling signalling-runs.first) (signalling-each signalling-runs.first);
            others2 = no-signalling (each amid_signalling signalling-runs.second) (signalling-each signalling-runs.second);
          };
    }
