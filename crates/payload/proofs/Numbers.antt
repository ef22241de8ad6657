-- Which numbers reading gives (specs/Claims.antt): by the tests of each layout.
use Prim.Native.Nat.{ℕ, ◌<◌}
use mathlib.Core.Path.{refl}
use mathlib.Core.List.{List, [], ◌∷◌}
use native.Mathlib.Omega.{arith}
use lib.Dec.{ltb, eqb}
use lib.ListN.{length}
use Rattle.std.specs.declared.option.Option.TheVariants.{Some, None}
use Rattle.std.specs.declared.result.Result.{Result}
use Rattle.std.specs.declared.result.Result.TheVariants.{Ok, Err}
use Rattle.refusal.specs.declared.Refusal.{Refusal}
use Rattle.refusal.specs.declared.Refusal.TheVariants.{LengthWrong, ReservedCode, OlderPayload}
use Rattle.refusal.specs.Numbers.{number}
use Rattle.refusal.specs.Order.{◌gives◌}
use Rattle.refusal.proofs.Order.{below}
use Rattle.octets.proofs.Order.{picked}
use Rattle.record.specs.declared.syntax.Syntax.{Syntax}
use Rattle.record.specs.declared.syntax.Record.{Record}
use Rattle.voice.specs.declared.Voice.{Voice}
use Rattle.voice.specs.Voice.{voice_read}
use Rattle.voice.specs.Voice as voice
use Rattle.sid.specs.declared.Sid.{Sid}
use Rattle.sid.specs.Sid.{sid_read}
use Rattle.sid.specs.Sid as sid
use Rattle.data.specs.declared.Fragment.{Fragment}
use Rattle.data.specs.Data.{data_read}
use Rattle.data.specs.Data as fragment
use Rattle.fax.specs.declared.Fax.{Fax}
use Rattle.fax.specs.Fax.{fax_read}
use Rattle.fax.specs.Fax as fax
use Rattle.digits.specs.declared.layout.Digits.{Digits}
use Rattle.digits.specs.Layout.{digits_read}
use Rattle.digits.proofs.Numbers.{number_in, reads-below}
use Rattle.signalling.specs.declared.layout.Signalling.{Signalling}
use Rattle.signalling.specs.Layout.{signalling_read}
use Rattle.payload.specs.declared.layout.Family.{Family}
use Rattle.payload.specs.declared.layout.Family.TheVariants.{VoiceFamily, DataFamily, FaxFamily}
use Rattle.payload.specs.declared.layout.Layout.{Layout}
use Rattle.payload.specs.Layout.{family_of, on_voice, on_fax, on_data, layout_in}
use Rattle.payload.specs.Content.{read_by, number_of, of_voice, of_digits, of_signalling, of_fax, of_sid, of_data, Reading}
use Rattle.payload.specs.Claims.{ReadingGives}

abbrev Low : Reading → Type 0
Low x = number_of x < number OlderPayload

-- under each layout
low-voice : (r : Record) (p : List ℕ) → Low (of_voice p (voice_read r p))
unfolding voice_read
low-voice r p =
    below (λ (x : Result Voice Refusal). number_of (of_voice p x)) Err _ (number OlderPayload) (λ n. refl) (omega arith) (voice.read_refusals r p) (tt, (tt, (tt, (tt, (tt, (tt, tt))))))

low-digits : (p : List ℕ) → Low (of_digits (digits_read p))
low-digits p = go (digits_read p) (reads-below p)
  where
    go : (x : Result Digits Refusal) → number_in x < number OlderPayload → Low (of_digits x)
    go (Ok d) less = less
    go (Err n) less = less

low-signalling : (p : List ℕ) → Low (of_signalling (signalling_read p))
unfolding signalling_read
low-signalling p = picked (λ (x : Result Signalling Refusal). Low (of_signalling x)) (eqb (length p) 16) _ _ (λ e. omega arith) (λ e. omega arith)

low-fax : (p : List ℕ) → Low (of_fax p (fax_read p))
unfolding fax_read
low-fax p = below (λ (x : Result Fax Refusal). number_of (of_fax p x)) Err _ (number OlderPayload) (λ n. refl) (omega arith) (fax.read_refusals p (fax.stamp_in p) (fax.command_in p)) (tt, (tt, (tt, (tt, (tt, (tt, (tt, (tt, tt))))))))

low-sid : (syntax : Syntax) (p : List ℕ) → Low (of_sid (sid_read syntax p))
unfolding sid_read
low-sid syntax p = below (λ (x : Result Sid Refusal). number_of (of_sid x)) Err _ (number OlderPayload) (λ n. refl) (omega arith) (sid.read_refusals syntax p) (tt, (tt, tt))

low-data : (p : List ℕ) → Low (of_data p (data_read p))
unfolding data_read
low-data p = below (λ (x : Result Fragment Refusal). number_of (of_data p x)) Err _ (number OlderPayload) (λ n. refl) (omega arith) (ltb (length p) 3 gives LengthWrong ∷ fragment.third_bit p gives ReservedCode ∷ []) (tt, (tt, tt))

-- and where there is none
abbrev Lows : List ℕ → Result Layout Refusal → Type 0
Lows p l = Low (read_by l p)

in-family : (f : Family) (r : Record) (ptype : ℕ) (p : List ℕ) → Lows p (layout_in f r ptype)
unfolding on_voice on_fax on_data
in-family VoiceFamily r ptype p =
    picked (Lows p) (eqb ptype 0) _ _ (λ e. low-voice r p)
    (λ e.
    picked (Lows p) (eqb ptype 1) _ _ (λ e. low-digits p)
    (λ e.
    picked (Lows p) (eqb ptype 2) _ _ (λ e. low-signalling p)
    (λ e. picked (Lows p) (eqb ptype 3) _ _ (λ e. low-fax p) (λ e. picked (Lows p) (eqb ptype 4) _ _ (λ e. low-sid r.syntax p) (λ e. omega arith)))))
in-family DataFamily r ptype p = picked (Lows p) (eqb ptype 0) _ _ (λ e. low-data p) (λ e. omega arith)
in-family FaxFamily r ptype p =
    picked (Lows p) (eqb ptype 0) _ _ (λ e. low-fax p)
    (λ e. picked (Lows p) (eqb ptype 1) _ _ (λ e. low-digits p) (λ e. picked (Lows p) (eqb ptype 2) _ _ (λ e. low-signalling p) (λ e. omega arith)))

pub reading-gives : ReadingGives
reading-gives (Some r) ptype p = in-family (family_of r.syntax) r ptype p
reading-gives None ptype p = omega arith
