-- The signalling receiver goes by the receivers' rule.
use Prim.Native.Nat.{ℕ, ◌+◌, ◌-◌}
use mathlib.Core.Path.{◌≡◌, refl, sym, ap, ◌∙◌}
use mathlib.Core.List.{List, [], ◌∷◌, ◌++◌, map}
use mathlib.Core.Bool.{Bool, true, false}
use mathlib.Core.Option.{Option, none, some}
use mathlib.Core.Logic.{⊎_elim}
use lib.ListN.{length, take, drop, replicate, length-drop}
use Rattle.std.specs.declared.result.Result.{Result}
use Rattle.std.specs.declared.result.Result.TheVariants.{Ok, Err}
use Rattle.refusal.specs.declared.Refusal.{Refusal}
use Rattle.octets.proofs.Order.{eq-or-ne}
use Rattle.signalling.specs.declared.layout.Signalling.{Signalling}
use Rattle.seized.specs.declared.Receiver.{Receiver}
use Rattle.signalling.specs.Layout.{signalling_in, signalling_read}
use Rattle.seized.specs.Receiver.{farthest, step_from, fill_of, periods_of, number_in, appended_in, appended, received}
use Rattle.signalling.proofs.Halves.{length-halves}
use Rattle.signalling.proofs.LayoutCases as cases
use Rattle.replay.specs.Rule.{older, fill_count, carried_count, newest}
use Rattle.replay.specs.Periods.{Payload, Mark, filled, carried}
use Rattle.replay.specs.Claims as replays
use Rattle.carried.specs.Emissions.{Emission}
use Rattle.carried.specs.Signalling.{tens, answers, marks_of, marks_in}
use Rattle.carried.proofs.Tens.{tens-of, Parts, parts, newest-kept}

abbrev pub signalling_receiver : replays.Receiver (List ℕ)
signalling_receiver =
    record {
      State = Receiver;
      Event = Emission;
      heard = λ r. r.heard;
      last = λ r. r.last.0;
      number = λ r p. number_in (received r p.octets);
      appends = λ r p. marks_of (appended_in (received r p.octets));
      after = λ r p. (received r p.octets).receiver;
    }

-- the payload that octets bring, if they are accepted
abbrev pub read_payload : Result Signalling Refusal → Option (Payload (List ℕ))
read_payload (Ok s) = some (record { number = s.sequence.0; windows = tens s.samples })
read_payload (Err refusal) = none

abbrev pub brings : Emission → Option (Payload (List ℕ))
brings p = read_payload (signalling_read p.octets)

kept : (step : ℕ) (samples : List ℕ) → Parts samples → take (carried_count step) (tens (periods_of samples step)) ≡ newest step (tens samples)
kept step samples p =
    ap (λ (l : List ℕ). take (carried_count step) (tens (periods_of l step))) p.is
    ∙ newest-kept p.a p.b p.c p.ten step
    ∙ ap (newest step) (sym (tens-of p.a p.b p.c p.ten))
    ∙ ap (λ (l : List ℕ). newest step (tens l)) (sym p.is)

appended-is : (r : Receiver) (s : Signalling) → Parts s.samples
    → marks_of (appended_in (appended r s (step_from r s.sequence))) ≡ replays.by_step (step_from r s.sequence) (replicate 10 (fill_of r (step_from r s.sequence))) (tens s.samples)
appended-is r s p =
    let at = step_from r s.sequence in
    ap (λ (ws : List (List ℕ)). replicate (fill_count at) (filled (replicate 10 (fill_of r at))) ++ map carried ws) (kept at s.samples p)

-- a payload that reads has thirty samples
thirty : (octets : List ℕ) (s : Signalling) → signalling_read octets ≡ Ok s → length s.samples ≡ 30
thirty octets s e =
    ⊎_elim
    (λ whole.
    let right = cases.right octets whole in
    let same : s ≡ signalling_in octets = cc in
    ap (λ (x : Signalling). length x.samples) same
    ∙ length-halves (drop 1 octets)
    ∙ ap (λ (n : ℕ). n + n) (length-drop 1 octets ∙ ap (λ (n : ℕ). n - 1) whole))
    (λ other. let wrong = cases.wrong octets other in absurd cc)
    (eq-or-ne (length octets) 16)

-- a payload that reads, by whether its step lies beyond the farthest
meets : (r : Receiver) (p : Emission) (s : Signalling) (late : Bool)
    → signalling_read p.octets ≡ Ok s
    → older farthest (step_from r s.sequence) ≡ late
    → replays.Meets 7 signalling_receiver r p (record { number = s.sequence.0; windows = tens s.samples }) late
unfolding received
meets r p s true e late = record { number = rw (e, late) refl; appends = rw (e, late) refl; stands = rw (e, late) refl }
meets r p s false e late =
    record {
      fill = replicate 10 (fill_of r (step_from r s.sequence));
      number = rw (e, late) refl;
      appends = rw (e, late) (appended-is r s (parts s.samples (thirty p.octets s e)));
      heard = rw (e, late) refl;
      last = rw (e, late) refl;
    }

acts : (r : Receiver) (p : Emission) (read : Result Signalling Refusal) → signalling_read p.octets ≡ read → replays.Acts 7 farthest signalling_receiver r p (read_payload read)
unfolding received
acts r p (Ok s) e = meets r p s (older farthest (step_from r s.sequence)) e refl
acts r p (Err refusal) e = record { appends = rw e refl; heard = rw e refl; last = rw e refl }

pub by-rule : replays.ByRule 7 farthest signalling_receiver brings
by-rule r p = acts r p (signalling_read p.octets) refl

pub record_is : (r : Receiver) (ps : List Emission) → replays.record_of signalling_receiver r ps ≡ marks_in (answers r ps)
record_is r [] = refl
record_is r (p ∷ ps) = ap (λ (ms : List (Mark (List ℕ))). marks_of (appended_in (received r p.octets)) ++ ms) (record_is (received r p.octets).receiver ps)
