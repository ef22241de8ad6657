-- The digit receiver goes by the receivers' rule.
use Prim.Native.Nat.{ℕ, ◌%◌, ◌^◌}
use mathlib.Core.Path.{◌≡◌, refl, ap}
use mathlib.Core.List.{List, [], ◌∷◌, ◌++◌, map}
use mathlib.Core.Bool.{Bool, true, false}
use mathlib.Core.Option.{Option, none, some}
use borrow.Author.Tests.{eqb-true}
use lib.Dec.{eqb}
use lib.ListN.{replicate}
use Rattle.std.specs.declared.result.Result.{Result}
use Rattle.std.specs.declared.result.Result.TheVariants.{Ok, Err}
use Rattle.refusal.specs.declared.Refusal.{Refusal}
use Rattle.refusal.specs.Numbers.{sound}
use Rattle.octets.proofs.Order.{picked}
use Rattle.counts.specs.Round.{step}
use Rattle.digits.specs.declared.layout.Window.{Window}
use Rattle.digits.specs.declared.layout.Digits.{Digits}
use Rattle.dialled.specs.declared.Receiver.{Receiver}
use Rattle.digits.specs.Layout.{off_window, digits_read}
use Rattle.dialled.specs.Receiver.{farthest, step_from, fill_of, receiver_after, number_in, appended_in, appended, received, voice_heard}
use Rattle.replay.specs.Rule.{older, fill_count}
use Rattle.replay.specs.Periods.{Payload, Mark, filled, carried}
use Rattle.replay.specs.Claims as replays
use Rattle.replay.proofs.Steps.{in_use, heard-at-zero, same-at-zero}
use Rattle.carried.specs.Emissions.{Emission}
use Rattle.carried.specs.Digits.{Heard, came, voice, answers, marks_of, marks_in}

-- what an event brings about
abbrev number_to : Receiver → Heard → ℕ
number_to r (came p) = number_in (received r p.octets)
number_to r voice = sound

abbrev answered : Receiver → Heard → List (Mark Window)
answered r (came p) = marks_of (appended_in (received r p.octets))
answered r voice = []

abbrev receiver_next : Receiver → Heard → Receiver
receiver_next r (came p) = (received r p.octets).receiver
receiver_next r voice = voice_heard r

abbrev pub digit_receiver : replays.Receiver Window
digit_receiver =
    record {
      State = Receiver;
      Event = Heard;
      heard = λ r. r.heard;
      last = λ r. r.last.0;
      number = number_to;
      appends = answered;
      after = receiver_next;
    }

-- the payload that octets bring, if they are accepted
abbrev pub windows_of : Digits → List Window
windows_of d = d.previous ∷ d.recent ∷ d.current ∷ []

abbrev pub read_payload : Result Digits Refusal → Option (Payload Window)
read_payload (Ok d) = some (record { number = d.sequence.0; windows = windows_of d })
read_payload (Err refusal) = none

abbrev pub brings : Heard → Option (Payload Window)
brings (came p) = read_payload (digits_read p.octets)
brings voice = none

appended-is : (r : Receiver) (d : Digits) → marks_of (appended_in (appended r d (step_from r d.sequence))) ≡ replays.by_step (step_from r d.sequence) (fill_of r (step_from r d.sequence)) (windows_of d)
appended-is r d =
    let at = step_from r d.sequence in
    ap (λ (ws : List Window). replicate (fill_count at) (filled (fill_of r at)) ++ map carried ws) (in_use d.previous d.recent d.current off_window at)

-- after a payload, also one at a step of 0, one was heard and its sequence is the last
after-heard : (r : Receiver) (d : Digits) → (receiver_after r d (step_from r d.sequence)).heard ≡ true
after-heard r d =
    let at = step_from r d.sequence in
    picked (λ (x : Receiver). x.heard ≡ true) (eqb at 0) _ _ (λ e. heard-at-zero r.heard (step 8 r.last.0 d.sequence.0) (eqb-true at 0 e)) (λ e. refl)

after_last : (r : Receiver) (d : Digits) → (receiver_after r d (step_from r d.sequence)).last.0 % 2 ^ 8 ≡ d.sequence.0 % 2 ^ 8
after_last r d =
    let at = step_from r d.sequence in
    picked (λ (x : Receiver). x.last.0 % 2 ^ 8 ≡ d.sequence.0 % 2 ^ 8) (eqb at 0) _ _ (λ e. same-at-zero 8 r.heard r.last.0 d.sequence.0 (eqb-true at 0 e)) (λ e. refl)

-- a payload that reads, by whether its step lies beyond the farthest
meets : (r : Receiver) (p : Emission) (d : Digits) (late : Bool)
    → digits_read p.octets ≡ Ok d
    → older farthest (step_from r d.sequence) ≡ late
    → replays.Meets 8 digit_receiver r (came p) (record { number = d.sequence.0; windows = windows_of d }) late
unfolding received
meets r p d true e late = record { number = rw (e, late) refl; appends = rw (e, late) refl; stands = rw (e, late) refl }
meets r p d false e late =
    record {
      fill = fill_of r (step_from r d.sequence);
      number = rw (e, late) refl;
      appends = rw (e, late) (appended-is r d);
      heard = rw (e, late, receiver_next) (after-heard r d);
      last = rw (e, late, receiver_next) (after_last r d);
    }

acts : (r : Receiver) (p : Emission) (read : Result Digits Refusal) → digits_read p.octets ≡ read → replays.Acts 8 farthest digit_receiver r (came p) (read_payload read)
unfolding received
acts r p (Ok d) e = meets r p d (older farthest (step_from r d.sequence)) e refl
acts r p (Err refusal) e = record { appends = rw e refl; heard = rw (e, receiver_next) refl; last = rw (e, receiver_next) refl }

pub by-rule : replays.ByRule 8 farthest digit_receiver brings
by-rule r (came p) = acts r p (digits_read p.octets) refl
by-rule r voice = record { appends = refl; heard = refl; last = refl }

pub record_is : (r : Receiver) (hs : List Heard) → replays.record_of digit_receiver r hs ≡ marks_in (answers r hs)
record_is r [] = refl
record_is r (came p ∷ hs) = ap (λ (ms : List (Mark Window)). marks_of (appended_in (received r p.octets)) ++ ms) (record_is (received r p.octets).receiver hs)
record_is r (voice ∷ hs) = record_is (voice_heard r) hs
