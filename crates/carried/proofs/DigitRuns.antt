-- The runs of specs/DigitRuns.antt.
use Prim.Native.Nat.{ℕ, zero, suc}
use mathlib.Core.Path.{◌≡◌, refl, sym, ap, subst, ◌∙◌}
use mathlib.Core.List.{List, [], ◌∷◌, map}
use native.Mathlib.Omega.{arith}
use mathlib.Core.Option.{some}
use lib.ListN.{replicate}
use Rattle.digits.specs.declared.layout.Window.{Window}
use Rattle.dialling.specs.declared.Sender.{Sender}
use Rattle.dialling.specs.Sender.{fresh_sender, window_in, after_sent, sending}
use Rattle.dialling.specs.SenderClaims.{sender_after}
use Rattle.dialled.specs.Receiver.{fresh_receiver, farthest}
use Rattle.replay.specs.Periods.{pay, range, fresh_of, Near, Sublist, AllIn}
use Rattle.replay.specs.Claims.{record_of, Arriving, Replays}
use Rattle.replay.specs.Examples.{picked, chosen}
use Rattle.replay.proofs.Sublists.{Each, each_in, picked-some, picked-map, chosen-in, chosen-map, Two, just-two}
use Rattle.replay.proofs.Examples.{one-more-fails, one-more-behind-fails}
use Rattle.carried.specs.Emissions.{Emission}
use Rattle.carried.specs.Digits.{emissions, period_of, Heard, came, payloads_of, arrivals, answers, marks_in, most_behind}
use Rattle.carried.specs.DigitRuns.{tone, pause, wrong, call, sent, first, second, first_in_order, second_in_order, amid, ahead, behind, Runs, Sharp}
use Rattle.carried.proofs.DigitRule.{digit_receiver, brings, by-rule, record_is}
use Rattle.carried.proofs.DigitSender.{Brings, all-bring}

abbrev number_of : Emission → ℕ
number_of p = p.number

-- a tone is sent whatever came before it
tones : (s : Sender) (n m : ℕ) → map number_of (emissions s n (replicate m tone)) ≡ range n m
unfolding sending
tones s n zero = refl
tones s n (suc m) = ap {B = List ℕ} (λ ns. n ∷ ns) (tones (after_sent s (window_in tone)) (suc n) m)

numbers : map number_of sent ≡ range 0 300
unfolding sending
numbers = tones (sender_after fresh_sender (wrong ∷ pause ∷ pause ∷ [])) 0 300

chosen-numbers : (ns : List ℕ) → map number_of (chosen ns sent) ≡ chosen ns (range 0 300)
chosen-numbers ns = chosen-map number_of ns sent ∙ ap (chosen ns) numbers

-- the payloads amid the voice
pub payloads-amid : (ps : List Emission) → payloads_of (amid ps) ≡ ps
payloads-amid [] = refl
payloads-amid (p ∷ ps) = ap {B = List Emission} (λ qs. p ∷ qs) (payloads-amid ps)

first-numbers : map number_of first ≡ 1 ∷ 128 ∷ 0 ∷ 255 ∷ 256 ∷ 255 ∷ []
first-numbers = chosen-numbers (1 ∷ 128 ∷ 0 ∷ 255 ∷ 256 ∷ 255 ∷ [])

second-numbers : map number_of second ≡ 0 ∷ 1 ∷ 128 ∷ 0 ∷ 255 ∷ 127 ∷ 255 ∷ 256 ∷ 254 ∷ 299 ∷ []
second-numbers = chosen-numbers (0 ∷ 1 ∷ 128 ∷ 0 ∷ 255 ∷ 127 ∷ 255 ∷ 256 ∷ 254 ∷ 299 ∷ [])

second_in_order_is : map number_of second_in_order ≡ 0 ∷ 1 ∷ 128 ∷ 255 ∷ 299 ∷ []
second_in_order_is = picked-map number_of (0 ∷ 0 ∷ 126 ∷ 126 ∷ 43 ∷ []) sent ∙ ap (picked (0 ∷ 0 ∷ 126 ∷ 126 ∷ 43 ∷ [])) numbers

first_in_order_is : map number_of first_in_order ≡ 1 ∷ 128 ∷ 255 ∷ []
first_in_order_is = picked-map number_of (1 ∷ 0 ∷ 0 ∷ []) second_in_order ∙ ap (picked (1 ∷ 0 ∷ 0 ∷ [])) second_in_order_is

-- the arrivals amid the voice
amid-is : (ps : List Emission) (ns : List ℕ) → map number_of ps ≡ ns → arrivals (amid ps) ≡ ns
amid-is ps ns is = ap (map number_of) (payloads-amid ps) ∙ is

some-amid : (ns : List ℕ) → AllIn (payloads_of (amid (chosen ns sent))) sent
some-amid ns = subst (λ (ps : List Emission). AllIn ps sent) (sym (payloads-amid (chosen ns sent))) (chosen-in ns sent)

pub runs : Runs
runs =
    let first_is = amid-is first (1 ∷ 128 ∷ 0 ∷ 255 ∷ 256 ∷ 255 ∷ []) first-numbers in
    let second_is = amid-is second (0 ∷ 1 ∷ 128 ∷ 0 ∷ 255 ∷ 127 ∷ 255 ∷ 256 ∷ 254 ∷ 299 ∷ []) second-numbers in
    let first-ordered = amid-is first_in_order (1 ∷ 128 ∷ 255 ∷ []) first_in_order_is in
    let second-ordered = amid-is second_in_order (0 ∷ 1 ∷ 128 ∷ 255 ∷ 299 ∷ []) second_in_order_is in
    record {
      given =
          record {
            some = some-amid (1 ∷ 128 ∷ 0 ∷ 255 ∷ 256 ∷ 255 ∷ []);
            some2 = some-amid (0 ∷ 1 ∷ 128 ∷ 0 ∷ 255 ∷ 127 ∷ 255 ∷ 256 ∷ 254 ∷ 299 ∷ []);
            arriving =
                subst (Arriving farthest most_behind) (sym first_is)
                (record {
                  near = (omega arith, (omega arith, (omega arith, tt)));
                  behind = (omega arith, (omega arith, (omega arith, (omega arith, (omega arith, tt)))));
                });
            arriving2 =
                subst (Arriving farthest most_behind) (sym second_is)
                (record {
                  near = (omega arith, (omega arith, (omega arith, (omega arith, (omega arith, (omega arith, tt))))));
                  behind = (omega arith, (omega arith, (omega arith, (omega arith, (omega arith, (omega arith, (omega arith, (omega arith, (omega arith, tt)))))))));
                });
            more = rw (first_is, second_is) (refl, (refl, (refl, (refl, tt))));
          };
      first_is = first_is;
      second_is = second_is;
      in_order =
          record {
            some = subst (λ (ps : List Emission). Sublist ps sent) (sym (payloads-amid second_in_order)) (picked-some (0 ∷ 0 ∷ 126 ∷ 126 ∷ 43 ∷ []) sent);
            more =
                subst (λ (ps : List Emission). Sublist ps (payloads_of (amid second_in_order))) (sym (payloads-amid first_in_order))
                (subst (Sublist first_in_order) (sym (payloads-amid second_in_order)) (picked-some (1 ∷ 0 ∷ 0 ∷ []) second_in_order));
            near = subst (Near farthest) (sym first-ordered) (omega arith, (omega arith, tt));
            near2 = subst (Near farthest) (sym second-ordered) (omega arith, (omega arith, (omega arith, (omega arith, tt))));
          };
      first_in_order_is = first-ordered;
      second_in_order_is = second-ordered;
    }

payloads-of : (ps : List Emission) → payloads_of (map came ps) ≡ ps
payloads-of [] = refl
payloads-of (p ∷ ps) = ap {B = List Emission} (λ qs. p ∷ qs) (payloads-of ps)

-- two payloads of the sender, with these numbers
two-fail : (S : ℕ → Window) (ps : List Emission) (a b : ℕ) (fresh : List ℕ)
    → ((e e2 : Heard) → brings e ≡ some (pay 8 S a) → brings e2 ≡ some (pay 8 S b) → Replays S fresh (record_of digit_receiver fresh_receiver (e ∷ e2 ∷ [])) → ⊥)
    → Each (Brings S) ps
    → Two number_of ps a b
    → Replays S fresh (marks_in (answers fresh_receiver (map came ps)))
    → ⊥
two-fail S ps a b fresh fail each t replays =
    let p = t.one in
    let q = t.two in
    let both : Each (Brings S) (p ∷ q ∷ []) = subst (Each (Brings S)) t.are each in
    fail (came p) (came q) (both.0 ∙ ap (λ (n : ℕ). some (pay 8 S n)) t.is-a) (both.1.0 ∙ ap (λ (n : ℕ). some (pay 8 S n)) t.is_b)
    (subst (Replays S fresh)
    (ap (λ (xs : List Emission). marks_in (answers fresh_receiver (map came xs))) t.are ∙ sym (record_is fresh_receiver (came p ∷ came q ∷ [])))
    replays)

pub sharp : Sharp
sharp =
    let S = period_of call in
    let far = chosen-in (0 ∷ 128 ∷ []) sent in
    let back = chosen-in (129 ∷ 0 ∷ []) sent in
    let far-is : arrivals (map came ahead) ≡ 0 ∷ 128 ∷ [] = ap (map number_of) (payloads-of ahead) ∙ chosen-numbers (0 ∷ 128 ∷ []) in
    let back_is : arrivals (map came behind) ≡ 129 ∷ 0 ∷ [] = ap (map number_of) (payloads-of behind) ∙ chosen-numbers (129 ∷ 0 ∷ []) in
    record {
      some = far;
      ahead_is = far-is;
      ahead_fails =
          λ replays.
          two-fail S ahead 0 128 (0 ∷ 128 ∷ [])
          (λ e e2. one-more-fails Window 8 farthest digit_receiver brings S fresh_receiver e e2 0 by-rule (omega arith) (omega arith) refl)
          (each_in (Brings S) ahead sent far (all-bring call))
          (just-two number_of ahead 0 128 (chosen-numbers (0 ∷ 128 ∷ [])))
          (subst (λ (ns : List ℕ). Replays S (fresh_of ns) (marks_in (answers fresh_receiver (map came ahead)))) far-is replays);
      some_behind = back;
      behind_is = back_is;
      behind_fails =
          λ replays.
          two-fail S behind 129 0 (129 ∷ [])
          (λ e e2. one-more-behind-fails Window 8 farthest digit_receiver brings S fresh_receiver e e2 0 by-rule (omega arith) (omega arith) refl)
          (each_in (Brings S) behind sent back (all-bring call))
          (just-two number_of behind 129 0 (chosen-numbers (129 ∷ 0 ∷ [])))
          (subst (λ (ns : List ℕ). Replays S (fresh_of ns) (marks_in (answers fresh_receiver (map came behind)))) back_is replays);
    }
