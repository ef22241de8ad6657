-- The runs of specs/SignallingRuns.antt.
use Prim.Native.Nat.{ℕ, zero, suc, ◌+◌, ◌-◌, ◌<◌, ◌≤◌}
use mathlib.Core.Path.{◌≡◌, refl, sym, ap, subst, ◌∙◌}
use mathlib.Core.List.{List, [], ◌∷◌, ◌++◌}
use mathlib.Core.Bool.{true, false}
use mathlib.Core.Option.{some}
use native.Mathlib.Omega.{arith}
use borrow.Author.Tests.{lt-ltb, eq-eqb, eqb-true}
use lib.Dec.{eqb}
use lib.ListN.{length, replicate}
use Rattle.octets.proofs.Order.{either}
use Rattle.seizing.specs.declared.Entry.{Entry}
use Rattle.seizing.specs.declared.Sender.{Sender}
use Rattle.signalling.specs.Layout.{all_allowed}
use Rattle.seizing.specs.Sender.{Sent, sender_from, all_equal, is_quiet, run_after, after_sent, after_unsent, going_out, resting}
use Rattle.seizing.specs.Sender as defined
use Rattle.seized.specs.Receiver.{fresh_receiver, farthest}
use Rattle.replay.specs.Periods.{pay, range, fresh_of, Near}
use Rattle.replay.specs.Claims.{record_of, Arriving, Replays}
use Rattle.replay.specs.Examples.{picked, chosen}
use Rattle.replay.proofs.Sublists.{Each, each_in, picked-some, picked-map, chosen-in, chosen-map, Two, just-two}
use Rattle.replay.proofs.Examples.{one-more-fails, one-more-behind-fails}
use Rattle.carried.specs.Emissions.{Emission}
use Rattle.carried.specs.Signalling.{emitted, number_after, emissions, period_of, arrivals, answers, marks_in, most_behind, TenEach}
use Rattle.carried.specs.SignallingRuns.{still, ring, pulse, line, sent, first, second, first_in_order, second_in_order, ahead, behind, Runs, Sharp}
use Rattle.carried.proofs.SignallingRule.{signalling_receiver, brings, by-rule, record_is}
use Rattle.carried.proofs.SignallingSender.{Brings, all-bring, is-loud, is-early, is-resting, is-repeat, raised}

-- the numbers that an entry adds, by its answer
module _ (s : Sender) (n : ℕ) (e : Entry) (es : List Entry) where
  on-answer : (t : Sent) → defined.sent s e ≡ t → arrivals (emissions s n (e ∷ es)) ≡ arrivals (emitted s n t ++ emissions t.sender (number_after s n t) es)
  on-answer t is = ap (λ (x : Sent). arrivals (emitted s n x ++ emissions x.sender (number_after s n x) es)) is

  sends : defined.sent s e ≡ going_out (after_sent s e) e.alarm → arrivals (emissions s n (e ∷ es)) ≡ n ∷ arrivals (emissions (after_sent s e) (suc n) es)
  sends is = on-answer (going_out (after_sent s e) e.alarm) is ∙ rw (raised s.last.0) refl

  rests : defined.sent s e ≡ resting (after_unsent s e) → arrivals (emissions s n (e ∷ es)) ≡ arrivals (emissions (after_unsent s e) n es)
  rests is = on-answer (resting (after_unsent s e)) is

  repeated : defined.sent s e ≡ going_out (after_unsent s e) e.alarm → arrivals (emissions s n (e ∷ es)) ≡ (n - 1) ∷ arrivals (emissions (after_unsent s e) n es)
  repeated is = on-answer (going_out (after_unsent s e) e.alarm) is ∙ rw (eq-eqb s.last.0 s.last.0 refl) refl

-- a pulse is quiet nowhere
never-quiet : (s : Sender) → is_quiet s pulse ≡ false
unfolding all_equal
never-quiet s =
    either
    (λ (e : eqb s.before 1 ≡ true). let one : s.before ≡ 1 = eqb-true s.before 1 e in rw one refl)
    (λ (e : eqb s.before 1 ≡ false). rw e refl)
    (eqb s.before 1)
    refl

fair-pulse : all_allowed 10 0 pulse.samples ≡ true
unfolding all_allowed
fair-pulse = refl

fair-still : all_allowed 10 0 still.samples ≡ true
unfolding all_allowed
fair-still = refl

pulses : (s : Sender) (n m : ℕ) → arrivals (emissions s n (replicate m pulse)) ≡ range n m
pulses s n zero = refl
pulses s n (suc m) =
    sends s n pulse (replicate m pulse) (is-loud s pulse fair-pulse (never-quiet s))
    ∙ ap {B = List ℕ} (λ ns. n ∷ ns) (pulses (after_sent s pulse) (suc n) m)

-- a run of quiet periods, of which q went before
pub record Quiet (s : Sender) (q : ℕ) : Type 0 where
  pub before : s.before ≡ 0
  pub run : s.quiet ≡ q

is-still : (s : Sender) → s.before ≡ 0 → is_quiet s still ≡ true
unfolding all_equal
is-still s e = rw e refl

run_on : (s : Sender) (q : ℕ) → Quiet s q → q < 274 → run_after (is_quiet s still) s.quiet ≡ q + 1
run_on s q quiet less =
    let test : is_quiet s still ≡ true = is-still s quiet.before in
    rw (test, quiet.run, lt-ltb q 274 less) refl

sent-still : (s : Sender) (q : ℕ) → Quiet s q → q < 274 → Quiet (after_sent s still) (q + 1)
sent-still s q quiet less = record { before = refl; run = run_on s q quiet less }

other-still : (s : Sender) (q : ℕ) → Quiet s q → q < 274 → Quiet (after_unsent s still) (q + 1)
other-still s q quiet less = record { before = refl; run = run_on s q quiet less }

-- m more of the first 25
early : (m : ℕ) (s : Sender) (n q : ℕ) (rest : List Entry) (ns : List ℕ)
    → Quiet s q
    → q + m ≤ 25
    → ((t : Sender) → Quiet t (q + m) → arrivals (emissions t (n + m) rest) ≡ ns)
    → arrivals (emissions s n (replicate m still ++ rest)) ≡ range n m ++ ns
early zero s n q rest ns quiet few next =
    let here : q + 0 ≡ q = omega arith in
    let same : n + 0 ≡ n = omega arith in
    ap (λ (m : ℕ). arrivals (emissions s m rest)) (sym same) ∙ next s (rw here quiet)
early (suc m) s n q rest ns quiet few next =
    let run : s.quiet ≡ q = quiet.run in
    let turn : q + 1 + m ≡ q + suc m = omega arith in
    let count : suc n + m ≡ n + suc m = omega arith in
    sends s n still (replicate m still ++ rest) (is-early s still fair-still (is-still s quiet.before) (omega arith))
    ∙ ap {B = List ℕ} (λ ks. n ∷ ks)
    (early m (after_sent s still) (suc n) (q + 1) rest ns (sent-still s q quiet (omega arith)) (omega arith)
    (λ t more. ap (λ (k : ℕ). arrivals (emissions t k rest)) count ∙ next t (rw (← turn) more)))

-- m more of those that are not sent
unsent : (m : ℕ) (s : Sender) (n q : ℕ) (rest : List Entry) (ns : List ℕ)
    → Quiet s q
    → 25 ≤ q
    → q + m ≤ 274
    → ((t : Sender) → Quiet t (q + m) → arrivals (emissions t n rest) ≡ ns)
    → arrivals (emissions s n (replicate m still ++ rest)) ≡ ns
unsent zero s n q rest ns quiet late few next = let here : q + 0 ≡ q = omega arith in next s (rw here quiet)
unsent (suc m) s n q rest ns quiet late few next =
    let run : s.quiet ≡ q = quiet.run in
    let turn : q + 1 + m ≡ q + suc m = omega arith in
    rests s n still (replicate m still ++ rest) (is-resting s still fair-still (is-still s quiet.before) (omega arith) (omega arith))
    ∙ unsent m (after_unsent s still) n (q + 1) rest ns (other-still s q quiet (omega arith)) (omega arith) (omega arith) (λ t more. next t (rw (← turn) more))

-- the numbers of the line: 0 to 24, the repeat, 25 to 184
abbrev numbers : List ℕ
numbers = range 0 25 ++ 24 ∷ range 25 160

all-numbers : arrivals sent ≡ numbers
all-numbers =
    early 25 (sender_from 0) 0 0 (replicate 249 still ++ ring ∷ replicate 160 pulse) (24 ∷ range 25 160) (record { before = refl; run = refl }) (omega arith)
    (λ t quiet.
    unsent 249 t 25 25 (ring ∷ replicate 160 pulse) (24 ∷ range 25 160) quiet (omega arith) (omega arith)
    (λ u quiet2.
    let run : u.quiet ≡ 274 = quiet2.run in
    repeated u 25 ring (replicate 160 pulse) (is-repeat u ring fair-still (is-still u quiet2.before) (omega arith))
    ∙ ap {B = List ℕ} (λ ks. 24 ∷ ks) (pulses (after_unsent u ring) 25 160)))

picked-numbers : (gs : List ℕ) → arrivals (picked gs sent) ≡ picked gs numbers
picked-numbers gs = picked-map (λ (p : Emission). p.number) gs sent ∙ ap (picked gs) all-numbers

chosen-numbers : (ns : List ℕ) → arrivals (chosen ns sent) ≡ chosen ns numbers
chosen-numbers ns = chosen-map (λ (p : Emission). p.number) ns sent ∙ ap (chosen ns) all-numbers

abbrev number_of : Emission → ℕ
number_of p = p.number

ten-of : (m : ℕ) (e : Entry) (rest : List Entry) → length e.samples ≡ 10 → TenEach rest → TenEach (replicate m e ++ rest)
ten-of zero e rest ten each = each
ten-of (suc m) e rest ten each = (ten, ten-of m e rest ten each)

ten-pulses : (m : ℕ) → TenEach (replicate m pulse)
ten-pulses zero = tt
ten-pulses (suc m) = (refl, ten-pulses m)

ten-each : TenEach line
ten-each = ten-of 274 still (ring ∷ replicate 160 pulse) refl (refl, ten-pulses 160)

pub runs : Runs
runs =
    let first_is : arrivals first ≡ 24 ∷ 87 ∷ 23 ∷ 150 ∷ [] = chosen-numbers (25 ∷ 88 ∷ 23 ∷ 151 ∷ []) in
    let second_is : arrivals second ≡ 0 ∷ 24 ∷ 24 ∷ 87 ∷ 23 ∷ 150 ∷ 86 ∷ 153 ∷ [] = chosen-numbers (0 ∷ 24 ∷ 25 ∷ 88 ∷ 23 ∷ 151 ∷ 87 ∷ 154 ∷ []) in
    let first-ordered : arrivals first_in_order ≡ 24 ∷ 87 ∷ [] = picked-numbers (25 ∷ 62 ∷ []) in
    let second-ordered : arrivals second_in_order ≡ 0 ∷ 24 ∷ 87 ∷ 150 ∷ [] = picked-numbers (0 ∷ 23 ∷ 63 ∷ 62 ∷ []) in
    record {
      given =
          record {
            begins = refl;
            ten = ten-each;
            some = chosen-in (25 ∷ 88 ∷ 23 ∷ 151 ∷ []) sent;
            some2 = chosen-in (0 ∷ 24 ∷ 25 ∷ 88 ∷ 23 ∷ 151 ∷ 87 ∷ 154 ∷ []) sent;
            arriving =
                subst (Arriving farthest most_behind) (sym first_is)
                (record { near = (omega arith, (omega arith, tt)); behind = (omega arith, (omega arith, (omega arith, tt))) });
            arriving2 =
                subst (Arriving farthest most_behind) (sym second_is)
                (record {
                  near = (omega arith, (omega arith, (omega arith, (omega arith, (omega arith, tt)))));
                  behind = (omega arith, (omega arith, (omega arith, (omega arith, (omega arith, (omega arith, (omega arith, tt)))))));
                });
            more = rw (first_is, second_is) (refl, (refl, (refl, tt)));
          };
      first_is = first_is;
      second_is = second_is;
      in_order =
          record {
            begins = refl;
            ten = ten-each;
            some = picked-some (25 ∷ 62 ∷ []) sent;
            some2 = picked-some (0 ∷ 23 ∷ 63 ∷ 62 ∷ []) sent;
            more = rw (first-ordered, second-ordered) (refl, (refl, tt));
            near = subst (Near farthest) (sym first-ordered) (omega arith, tt);
            near2 = subst (Near farthest) (sym second-ordered) (omega arith, (omega arith, (omega arith, tt)));
          };
      first_in_order_is = first-ordered;
      second_in_order_is = second-ordered;
    }

-- two payloads of the sender, with these numbers
two-fail : (S : ℕ → List ℕ) (ps : List Emission) (a b : ℕ) (fresh : List ℕ)
    → ((p q : Emission) → brings p ≡ some (pay 7 S a) → brings q ≡ some (pay 7 S b) → Replays S fresh (record_of signalling_receiver fresh_receiver (p ∷ q ∷ [])) → ⊥)
    → Each (Brings S) ps
    → Two number_of ps a b
    → Replays S fresh (marks_in (answers fresh_receiver ps))
    → ⊥
two-fail S ps a b fresh fail each t replays =
    let p = t.one in
    let q = t.two in
    let both : Each (Brings S) (p ∷ q ∷ []) = subst (Each (Brings S)) t.are each in
    fail p q (both.0 ∙ ap (λ (n : ℕ). some (pay 7 S n)) t.is-a) (both.1.0 ∙ ap (λ (n : ℕ). some (pay 7 S n)) t.is_b)
    (subst (Replays S fresh) (ap (λ (xs : List Emission). marks_in (answers fresh_receiver xs)) t.are ∙ sym (record_is fresh_receiver (p ∷ q ∷ []))) replays)

pub sharp : Sharp
sharp =
    let S = period_of 0 line in
    let all = all-bring 0 line refl ten-each in
    let far = chosen-in (0 ∷ 65 ∷ []) sent in
    let back = chosen-in (66 ∷ 0 ∷ []) sent in
    let far-is : arrivals ahead ≡ 0 ∷ 64 ∷ [] = chosen-numbers (0 ∷ 65 ∷ []) in
    let back_is : arrivals behind ≡ 65 ∷ 0 ∷ [] = chosen-numbers (66 ∷ 0 ∷ []) in
    record {
      some = far;
      ahead_is = far-is;
      ahead_fails =
          λ replays.
          two-fail S ahead 0 64 (0 ∷ 64 ∷ [])
          (λ p q. one-more-fails (List ℕ) 7 farthest signalling_receiver brings S fresh_receiver p q 0 by-rule (omega arith) (omega arith) refl)
          (each_in (Brings S) ahead sent far all)
          (just-two number_of ahead 0 64 far-is)
          (subst (λ (ns : List ℕ). Replays S (fresh_of ns) (marks_in (answers fresh_receiver ahead))) far-is replays);
      some_behind = back;
      behind_is = back_is;
      behind_fails =
          λ replays.
          two-fail S behind 65 0 (65 ∷ [])
          (λ p q. one-more-behind-fails (List ℕ) 7 farthest signalling_receiver brings S fresh_receiver p q 0 by-rule (omega arith) (omega arith) refl)
          (each_in (Brings S) behind sent back all)
          (just-two number_of behind 65 0 back_is)
          (subst (λ (ns : List ℕ). Replays S (fresh_of ns) (marks_in (answers fresh_receiver behind))) back_is replays);
    }
