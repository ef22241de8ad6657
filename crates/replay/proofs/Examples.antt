-- The claims of specs/Examples.antt.
use Prim.Native.Nat.{ℕ, ◌+◌, ◌-◌, ◌%◌, ◌^◌, ◌<◌, ◌≤◌}
use mathlib.Core.Path.{◌≡◌, refl, sym, ap, subst, ◌∙◌}
use mathlib.Core.List.{List, [], ◌∷◌, ◌++◌, map}
use mathlib.Core.Option.{some}
use mathlib.Core.Bool.{Bool, true, false}
use native.Mathlib.Nat.{add-zero}
use native.Mathlib.Omega.{arith}
use borrow.Author.Tests.{lt-ltb, le-ltb}
use lib.Dec.{ltb}
use lib.ListN.{length, length-map, length-append, length-replicate, length-drop, replicate, drop}
use Rattle.counts.specs.Round.{step}
use Rattle.counts.proofs.Laws.{laws}
use Rattle.replay.specs.Rule.{older}
use Rattle.replay.specs.Periods.{Payload, pay, filled, carried, fresh_of, Near, Behind}
use Rattle.replay.specs.Claims.{Receiver, by_step, record_of, step_of, Takes, Leaves, Meets, Acts, brought_by, Replays}
use Rattle.replay.specs.Examples.{Bare, step_from, bare, unheard, numbers, marks_of, BareByRule, FarthestReplays, OneMoreFails, OneMoreBehindFails, Costs}
use Rattle.replay.proofs.Replay.{replay}

bare-meets : (k far : ℕ) (s : Bare) (p : Payload ℕ) (t : Bool) → older far (step_from k s p) ≡ t → Meets k (bare k far) s p p t
bare-meets k far s p true is = record { number = rw is refl; appends = rw is refl; stands = rw is refl }
bare-meets k far s p false is = record { fill = 0; number = rw is refl; appends = rw is refl; heard = rw is refl; last = rw is refl }

pub bare-by-rule : BareByRule
bare-by-rule k far s p = bare-meets k far s p (older far (step_from k s p)) refl

brought-all : {P : Type 0} (ps : List P) → brought_by some ps ≡ ps
brought-all [] = refl
brought-all {P} (p ∷ ps) = ap {B = List P} (λ r. p ∷ r) (brought-all ps)

-- a first payload is taken
first_taken : {A : Type 0} (k far : ℕ) (r : Receiver A) (s : r.State) (e : r.Event) (p : Payload A) → 3 ≤ far → r.heard s ≡ false → Acts k far r s e (some p) → Takes k r s e p
first_taken k far r s e p enough fresh acts =
    let in-time : older far (step_of k r s p) ≡ false = rw fresh (le-ltb far 3 enough) in
    subst (Meets k r s e p) in-time acts

-- what a step appends is as long as the step
step-long : {A : Type 0} (d : ℕ) (fill x y z : A) → length (by_step d fill (x ∷ y ∷ z ∷ [])) ≡ d
step-long {A} d fill x y z =
    let ws : List A = x ∷ y ∷ z ∷ [] in
    length-append (replicate (d - 3) (filled fill)) (map carried (drop (3 - d) ws))
    ∙ rw (length-replicate (d - 3) (filled fill), length-map (drop (3 - d) ws) carried, length-drop (3 - d) ws) (omega arith)

taken-long : {A : Type 0} (k d : ℕ) (r : Receiver A) (S : ℕ → A) (s : r.State) (e : r.Event) (a : ℕ)
    → step_of k r s (pay k S a) ≡ d
    → Takes k r s e (pay k S a)
    → length (r.appends s e) ≡ d
taken-long k d r S s e a is t =
    ap length t.appends
    ∙ ap (λ (n : ℕ). length (by_step n t.fill (S a ∷ S (a + 1) ∷ S (a + 2) ∷ []))) is
    ∙ step-long d t.fill (S a) (S (a + 1)) (S (a + 2))

-- the length of a record of two
two-long : {A : Type 0} (r : Receiver A) (s : r.State) (e e2 : r.Event) → length (record_of r s (e ∷ e2 ∷ [])) ≡ length (r.appends s e) + length (r.appends (r.after s e) e2)
two-long r s e e2 =
    length-append (r.appends s e) (r.appends (r.after s e) e2 ++ [])
    ∙ ap (λ (n : ℕ). length (r.appends s e) + n) (length-append (r.appends (r.after s e) e2) [] ∙ add-zero (length (r.appends (r.after s e) e2)))

pub one-more-fails : OneMoreFails
one-more-fails A k far r brings S s e e2 a rule enough less fresh is is2 replays =
    let b : ℕ = a + (far + 1) in
    let s2 : r.State = r.after s e in
    let t = first_taken k far r s e (pay k S a) enough fresh (subst (Acts k far r s e) is (rule s e)) in
    let acts = subst (Acts k far r s2 e2) is2 (rule s2 e2) in
    let here : step k (r.last s2) (b % 2 ^ k) ≡ far + 1 =
    ap (λ (x : ℕ). (b % 2 ^ k + (2 ^ k - x)) % 2 ^ k) t.last ∙ (laws k).steps a (far + 1) less
    in
    let past : far < step k (r.last s2) (b % 2 ^ k) = rw here (omega arith) in
    let late : older far (step_of k r s2 (pay k S b)) ≡ true = rw t.heard (lt-ltb far (step k (r.last s2) (b % 2 ^ k)) past) in
    let left : Leaves r s2 e2 = subst (Meets k r s2 e2 (pay k S b)) late acts in
    let one : length (r.appends s e) ≡ 3 = taken-long k 3 r S s e a (rw fresh refl) t in
    let two : length (r.appends s2 e2) ≡ 0 = ap length left.appends in
    let long : length (record_of r s (e ∷ e2 ∷ [])) ≡ b - a + 3 = replays.long in
    omega (arith, one, two, two-long r s e e2, long)

pub one-more-behind-fails : OneMoreBehindFails
one-more-behind-fails A k far r brings S s e e2 a rule enough less fresh is is2 replays =
    let b : ℕ = a + (2 ^ k - far) in
    let s2 : r.State = r.after s e in
    let t = first_taken k far r s e (pay k S b) enough fresh (subst (Acts k far r s e) is (rule s e)) in
    let acts = subst (Acts k far r s2 e2) is2 (rule s2 e2) in
    let left : 2 ^ k - (2 ^ k - far) ≡ far = omega arith in
    let here : step k (r.last s2) (a % 2 ^ k) ≡ far =
    ap (λ (x : ℕ). (a % 2 ^ k + (2 ^ k - x)) % 2 ^ k) t.last
    ∙ (laws k).behind a (2 ^ k - far) (omega arith) (omega arith)
    ∙ left
    in
    let step-here : step_of k r s2 (pay k S a) ≡ far = rw t.heard here in
    let in-time : older far (step_of k r s2 (pay k S a)) ≡ false = rw step-here (le-ltb far far (omega arith)) in
    let t2 : Takes k r s2 e2 (pay k S a) = subst (Meets k r s2 e2 (pay k S a)) in-time acts in
    let one : length (r.appends s e) ≡ 3 = taken-long k 3 r S s e b (rw fresh refl) t in
    let two : length (r.appends s2 e2) ≡ far = taken-long k far r S s2 e2 a step-here t2 in
    let long : length (record_of r s (e ∷ e2 ∷ [])) ≡ b - b + 3 = replays.long in
    omega (arith, one, two, two-long r s e e2, long)

pub farthest-replays : FarthestReplays
farthest-replays k n room enough =
    let arrivals : List ℕ = 1 ∷ 1 ∷ (n + 1) ∷ 0 ∷ (n + 1) ∷ [] in
    let rises : ltb (n + 1) 1 ≡ false = le-ltb (n + 1) 1 (omega arith) in
    let falls : ltb 0 (n + 1) ≡ true = lt-ltb 0 (n + 1) (omega arith) in
    let again : ltb (n + 1) (n + 1) ≡ false = le-ltb (n + 1) (n + 1) (omega arith) in
    let fresh : fresh_of arrivals ≡ 1 ∷ 1 ∷ (n + 1) ∷ (n + 1) ∷ [] = rw (rises, falls, again) refl in
    let near : Near n (1 ∷ 1 ∷ (n + 1) ∷ (n + 1) ∷ []) = (omega arith, (omega arith, (omega arith, tt))) in
    let behind : Behind (n + 1) arrivals = rw (rises, falls) (omega arith, (omega arith, (omega arith, (omega arith, tt)))) in
    subst (λ (fs : List ℕ). Replays numbers fs (marks_of k n arrivals)) fresh
    (replay ℕ k n (bare k n) some numbers unheard (map (pay k numbers) arrivals) n (n + 1) arrivals (bare-by-rule k n) refl (brought-all (map (pay k numbers) arrivals))
    (record { first = enough; ahead = omega arith; behind = room })
    (record { near = subst (Near n) (sym fresh) near; behind = behind })
    ).replays

pub costs : Costs
costs =
    record {
      long_loss = refl;
      long_loss_of_digits = refl;
      at_rest = refl;
      begun_anew = refl;
      begun_anew_ahead = refl;
      too_far_behind = refl;
      gets_less = refl;
      gets_more = refl;
    }
