-- The replay theorem of specs/Claims.antt: by the arrivals still to come, and by the events that bring them.
use Prim.Native.Nat.{ℕ, zero, suc, ◌+◌, ◌-◌, ◌%◌, ◌^◌, ◌<◌, ◌≤◌}
use mathlib.Core.Path.{◌≡◌, refl, sym, ap, ◌∙◌, subst}
use mathlib.Core.List.{List, [], ◌∷◌, ◌++◌, map}
use mathlib.Core.Bool.{Bool, true, false, cond}
use mathlib.Core.Option.{Option, none, some}
use mathlib.Core.Logic.{⊎_elim}
use native.Mathlib.Nat.{mod-mod}
use native.Mathlib.Omega.{arith}
use borrow.Author.Tests.{lt-ltb, le-ltb, ltb-true}
use lib.Dec.{ltb}
use lib.ListN.{length, length-map, get_or, replicate}
use Rattle.octets.proofs.Order.{lt-or-le}
use Rattle.refusal.specs.Numbers.{sound, number}
use Rattle.counts.specs.Round.{step}
use Rattle.counts.proofs.Laws.{laws}
use Rattle.replay.specs.Rule.{older, fill_count}
use Rattle.replay.specs.Periods.{Payload, pay, Mark, filled, carried, told, held_at, covered, cell, range, first_of, last_from, span_of, fresh_from, fresh_of, due_from, due_of, BehindFrom, Behind}
use Rattle.replay.specs.Claims.{Receiver, record_of, by_step, step_of, Takes, Passes, Leaves, Meets, Acts, ByRule, Told, joined_to, brought_by, answer_to, answers_of, Replays, Replay, SecondKeeps, TwoReceivers}
use Rattle.replay.proofs.Ranges.{map-append, map-replicate, length-range, range-append, map_range, map-constant, inside, outside, here, before, beyond, last-low, none_before, none-beyond, covers_more, Chain, Close, close}
use Rattle.refusal.specs.declared.Refusal.TheVariants.{OlderPayload}

cell-true : {A : Type 0} (S : ℕ → A) (arrivals : List ℕ) (j : ℕ) → covered arrivals j ≡ true → cell S arrivals j ≡ some (S j)
cell-true S arrivals j e = simp e

cell-false : {A : Type 0} (S : ℕ → A) (arrivals : List ℕ) (j : ℕ) → covered arrivals j ≡ false → cell S arrivals j ≡ none
cell-false S arrivals j e = simp e

two : {A : Type 0} {a a2 b b2 : A} → a ≡ a2 → b ≡ b2 → a ∷ b ∷ [] ≡ a2 ∷ b2 ∷ []
two p q = cc

pub three : {A : Type 0} {a a2 b b2 c c2 : A} → a ≡ a2 → b ≡ b2 → c ≡ c2 → a ∷ b ∷ c ∷ [] ≡ a2 ∷ b2 ∷ c2 ∷ []
three p q r = cc

-- What a step of d appends: the cells from a + 3 on, where the payload b = a + d arrives.
module _ {A : Type 0} (S : ℕ → A) (more : List ℕ) (gap : ℕ) (fill : A) where
  abbrev windows : ℕ → List A
  windows b = S b ∷ S (b + 1) ∷ S (b + 2) ∷ []

  -- a window of the payload b, at its period j
  at-window : (b j w : ℕ) → j ≡ w → b ≤ w → w ≤ b + 2 → some (S w) ≡ cell S (b ∷ more) j
  at-window b j w e low high =
      ap (λ (x : ℕ). some (S x)) (sym e) ∙ sym (cell-true S (b ∷ more) j (here b j more (omega arith) (omega arith)))

  low-cells : (a b n : ℕ) → b ≡ a + (3 + n) → Chain gap b more → replicate n none ≡ map (cell S (b ∷ more)) (range (a + 3) n)
  low-cells a b n e c =
      sym
      (map_range (cell S (b ∷ more)) (λ (j : ℕ). none) (a + 3) n
      (λ j low high.
      let less : j < b = omega arith in
      cell-false S (b ∷ more) j (before b j more less ∙ none_before gap b j more c less))
      ∙ map-constant none (a + 3) n)

  high-cells : (s b : ℕ) → s ≡ b → map told (map carried (windows b)) ≡ map (cell S (b ∷ more)) (range s 3)
  high-cells s b e =
      let p : some (S b) ≡ cell S (b ∷ more) s = at-window b s b e (omega arith) (omega arith) in
      let q : some (S (b + 1)) ≡ cell S (b ∷ more) (suc s) = at-window b (suc s) (b + 1) (omega arith) (omega arith) (omega arith) in
      let r : some (S (b + 2)) ≡ cell S (b ∷ more) (suc (suc s)) = at-window b (suc (suc s)) (b + 2) (omega arith) (omega arith) (omega arith) in
      three p q r

  step-cells : (d a b : ℕ) → b ≡ a + d → Chain gap b more → map told (by_step d fill (windows b)) ≡ map (cell S (b ∷ more)) (range (a + 3) d)
  step-cells zero a b e c = refl
  step-cells (suc zero) a b e c =
      let r : some (S (b + 2)) ≡ cell S (b ∷ more) (a + 3) = at-window b (a + 3) (b + 2) (omega arith) (omega arith) (omega arith) in
      ap (λ (x : Option A). x ∷ []) r
  step-cells (suc (suc zero)) a b e c =
      let q : some (S (b + 1)) ≡ cell S (b ∷ more) (a + 3) = at-window b (a + 3) (b + 1) (omega arith) (omega arith) (omega arith) in
      let r : some (S (b + 2)) ≡ cell S (b ∷ more) (suc (a + 3)) = at-window b (suc (a + 3)) (b + 2) (omega arith) (omega arith) (omega arith) in
      two q r
  step-cells (suc (suc (suc n))) a b e c =
      let fills : fill_count (suc (suc (suc n))) ≡ n = omega arith in
      let none_left : 3 - suc (suc (suc n)) ≡ 0 = omega arith in
      let parts : suc (suc (suc n)) ≡ n + 3 = omega arith in
      let sum : b ≡ a + (3 + n) = omega arith in
      let start : a + 3 + n ≡ b = omega arith in
      let left : map told (by_step (suc (suc (suc n))) fill (windows b)) ≡ replicate n none ++ map told (map carried (windows b)) =
      rw (fills, none_left)
      (map-append told (replicate n (filled fill)) (map carried (windows b))
      ∙ ap (λ (x : List (Option A)). x ++ map told (map carried (windows b))) (map-replicate told n (filled fill)))
      in
      let right : map (cell S (b ∷ more)) (range (a + 3) (suc (suc (suc n)))) ≡ map (cell S (b ∷ more)) (range (a + 3) n) ++ map (cell S (b ∷ more)) (range (a + 3 + n) 3) =
      ap (λ (m : ℕ). map (cell S (b ∷ more)) (range (a + 3) m)) parts
      ∙ ap (map (cell S (b ∷ more))) (range-append (a + 3) n 3)
      ∙ map-append (cell S (b ∷ more)) (range (a + 3) n) (range (a + 3 + n) 3)
      in
      left
      ∙ ap (λ (x : List (Option A)). x ++ map told (map carried (windows b))) (low-cells a b n sum c)
      ∙ ap (λ (x : List (Option A)). map (cell S (b ∷ more)) (range (a + 3) n) ++ x) (high-cells (a + 3 + n) b start)
      ∙ sym right

no_payload : {A B : Type 0} {b : A} {bs : List A} → [] ≡ b ∷ bs → B
no_payload e = let z : ◌≡◌ {A = ℕ} 0 1 = cc in absurd (omega arith)

head-is : {A : Type 0} {a b : A} {xs ys : List A} → a ∷ xs ≡ b ∷ ys → a ≡ b
head-is e = cc

tail-is : {A : Type 0} {a b : A} {xs ys : List A} → a ∷ xs ≡ b ∷ ys → xs ≡ ys
tail-is e = cc

module _ {A : Type 0} (k far : ℕ) (r : Receiver A) (brings : r.Event → Option (Payload A)) (S : ℕ → A) (gap back : ℕ) (apart : Told k far gap back) where
  -- the record of some events has the cells of n periods from s on
  abbrev Shows : r.State → List r.Event → List ℕ → ℕ → ℕ → Type 0
  Shows s es arrivals from n = map told (record_of r s es) ≡ map (cell S arrivals) (range from n)

  -- what is answered to an event that brings o, and after it
  abbrev Answers : r.State → (e : r.Event) → Option (Payload A) → List r.Event → List ℕ → Type 0
  Answers s e o es due = answer_to o (r.number s e) (answers_of r brings (r.after s e) es) ≡ due

  answer : (s : r.State) (e : r.Event) (p : Payload A) (es : List r.Event) (n : ℕ) (due : List ℕ) → r.number s e ≡ n → answers_of r brings (r.after s e) es ≡ due → Answers s e (some p) es (n ∷ due)
  answer s e p es n due is rest = cc

  -- what passes leaves the record to the events after it
  passed : (s : r.State) (e : r.Event) (es : List r.Event) (arrivals : List ℕ) (from n : ℕ) → Passes k r s e → Shows (r.after s e) es arrivals from n → Shows s (e ∷ es) arrivals from n
  passed s e es arrivals from n p shows = ap (λ (x : List (Mark A)). map told (x ++ record_of r (r.after s e) es)) p.appends ∙ shows

  -- a payload b taken with a step of d, and the events after it
  took : (s : r.State) (e : r.Event) (es : List r.Event) (b : ℕ) (bs : List ℕ) (from d : ℕ)
      → Chain gap b bs
      → map told (r.appends s e) ≡ map (cell S (b ∷ bs)) (range from d)
      → from + d ≡ b + 3
      → Shows (r.after s e) es bs (b + 3) (last_from b bs - b)
      → Shows s (e ∷ es) (b ∷ bs) from (d + (last_from b bs - b))
  took s e es b bs from d chain shown sum shows =
      let n : ℕ = last_from b bs - b in
      let further : map (cell S bs) (range (b + 3) n) ≡ map (cell S (b ∷ bs)) (range (b + 3) n) =
      map_range (cell S bs) (cell S (b ∷ bs)) (b + 3) n (λ j low high. ap (λ (t : Bool). cond t (some (S j)) none) (sym (beyond b j bs (omega arith))))
      in
      map-append told (r.appends s e) (record_of r (r.after s e) es)
      ∙ ap (λ (x : List (Option A)). x ++ map told (record_of r (r.after s e) es)) shown
      ∙ ap (λ (x : List (Option A)). map (cell S (b ∷ bs)) (range from d) ++ x) (shows ∙ further)
      ∙ ap (λ (m : ℕ). map (cell S (b ∷ bs)) (range from d) ++ map (cell S (b ∷ bs)) (range m n)) (sym sum)
      ∙ sym (map-append (cell S (b ∷ bs)) (range from d) (range (from + d) n))
      ∙ ap (map (cell S (b ∷ bs))) (sym (range-append from d n))

  -- the step from a to b, which is at most the gap
  step_is : (last a b : ℕ) → last % 2 ^ k ≡ a % 2 ^ k → a ≤ b → b ≤ a + gap → step k last (b % 2 ^ k) ≡ b - a
  step_is last a b e low high =
      let ahead : gap ≤ far = apart.ahead in
      let room : far + back < 2 ^ k = apart.behind in
      let sum : b ≡ a + (b - a) = omega arith in
      let small : b - a < 2 ^ k = omega arith in
      ap (λ (x : ℕ). (b % 2 ^ k + (2 ^ k - x)) % 2 ^ k) (e ∙ sym (mod-mod a (2 ^ k)))
      ∙ ap (λ (x : ℕ). step k (a % 2 ^ k) (x % 2 ^ k)) sum
      ∙ (laws k).steps a (b - a) small

  -- the step from a back to b, which is not far behind
  step_back : (last a b : ℕ) → last % 2 ^ k ≡ a % 2 ^ k → b < a → a ≤ b + back → far < step k last (b % 2 ^ k)
  step_back last a b e less near =
      let room : far + back < 2 ^ k = apart.behind in
      let sum : b + (a - b) ≡ a = omega arith in
      let is : step k last (b % 2 ^ k) ≡ 2 ^ k - (a - b) =
      ap (λ (x : ℕ). (b % 2 ^ k + (2 ^ k - x)) % 2 ^ k) (e ∙ sym (mod-mod a (2 ^ k)))
      ∙ ap (λ (x : ℕ). step k (x % 2 ^ k) (b % 2 ^ k)) (sym sum)
      ∙ (laws k).behind b (a - b) (omega arith) (omega arith)
      in
      rw is (omega arith)

  -- after the payload a: the arrivals still to come
  abbrev Later : List r.Event → Type 0
  Later es =
      (s : r.State) (a : ℕ) (more : List ℕ)
      → r.heard s ≡ true
      → r.last s % 2 ^ k ≡ a % 2 ^ k
      → Chain gap a (fresh_from a more)
      → BehindFrom back a more
      → brought_by brings es ≡ map (pay k S) more
      → Shows s es (fresh_from a more) (a + 3) (last_from a (fresh_from a more) - a) × (answers_of r brings s es ≡ due_from a more)

  later-takes : (e : r.Event) (es : List r.Event) → Later es → (s : r.State) (a b : ℕ) (bs : List ℕ)
      → Takes k r s e (pay k S b)
      → r.heard s ≡ true
      → r.last s % 2 ^ k ≡ a % 2 ^ k
      → Chain gap a (b ∷ fresh_from b bs)
      → BehindFrom back b bs
      → brought_by brings es ≡ map (pay k S) bs
      → Shows s (e ∷ es) (b ∷ fresh_from b bs) (a + 3) (last_from b (fresh_from b bs) - a) × Answers s e (some (pay k S b)) es (sound ∷ due_from b bs)
  later-takes e es after s a b bs t heard last chain behind brought =
      let fs : List ℕ = fresh_from b bs in
      let low : a ≤ b = chain.0 in
      let high : b ≤ a + gap = chain.1 in
      let end : b ≤ last_from b fs = last-low gap b fs chain.2 in
      let step-taken : step_of k r s (pay k S b) ≡ b - a = rw heard (step_is (r.last s) a b last low high) in
      let shown : map told (r.appends s e) ≡ map (cell S (b ∷ fs)) (range (a + 3) (b - a)) =
      ap (map told) t.appends
      ∙ ap (λ (d : ℕ). map told (by_step d t.fill (S b ∷ S (b + 1) ∷ S (b + 2) ∷ []))) step-taken
      ∙ step-cells S fs gap t.fill (b - a) a b (omega arith) chain.2
      in
      let rest = after (r.after s e) b bs t.heard (t.last ∙ mod-mod b (2 ^ k)) chain.2 behind brought in
      let sum : a + 3 + (b - a) ≡ b + 3 = omega arith in
      let parts : b - a + (last_from b fs - b) ≡ last_from b fs - a = omega arith in (
        took s e es b fs (a + 3) (b - a) chain.2 shown sum rest.0 ∙ ap (λ (n : ℕ). map (cell S (b ∷ fs)) (range (a + 3) n)) parts,
        answer s e (pay k S b) es sound (due_from b bs) t.number rest.1,
      )

  later-leaves : (e : r.Event) (es : List r.Event) → Later es → (s : r.State) (a b : ℕ) (bs : List ℕ)
      → Leaves r s e
      → r.heard s ≡ true
      → r.last s % 2 ^ k ≡ a % 2 ^ k
      → Chain gap a (fresh_from a bs)
      → BehindFrom back a bs
      → brought_by brings es ≡ map (pay k S) bs
      → Shows s (e ∷ es) (fresh_from a bs) (a + 3) (last_from a (fresh_from a bs) - a) × Answers s e (some (pay k S b)) es (number OlderPayload ∷ due_from a bs)
  later-leaves e es after s a b bs left heard last chain behind brought =
      let rest = after s a bs heard last chain behind brought in (
        ap (λ (x : List (Mark A)). map told (x ++ record_of r (r.after s e) es)) left.appends
            ∙ ap (λ (x : r.State). map told (record_of r x es)) left.stands
            ∙ rest.0,
        answer s e (pay k S b) es (number OlderPayload) (due_from a bs) left.number (ap (λ (x : r.State). answers_of r brings x es) left.stands ∙ rest.1),
      )

  -- by whether b is behind
  later-meets : (e : r.Event) (es : List r.Event) → Later es → (s : r.State) (a b : ℕ) (bs : List ℕ) (t : Bool)
      → ltb b a ≡ t
      → Acts k far r s e (some (pay k S b))
      → r.heard s ≡ true
      → r.last s % 2 ^ k ≡ a % 2 ^ k
      → Chain gap a (cond t (fresh_from a bs) (b ∷ fresh_from b bs))
      → a ≤ b + back
      → BehindFrom back (cond t a b) bs
      → brought_by brings es ≡ map (pay k S) bs
      → Shows s (e ∷ es) (cond t (fresh_from a bs) (b ∷ fresh_from b bs)) (a + 3) (last_from a (cond t (fresh_from a bs) (b ∷ fresh_from b bs)) - a)
      × Answers s e (some (pay k S b)) es (cond t (number OlderPayload ∷ due_from a bs) (sound ∷ due_from b bs))
  later-meets e es after s a b bs true is meets heard last chain near behind brought =
      let step-here : ℕ = step k (r.last s) (b % 2 ^ k) in
      let late : older far (step_of k r s (pay k S b)) ≡ true = rw heard (lt-ltb far step-here (step_back (r.last s) a b last (ltb-true b a is) near)) in
      later-leaves e es after s a b bs (subst (Meets k r s e (pay k S b)) late meets) heard last chain behind brought
  later-meets e es after s a b bs false is meets heard last chain near behind brought =
      let ahead : gap ≤ far = apart.ahead in
      let high : b ≤ a + gap = chain.1 in
      let step-here : step k (r.last s) (b % 2 ^ k) ≡ b - a = step_is (r.last s) a b last chain.0 high in
      let within : step k (r.last s) (b % 2 ^ k) ≤ far = rw step-here (omega arith) in
      let in-time : older far (step_of k r s (pay k S b)) ≡ false = rw heard (le-ltb far (step k (r.last s) (b % 2 ^ k)) within) in
      later-takes e es after s a b bs (subst (Meets k r s e (pay k S b)) in-time meets) heard last chain behind brought

  later-event : (e : r.Event) (es : List r.Event) → Later es → (s : r.State) (a : ℕ) (o : Option (Payload A)) (more : List ℕ)
      → Acts k far r s e o
      → r.heard s ≡ true
      → r.last s % 2 ^ k ≡ a % 2 ^ k
      → Chain gap a (fresh_from a more)
      → BehindFrom back a more
      → joined_to o (brought_by brings es) ≡ map (pay k S) more
      → Shows s (e ∷ es) (fresh_from a more) (a + 3) (last_from a (fresh_from a more) - a) × Answers s e o es (due_from a more)
  later-event e es after s a none more p heard last chain behind brought =
      let rest = after (r.after s e) a more (p.heard ∙ heard) (p.last ∙ last) chain behind brought in
      (passed s e es (fresh_from a more) (a + 3) (last_from a (fresh_from a more) - a) p rest.0, rest.1)
  later-event e es after s a (some p) [] acts heard last chain behind brought = no_payload (sym brought)
  later-event e es after s a (some p) (b ∷ bs) acts heard last chain behind brought =
      later-meets e es after s a b bs (ltb b a) refl (subst (λ (q : Payload A). Acts k far r s e (some q)) (head-is brought) acts) heard last chain behind.0 behind.1 (tail-is brought)

  later : ByRule k far r brings → (es : List r.Event) → Later es
  later rule [] s a [] heard last chain behind brought = let nought : a - a ≡ 0 = omega arith in (rw nought refl, refl)
  later rule [] s a (b ∷ bs) heard last chain behind brought = no_payload brought
  later rule (e ∷ es) s a more heard last chain behind brought =
      later-event e es (later rule es) s a (brings e) more (rule s e) heard last chain behind brought

  -- from a fresh receiver on
  abbrev First : List r.Event → Type 0
  First es =
      (s : r.State) (arrivals : List ℕ)
      → r.heard s ≡ false
      → Close gap (fresh_of arrivals)
      → Behind back arrivals
      → brought_by brings es ≡ map (pay k S) arrivals
      → Shows s es (fresh_of arrivals) (first_of (fresh_of arrivals)) (span_of (fresh_of arrivals)) × (answers_of r brings s es ≡ due_of arrivals)

  first-takes : ByRule k far r brings → (e : r.Event) (es : List r.Event) (s : r.State) (a : ℕ) (more : List ℕ)
      → Takes k r s e (pay k S a)
      → r.heard s ≡ false
      → Chain gap a (fresh_from a more)
      → BehindFrom back a more
      → brought_by brings es ≡ map (pay k S) more
      → Shows s (e ∷ es) (a ∷ fresh_from a more) a (last_from a (fresh_from a more) - a + 3) × Answers s e (some (pay k S a)) es (sound ∷ due_from a more)
  first-takes rule e es s a more t heard chain behind brought =
      let fs : List ℕ = fresh_from a more in
      let step-taken : step_of k r s (pay k S a) ≡ 3 = rw heard refl in
      let shown : map told (r.appends s e) ≡ map (cell S (a ∷ fs)) (range a 3) =
      ap (map told) t.appends
      ∙ ap (λ (d : ℕ). map told (by_step d t.fill (S a ∷ S (a + 1) ∷ S (a + 2) ∷ []))) step-taken
      ∙ high-cells S fs gap t.fill a a refl
      in
      let rest = later rule es (r.after s e) a more t.heard (t.last ∙ mod-mod a (2 ^ k)) chain behind brought in
      let parts : 3 + (last_from a fs - a) ≡ last_from a fs - a + 3 = omega arith in (
        took s e es a fs a 3 chain shown refl rest.0 ∙ ap (λ (n : ℕ). map (cell S (a ∷ fs)) (range a n)) parts,
        answer s e (pay k S a) es sound (due_from a more) t.number rest.1,
      )

  first-event : ByRule k far r brings → (e : r.Event) (es : List r.Event) → First es → (s : r.State) (o : Option (Payload A)) (arrivals : List ℕ)
      → Acts k far r s e o
      → r.heard s ≡ false
      → Close gap (fresh_of arrivals)
      → Behind back arrivals
      → joined_to o (brought_by brings es) ≡ map (pay k S) arrivals
      → Shows s (e ∷ es) (fresh_of arrivals) (first_of (fresh_of arrivals)) (span_of (fresh_of arrivals)) × Answers s e o es (due_of arrivals)
  first-event rule e es after s none arrivals p heard close behind brought =
      let rest = after (r.after s e) arrivals (p.heard ∙ heard) close behind brought in
      (passed s e es (fresh_of arrivals) (first_of (fresh_of arrivals)) (span_of (fresh_of arrivals)) p rest.0, rest.1)
  first-event rule e es after s (some p) [] acts heard close behind brought = no_payload (sym brought)
  first-event rule e es after s (some p) (a ∷ more) acts heard close behind brought =
      let meets : Acts k far r s e (some (pay k S a)) = subst (λ (q : Payload A). Acts k far r s e (some q)) (head-is brought) acts in
      let in-time : older far (step_of k r s (pay k S a)) ≡ false = rw heard (le-ltb far 3 apart.first) in
      first-takes rule e es s a more (subst (Meets k r s e (pay k S a)) in-time meets) heard close behind (tail-is brought)

  first : ByRule k far r brings → (es : List r.Event) → First es
  first rule [] s [] heard close behind brought = (refl, refl)
  first rule [] s (a ∷ more) heard close behind brought = no_payload brought
  first rule (e ∷ es) s arrivals heard close behind brought =
      first-event rule e es (first rule es) s (brings e) arrivals (rule s e) heard close behind brought

-- Place by place.
module _ {A : Type 0} (S : ℕ → A) (gap : ℕ) (marks : List (Mark A)) where
  held : (first n j : ℕ) (arrivals : List ℕ)
      → map told marks ≡ map (cell S arrivals) (range first n)
      → (j < first → covered arrivals j ≡ false)
      → (first + n ≤ j → covered arrivals j ≡ false)
      → held_at first marks j ≡ cell S arrivals j
  held first n j arrivals e low high = ⊎_elim early (λ here. ⊎_elim (within here) (late here) (lt-or-le (j - first) n)) (lt-or-le j first)
    where
      early : j < first → held_at first marks j ≡ cell S arrivals j
      early less = let out : cell S arrivals j ≡ none = cell-false S arrivals j (low less) in simp (lt-ltb j first less, out)

      at_place : first ≤ j → held_at first marks j ≡ get_or (map (cell S arrivals) (range first n)) (j - first) none
      at_place here = let there : ltb j first ≡ false = le-ltb j first here in rw (there, e) refl

      within : first ≤ j → j - first < n → held_at first marks j ≡ cell S arrivals j
      within here less = at_place here ∙ inside (cell S arrivals) first n (j - first) none less ∙ ap (cell S arrivals) (omega arith)

      late : first ≤ j → n ≤ j - first → held_at first marks j ≡ cell S arrivals j
      late here more = at_place here ∙ outside (cell S arrivals) first n (j - first) none more ∙ sym (cell-false S arrivals j (high (omega arith)))

  none_first : (a : ℕ) (more : List ℕ) (j : ℕ) → Chain gap a more → j < a → covered (a ∷ more) j ≡ false
  none_first a more j chain less = before a j more less ∙ none_before gap a j more chain less

  none_last : (a : ℕ) (more : List ℕ) (j : ℕ) → Chain gap a more → a + (last_from a more - a + 3) ≤ j → covered (a ∷ more) j ≡ false
  none_last a more j chain far =
      let low : a ≤ last_from a more = last-low gap a more chain in
      let past : last_from a more + 2 < j = omega arith in
      beyond a j more (omega arith) ∙ none-beyond gap a j more chain past

  by_place : (arrivals : List ℕ) → Close gap arrivals → map told marks ≡ map (cell S arrivals) (range (first_of arrivals) (span_of arrivals)) → Replays S arrivals marks
  by_place arrivals close e =
      record {
        long = sym (length-map marks told) ∙ ap length e ∙ length-map (range (first_of arrivals) (span_of arrivals)) (cell S arrivals) ∙ length-range (first_of arrivals) (span_of arrivals);
        whole = e;
        place = λ j. place arrivals j close e;
      }
    where
      place : (arrivals : List ℕ) (j : ℕ) → Close gap arrivals → map told marks ≡ map (cell S arrivals) (range (first_of arrivals) (span_of arrivals)) → held_at (first_of arrivals) marks j ≡ cell S arrivals j
      place [] j close e = held 0 0 j [] e (λ less. refl) (λ far. refl)
      place (a ∷ more) j close e = held a (last_from a more - a + 3) j (a ∷ more) e (none_first a more j close) (none_last a more j close)

pub replay : Replay
replay A k far r brings S s es gap back arrivals rule fresh brought apart arriving =
    let c = close gap arrivals arriving.near in
    let shown = first k far r brings S gap back apart rule es s arrivals fresh c arriving.behind brought in
    record { replays = by_place S gap (record_of r s es) (fresh_of arrivals) c shown.0; answers = shown.1 }

-- what a cell holds is the sender's, and is covered
cell-some : {A : Type 0} (t : Bool) (a b : A) → cond t (some a) none ≡ some b → (t ≡ true) × (a ≡ b)
cell-some true a b e = (refl, cc)
cell-some false a b e = let z : ◌≡◌ {A = ℕ} 0 1 = cc in absurd (omega arith)

pub second-keeps : SecondKeeps
second-keeps A S arrivals others marks marks2 among one two j a e =
    let given = cell-some (covered arrivals j) (S j) a (sym (one.place j) ∙ e) in
    two.place j ∙ cell-true S others j (covers_more arrivals others j among given.0) ∙ ap some given.1

pub two-receivers : TwoReceivers
two-receivers A k far r brings S s es es2 gap back arrivals others rule fresh brought brought2 apart arriving arriving2 among =
    let one = replay A k far r brings S s es gap back arrivals rule fresh brought apart arriving in
    let two = replay A k far r brings S s es2 gap back others rule fresh brought2 apart arriving2 in
    record {
      both =
          record {
            first = one.replays;
            second = two.replays;
            keeps = second-keeps A S (fresh_of arrivals) (fresh_of others) (record_of r s es) (record_of r s es2) among one.replays two.replays;
          };
      answers = one.answers;
      answers2 = two.answers;
    }
