-- The replay theorem, once over the width k and the kind A of a period: what a receiver that goes by the rule of Rule.antt
-- answers, and has in its record, when payloads of one sender arrive (document 01, "Receivers"; demand 3, as document 02, wish 3
-- reads it). `Replay` says it of one receiver, `TwoReceivers` of two. Proved in proofs/Replay.antt.
use Rattle.std.specs.Prelude.{ℕ, ◌+◌, ◌%◌, ◌^◌, ◌<◌, ◌≤◌, ◌≡◌, List, [], ◌∷◌, ◌++◌, map, Bool, true, false, length, replicate}
use Rattle.std.proofs.Math.Option.{Option, none, some}
use Rattle.refusal.specs.Numbers.{sound, number}
use Rattle.counts.specs.Round.{step}
use Rattle.replay.specs.Rule.{step_taken, older, fill_count, newest}
use Rattle.replay.specs.Periods.{Payload, pay, Mark, filled, carried, told, held_at, cell, range, first_of, span_of, fresh_of, due_of, sound_of, Near, Behind, Among}
use Rattle.refusal.specs.declared.Refusal.TheVariants.{OlderPayload}

-- A receiver: whether it has heard a payload, the last sequence, and the number that it answers to an event (a payload, or anything
-- else), what that appends to its record and leaves as its state. A state may hold more than these two.
pub record Receiver (A : Type 0) : Type 1 where
  pub State : Type 0
  pub Event : Type 0
  pub heard : State → Bool
  pub last : State → ℕ
  pub number : State → Event → ℕ
  pub appends : State → Event → List (Mark A)
  pub after : State → Event → State

-- The record: what the events append, one after the other.
abbrev pub record_of : {A : Type 0} (r : Receiver A) → r.State → List r.Event → List (Mark A)
record_of r s [] = []
record_of r s (e ∷ es) = r.appends s e ++ record_of r (r.after s e) es

-- What the rule appends at a step: filled periods, then the newest windows, marked carried.
abbrev pub by_step : {A : Type 0} → ℕ → A → List A → List (Mark A)
by_step step fill windows = replicate (fill_count step) (filled fill) ++ map carried (newest step windows)

-- the step that a payload takes
abbrev pub step_of : {A : Type 0} (k : ℕ) (r : Receiver A) → r.State → Payload A → ℕ
step_of k r s p = step_taken (r.heard s) (step k (r.last s) p.number)

-- A payload is taken by the rule, with any fill content. The sequence is compared round the width.
pub record Takes {A : Type 0} (k : ℕ) (r : Receiver A) (s : r.State) (e : r.Event) (p : Payload A) : Type 0 where
  pub fill : A
  pub number : r.number s e ≡ sound
  pub appends : r.appends s e ≡ by_step (step_of k r s p) fill p.windows
  pub heard : r.heard (r.after s e) ≡ true
  pub last : r.last (r.after s e) % 2 ^ k ≡ p.number % 2 ^ k

-- Anything else appends nothing and leaves the sequence; the rest of the state may change.
pub record Passes {A : Type 0} (k : ℕ) (r : Receiver A) (s : r.State) (e : r.Event) : Type 0 where
  pub appends : r.appends s e ≡ []
  pub heard : r.heard (r.after s e) ≡ r.heard s
  pub last : r.last (r.after s e) % 2 ^ k ≡ r.last s % 2 ^ k

-- An older payload changes nothing: the whole state stands.
pub record Leaves {A : Type 0} (r : Receiver A) (s : r.State) (e : r.Event) : Type 0 where
  pub number : r.number s e ≡ number OlderPayload
  pub appends : r.appends s e ≡ []
  pub stands : r.after s e ≡ s

-- by whether it is older
abbrev pub Meets : {A : Type 0} (k : ℕ) (r : Receiver A) → r.State → r.Event → Payload A → Bool → Type 0
Meets k r s e p true = Leaves r s e
Meets k r s e p false = Takes k r s e p

-- `far` is the farthest step that is replayed
abbrev pub Acts : {A : Type 0} (k far : ℕ) (r : Receiver A) → r.State → r.Event → Option (Payload A) → Type 0
Acts k far r s e none = Passes k r s e
Acts k far r s e (some p) = Meets k r s e p (older far (step_of k r s p))

-- A receiver goes by the rule, where `brings` tells the payload that an event brings, if any.
abbrev pub ByRule : {A : Type 0} (k far : ℕ) (r : Receiver A) → (r.Event → Option (Payload A)) → Type 0
ByRule k far r brings = (s : r.State) (e : r.Event) → Acts k far r s e (brings e)

-- the payloads that some events bring
abbrev pub joined_to : {A : Type 0} → Option A → List A → List A
joined_to none ps = ps
joined_to (some p) ps = p ∷ ps

abbrev pub brought_by : {E P : Type 0} → (E → Option P) → List E → List P
brought_by brings [] = []
brought_by brings (e ∷ es) = joined_to (brings e) (brought_by brings es)

-- what is answered to them
abbrev pub answer_to : {P : Type 0} → Option P → ℕ → List ℕ → List ℕ
answer_to none number numbers = numbers
answer_to (some p) number numbers = number ∷ numbers

abbrev pub answers_of : {A : Type 0} (r : Receiver A) → (r.Event → Option (Payload A)) → r.State → List r.Event → List ℕ
answers_of r brings s [] = []
answers_of r brings s (e ∷ es) = answer_to (brings e) (r.number s e) (answers_of r brings (r.after s e) es)

-- A record as the sender's periods S and the arrivals demand it: as long as the stretch from two periods before the first
-- arrival to the last; and each period of the sender is marked carried exactly when its own payload or one of the next two arrived, and then
-- holds what the sender put there. A period outside the record is marked nothing, and none of those payloads arrived.
pub record Replays {A : Type 0} (S : ℕ → A) (arrivals : List ℕ) (marks : List (Mark A)) : Type 0 where
  pub long : length marks ≡ span_of arrivals
  pub whole : map told marks ≡ map (cell S arrivals) (range (first_of arrivals) (span_of arrivals))
  pub place : (j : ℕ) → held_at (first_of arrivals) marks j ≡ cell S arrivals j

-- The arrivals that are due a 0 are exactly the fresh ones.
abbrev pub FreshAreSound : Type 0
FreshAreSound = (arrivals : List ℕ) → sound_of (due_of arrivals) arrivals ≡ fresh_of arrivals

-- Gaps, and arrivals so far behind, that the step still tells apart; and a first payload is replayed.
pub record Told (k far gap back : ℕ) : Type 0 where
  pub first : 3 ≤ far
  pub ahead : gap ≤ far
  pub behind : far + back < 2 ^ k

-- What is asked of the arrivals at a receiver.
pub record Arriving (gap back : ℕ) (arrivals : List ℕ) : Type 0 where
  pub near : Near gap (fresh_of arrivals)
  pub behind : Behind back arrivals

-- A receiver's record and answers, as the sender's periods and all arrivals demand them: the record is that of the fresh ones, and
-- it answers 0 to exactly these and 19 to the others.
pub record Takings {A : Type 0} (S : ℕ → A) (arrivals : List ℕ) (marks : List (Mark A)) (numbers : List ℕ) : Type 0 where
  pub replays : Replays S (fresh_of arrivals) marks
  pub answers : numbers ≡ due_of arrivals

-- What holds of a sender and a fresh receiver, with any events in between that bring no payload.
abbrev pub Replay : Type 1
Replay =
    (A : Type 0) (k far : ℕ) (r : Receiver A) (brings : r.Event → Option (Payload A)) (S : ℕ → A) (s : r.State) (es : List r.Event) (gap back : ℕ) (arrivals : List ℕ)
    → ByRule k far r brings
    → r.heard s ≡ false
    → brought_by brings es ≡ map (pay k S) arrivals
    → Told k far gap back
    → Arriving gap back arrivals
    → Takings S arrivals (record_of r s es) (answers_of r brings s es)

-- "whatever the first marks carried, the second marks carried with the same content"
abbrev pub Keeps : {A : Type 0} → List ℕ → List (Mark A) → List ℕ → List (Mark A) → Type 0
Keeps {A} arrivals marks arrivals2 marks2 = (j : ℕ) (a : A) → held_at (first_of arrivals) marks j ≡ some a → held_at (first_of arrivals2) marks2 j ≡ some a

abbrev pub SecondKeeps : Type 1
SecondKeeps =
    (A : Type 0) (S : ℕ → A) (arrivals arrivals2 : List ℕ) (marks marks2 : List (Mark A))
    → Among arrivals arrivals2
    → Replays S arrivals marks
    → Replays S arrivals2 marks2
    → Keeps arrivals marks arrivals2 marks2

-- Demand 3 of two receivers: each replays, and the second keeps what the first has.
pub record BothReplay {A : Type 0} (S : ℕ → A) (arrivals : List ℕ) (marks : List (Mark A)) (arrivals2 : List ℕ) (marks2 : List (Mark A)) : Type 0 where
  pub first : Replays S arrivals marks
  pub second : Replays S arrivals2 marks2
  pub keeps : Keeps arrivals marks arrivals2 marks2

-- And as document 02, wish 3, reads it, of all that arrived: the fresh ones are replayed, and each receiver answers 0 to
-- exactly these and 19 to the others.
pub record BothTake {A : Type 0} (S : ℕ → A) (arrivals : List ℕ) (marks : List (Mark A)) (numbers : List ℕ) (arrivals2 : List ℕ) (marks2 : List (Mark A)) (numbers2 : List ℕ) : Type 0 where
  pub both : BothReplay S (fresh_of arrivals) marks (fresh_of arrivals2) marks2
  pub answers : numbers ≡ due_of arrivals
  pub answers2 : numbers2 ≡ due_of arrivals2

-- Two fresh receivers, "where the second receiver's fresh ones include all of the first's": a payload and its static repeat have
-- one number, and count as one.
abbrev pub TwoReceivers : Type 1
TwoReceivers =
    (A : Type 0) (k far : ℕ) (r : Receiver A) (brings : r.Event → Option (Payload A)) (S : ℕ → A) (s : r.State) (es es2 : List r.Event) (gap back : ℕ) (arrivals arrivals2 : List ℕ)
    → ByRule k far r brings
    → r.heard s ≡ false
    → brought_by brings es ≡ map (pay k S) arrivals
    → brought_by brings es2 ≡ map (pay k S) arrivals2
    → Told k far gap back
    → Arriving gap back arrivals
    → Arriving gap back arrivals2
    → Among (fresh_of arrivals) (fresh_of arrivals2)
    → BothTake S arrivals (record_of r s es) (answers_of r brings s es) arrivals2 (record_of r s es2) (answers_of r brings s es2)
