-- Periods and arrivals by number. The periods of a sender are S: "Periods are counted as sent, two of the start state before
-- them", so S 0 and S 1 are the start state, and the payload number i, from 0, has the windows S i, S (i + 1), S (i + 2), oldest
-- first. Its own period is S (i + 2); "two periods before" it is S i.
use Rattle.std.specs.Prelude.{ℕ, zero, suc, ◌+◌, ◌-◌, ◌%◌, ◌^◌, ◌≤◌, ◌≡◌, List, [], ◌∷◌, map, Bool, true, false, cond, ltb, eqb, get_or}
use Rattle.std.proofs.Math.Option.{Option, none, some}
use Rattle.refusal.specs.Numbers.{sound, number}
use Rattle.refusal.specs.declared.Refusal.TheVariants.{OlderPayload}

-- What a payload brings: its sequence, and its three windows, oldest first.
pub record Payload (A : Type 0) : Type 0 where
  pub number : ℕ
  pub windows : List A

-- The payload number i of a sender whose periods are S, with a sequence of k bits.
abbrev pub pay : {A : Type 0} → ℕ → (ℕ → A) → ℕ → Payload A
pay k S i = record { number = i % 2 ^ k; windows = S i ∷ S (i + 1) ∷ S (i + 2) ∷ [] }

-- A period of a receiver's record.
pub data Mark (A : Type 0) : Type 0 where
  filled : A → Mark A
  carried : A → Mark A

-- what is marked carried
abbrev pub told : {A : Type 0} → Mark A → Option A
told (filled a) = none
told (carried a) = some a

-- The content that a record marks carried for the period j, where the record begins with the period `first`.
abbrev pub held_at : {A : Type 0} → ℕ → List (Mark A) → ℕ → Option A
held_at first marks j = cond (ltb j first) none (get_or (map told marks) (j - first) none)

-- Arrivals are the numbers of the payloads that arrive, in their order. Of the period j "its own payload or one of the next
-- two arrived": the payload j - 2, j - 1 or j, that is, a payload a with a ≤ j ≤ a + 2.
abbrev pub covered : List ℕ → ℕ → Bool
covered [] j = false
covered (a ∷ more) j = cond (ltb j a) (covered more j) (cond (ltb (a + 2) j) (covered more j) true)

-- "carried exactly when .., and then holds what the sender put there"
abbrev pub cell : {A : Type 0} → (ℕ → A) → List ℕ → ℕ → Option A
cell S arrivals j = cond (covered arrivals j) (some (S j)) none

-- n numbers from s on
abbrev pub range : ℕ → ℕ → List ℕ
range s zero = []
range s (suc n) = s ∷ range (suc s) n

abbrev pub first_of : List ℕ → ℕ
first_of [] = 0
first_of (a ∷ more) = a

abbrev pub last_from : ℕ → List ℕ → ℕ
last_from a [] = a
last_from a (b ∷ bs) = last_from b bs

-- How many periods there are "From two periods before a receiver's first arrival to its last".
abbrev pub span_of : List ℕ → ℕ
span_of [] = 0
span_of (a ∷ more) = last_from a more - a + 3

-- Demand 3 "reads "arrived" as arrived and taken as fresh" (document 02, wish 3). The fresh ones of arrivals, where a was the last
-- fresh one: those that are not behind the last fresh one. A number may come again: it is then fresh again, at a step of 0.
abbrev pub fresh_from : ℕ → List ℕ → List ℕ
fresh_from a [] = []
fresh_from a (b ∷ bs) = cond (ltb b a) (fresh_from a bs) (b ∷ fresh_from b bs)

abbrev pub fresh_of : List ℕ → List ℕ
fresh_of [] = []
fresh_of (a ∷ more) = a ∷ fresh_from a more

-- What is answered to each arrival: 0 to the fresh ones, "19 older payload" to the others.
abbrev pub due_from : ℕ → List ℕ → List ℕ
due_from a [] = []
due_from a (b ∷ bs) = cond (ltb b a) (number OlderPayload ∷ due_from a bs) (sound ∷ due_from b bs)

abbrev pub due_of : List ℕ → List ℕ
due_of [] = []
due_of (a ∷ more) = sound ∷ due_from a more

-- of arrivals, those beside whose number in the other list stands 0
abbrev pub sound_of : List ℕ → List ℕ → List ℕ
sound_of [] arrivals = []
sound_of (n ∷ ns) [] = []
sound_of (n ∷ ns) (a ∷ more) = cond (eqb n sound) (a ∷ sound_of ns more) (sound_of ns more)

-- "successive fresh arrivals at most" `gap` "periods apart", where a came before these.
abbrev pub NearFrom : ℕ → ℕ → List ℕ → Type 0
NearFrom gap a [] = Unit
NearFrom gap a (b ∷ bs) = (b ≤ a + gap) × NearFrom gap b bs

abbrev pub Near : ℕ → List ℕ → Type 0
Near gap [] = Unit
Near gap (a ∷ more) = NearFrom gap a more

-- "Older ones mixed in, 1 to" `back` "periods behind the last fresh one": no arrival is further behind it, where that is a.
abbrev pub BehindFrom : ℕ → ℕ → List ℕ → Type 0
BehindFrom back a [] = Unit
BehindFrom back a (b ∷ bs) = (a ≤ b + back) × BehindFrom back (cond (ltb b a) a b) bs

abbrev pub Behind : ℕ → List ℕ → Type 0
Behind back [] = Unit
Behind back (a ∷ more) = BehindFrom back a more

-- Each number of the first list is one of the second.
abbrev pub is_in : ℕ → List ℕ → Bool
is_in a [] = false
is_in a (b ∷ bs) = cond (eqb a b) true (is_in a bs)

abbrev pub Among : List ℕ → List ℕ → Type 0
Among [] others = Unit
Among (a ∷ more) others = (is_in a others ≡ true) × Among more others

-- Some of a list, in its order.
pub data Sublist {A : Type 0} : List A → List A → Type 0 where
  none_left : Sublist [] []
  left_out : {x : A} {xs ys : List A} → Sublist xs ys → Sublist xs (x ∷ ys)
  taken : {x : A} {xs ys : List A} → Sublist xs ys → Sublist (x ∷ xs) (x ∷ ys)

-- Each of a list is one of another: in any order, and any number of times.
pub data In {A : Type 0} (x : A) : List A → Type 0 where
  here : {ys : List A} → In x (x ∷ ys)
  further : {y : A} {ys : List A} → In x ys → In x (y ∷ ys)

abbrev pub AllIn : {A : Type 0} → List A → List A → Type 0
AllIn [] ys = Unit
AllIn (x ∷ xs) ys = In x ys × AllIn xs ys
