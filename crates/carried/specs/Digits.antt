-- Demand 3 for digits, as document 02, wish 3, reads it: what two fresh receivers answer and have in their records when payloads of
-- one sender arrive, through the octets of the payloads. Proved in proofs/Digits.antt, by the replay theorem.
--
-- It holds of the code by the contracts, as Tied.antt says: `sending` is what `dialling::Sender::send` answers and leaves in
-- the sender, `digits_made` is what `digits::layout::put_digits` writes, `received` is what `dialled::Receiver::receive` answers and
-- leaves in the receiver, `voice_heard` is what `dialled::Receiver::hear_voice` leaves in it, and `fresh_sender` and `fresh_receiver`
-- are what the two `fresh` return.
use Rattle.std.specs.Prelude.{ℕ, suc, List, [], ◌∷◌, ◌++◌, map, get_or, take, replicate, Option, Some, None, Result, Ok, Err}
use Rattle.refusal.specs.declared.Refusal.{Refusal}
use Rattle.octets.specs.Made.{octets_of}
use Rattle.digits.specs.declared.layout.Window.{Window}
use Rattle.digits.specs.declared.layout.Digits.{Digits}
use Rattle.dialling.specs.declared.Entry.{Entry}
use Rattle.dialling.specs.declared.Sender.{Sender}
use Rattle.dialled.specs.declared.Receiver.{Receiver}
use Rattle.dialled.specs.declared.Appended.{Appended}
use Rattle.digits.specs.Layout.{off_window, digits_made}
use Rattle.dialling.specs.Sender.{fresh_sender, window_in, sending}
use Rattle.dialled.specs.Receiver.{Received, fresh_receiver, farthest, number_in, appended_in, received, voice_heard}
use Rattle.replay.specs.Periods.{Mark, filled, carried, fresh_of, Near, Among, Sublist, AllIn}
use Rattle.replay.specs.Claims.{Arriving, BothReplay, BothTake}
use Rattle.carried.specs.Emissions.{Emission}

-- The sender's run over its entries, where n periods were sent before. An entry that is refused is no period; "Unsent periods
-- have no number."
abbrev pub number_after : ℕ → Result (Option Digits) Refusal → ℕ
number_after n (Ok (Some d)) = suc n
number_after n (Ok None) = n
number_after n (Err refusal) = n

-- what leaves at an answer, with these octets
abbrev pub emitted_as : ℕ → Result (Option Digits) Refusal → List ℕ → List Emission
emitted_as n (Ok (Some d)) octets = record { number = n; octets = octets } ∷ []
emitted_as n (Ok None) octets = []
emitted_as n (Err refusal) octets = []

-- and the octets: those that the payload is written as
abbrev pub octets_sent : Result (Option Digits) Refusal → List ℕ
octets_sent (Ok (Some d)) = octets_of (digits_made d)
octets_sent (Ok None) = []
octets_sent (Err refusal) = []

abbrev pub emitted : ℕ → Result (Option Digits) Refusal → List Emission
emitted n answer = emitted_as n answer (octets_sent answer)

abbrev pub emissions : Sender → ℕ → List Entry → List Emission
emissions s n [] = []
emissions s n (e ∷ es) = emitted n (sending s e).answer ++ emissions (sending s e).sender (number_after n (sending s e).answer) es

-- The periods that it sends: off or on with code, and the edge, of the entry.
abbrev pub sent_of : Result (Option Digits) Refusal → Entry → List Window
sent_of (Ok (Some d)) e = window_in e ∷ []
sent_of (Ok None) e = []
sent_of (Err refusal) e = []

abbrev pub sent_by : Sender → List Entry → List Window
sent_by s [] = []
sent_by s (e ∷ es) = sent_of (sending s e).answer e ++ sent_by (sending s e).sender es

-- "Periods are counted as sent, two of the start state before them".
abbrev pub period_of : List Entry → ℕ → Window
period_of entries j = get_or (off_window ∷ off_window ∷ sent_by fresh_sender entries) j off_window

-- What a receiver gets: payloads of the sender and, anywhere in between, accepted voice payloads.
pub data Heard : Type 0 where
  came : Emission → Heard
  voice : Heard

abbrev pub payloads_of : List Heard → List Emission
payloads_of [] = []
payloads_of (came p ∷ hs) = p ∷ payloads_of hs
payloads_of (voice ∷ hs) = payloads_of hs

-- the arrivals, by the numbers of their payloads
abbrev pub arrivals : List Heard → List ℕ
arrivals hs = map (λ (p : Emission). p.number) (payloads_of hs)

-- What it answers to them, in turn; the refusal numbers of its answers; and its record: each answer appends its fills, marked
-- filled, and then its carried periods, marked carried.
abbrev pub answers : Receiver → List Heard → List Received
answers r [] = []
answers r (came p ∷ hs) = received r p.octets ∷ answers (received r p.octets).receiver hs
answers r (voice ∷ hs) = answers (voice_heard r) hs

abbrev pub numbers_in : List Received → List ℕ
numbers_in xs = map (λ (x : Received). number_in x) xs

abbrev pub marks_of : Appended → List (Mark Window)
marks_of a = replicate a.fills (filled a.fill) ++ map carried (take a.carried a.periods)

abbrev pub marks_in : List Received → List (Mark Window)
marks_in [] = []
marks_in (x ∷ xs) = marks_of (appended_in x) ++ marks_in xs

-- "Older ones mixed in, .. 1 to 128 periods behind the last fresh one"
abbrev pub most_behind : ℕ
most_behind = 128

-- What is given.
pub record Given (entries : List Entry) (first second : List Heard) : Type 0 where
  -- "Each gets some of its payloads, undamaged": in any order, and any number of times each
  pub some : AllIn (payloads_of first) (emissions fresh_sender 0 entries)
  pub some2 : AllIn (payloads_of second) (emissions fresh_sender 0 entries)
  -- "successive fresh arrivals at most .. 127 periods apart", the farthest step that is replayed; and how far the others are behind
  pub arriving : Arriving farthest most_behind (arrivals first)
  pub arriving2 : Arriving farthest most_behind (arrivals second)
  -- "the second receiver's fresh ones include all of the first's"
  pub more : Among (fresh_of (arrivals first)) (fresh_of (arrivals second))

-- Then each record replays the sender's periods by the fresh ones, the second keeps all that the first marks carried, and each
-- receiver answers 0 to exactly the fresh ones and 19 to the others (`BothTake` of replay/specs/Claims.antt).
abbrev pub DigitsCarried : Type 0
DigitsCarried =
    (entries : List Entry) (first second : List Heard)
    → Given entries first second
    → BothTake (period_of entries) (arrivals first) (marks_in (answers fresh_receiver first)) (numbers_in (answers fresh_receiver first)) (arrivals second) (marks_in (answers fresh_receiver second)) (numbers_in (answers fresh_receiver second))

-- Demand 3 in its own words, with the smaller bound: where the payloads come in order, all of them are fresh.
pub record InOrder (entries : List Entry) (first second : List Heard) : Type 0 where
  -- "Each gets some of its payloads, undamaged and in order"
  pub some : Sublist (payloads_of second) (emissions fresh_sender 0 entries)
  -- "the second at least all that the first gets"
  pub more : Sublist (payloads_of first) (payloads_of second)
  -- "No two successive arrivals at either are more than" so many "periods apart"
  pub near : Near farthest (arrivals first)
  pub near2 : Near farthest (arrivals second)

abbrev pub DigitsInOrder : Type 0
DigitsInOrder =
    (entries : List Entry) (first second : List Heard)
    → InOrder entries first second
    → BothReplay (period_of entries) (arrivals first) (marks_in (answers fresh_receiver first)) (arrivals second) (marks_in (answers fresh_receiver second))
