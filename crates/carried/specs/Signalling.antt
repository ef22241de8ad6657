-- Demand 3 for signalling (seizure bits), as document 02, wish 3, reads it: what two fresh receivers answer and have in their records
-- when payloads of one sender arrive, through the octets of the payloads. Proved in proofs/Signalling.antt, by the replay theorem.
--
-- It holds of the code by the contracts, as Tied.antt says: `started` is what `seizing::Sender::start` answers, `sent` is what
-- `seizing::Sender::send` answers and leaves in the sender, `signalling_made` is what `signalling::layout::put_signalling` writes,
-- `received` is what `seized::Receiver::receive` answers and leaves in the receiver, and `fresh_receiver` is what
-- `seized::Receiver::fresh` returns.
use Rattle.std.specs.Prelude.{ℕ, suc, ◌-◌, ◌≡◌, List, [], ◌∷◌, ◌++◌, map, Bool, true, false, cond, eqb, length, get_or, take, drop, replicate, Option, Some, None, Result, Ok, Err}
use Rattle.refusal.specs.declared.Refusal.{Refusal}
use Rattle.octets.specs.Made.{octets_of}
use Rattle.signalling.specs.declared.layout.Signalling.{Signalling}
use Rattle.seizing.specs.declared.Entry.{Entry}
use Rattle.seizing.specs.declared.Sender.{Sender}
use Rattle.seized.specs.declared.Receiver.{Receiver}
use Rattle.seized.specs.declared.Appended.{Appended}
use Rattle.signalling.specs.Layout.{signalling_made}
use Rattle.seizing.specs.Sender.{Sent, sender_from, started, sent}
use Rattle.seized.specs.Receiver.{Received, fresh_receiver, farthest, number_in, appended_in, received}
use Rattle.replay.specs.Periods.{Mark, filled, carried, fresh_of, Near, Among, Sublist, AllIn}
use Rattle.replay.specs.Claims.{Arriving, BothReplay, BothTake}
use Rattle.carried.specs.Emissions.{Emission}

-- "the last payload is repeated .., sequence unchanged", where "Each sent period raises the sequence by one".
abbrev pub repeats : Sender → Sent → Bool
repeats s out = eqb out.sender.last.0 s.last.0

-- whether a payload goes out at an answer, and the octets that it is written as
abbrev pub goes_out : Result (Option Signalling) Refusal → Bool
goes_out (Ok (Some d)) = true
goes_out (Ok None) = false
goes_out (Err refusal) = false

abbrev pub octets_sent : Result (Option Signalling) Refusal → List ℕ
octets_sent (Ok (Some d)) = octets_of (signalling_made d)
octets_sent (Ok None) = []
octets_sent (Err refusal) = []

-- The sender's run over its entries, where n periods were sent before. Where nothing goes out, the entry is refused and is no
-- period, or its period is not sent: "Unsent periods have no number." A sent period has the number n; "a static repeat counts
-- as the payload it repeats", the last that was sent. What leaves, with these octets:
abbrev pub emitted_as : Sender → ℕ → Sent → List ℕ → List Emission
emitted_as s n out octets =
    cond (goes_out out.answer)
    (record {
      number = cond (repeats s out) (n - 1) n;
      octets = octets;
    }
    ∷ [])
    []

abbrev pub emitted : Sender → ℕ → Sent → List Emission
emitted s n out = emitted_as s n out (octets_sent out.answer)

abbrev pub number_after : Sender → ℕ → Sent → ℕ
number_after s n out = cond (goes_out out.answer) (cond (repeats s out) n (suc n)) n

abbrev pub emissions : Sender → ℕ → List Entry → List Emission
emissions s n [] = []
emissions s n (e ∷ es) = emitted s n (sent s e) ++ emissions (sent s e).sender (number_after s n (sent s e)) es

-- The periods that it sends: the ten samples of the entry.
abbrev pub sent_of : Sender → Sent → Entry → List (List ℕ)
sent_of s out e = cond (goes_out out.answer) (cond (repeats s out) [] (e.samples ∷ [])) []

abbrev pub sent_by : Sender → List Entry → List (List ℕ)
sent_by s [] = []
sent_by s (e ∷ es) = sent_of s (sent s e) e ++ sent_by (sent s e).sender es

-- "Periods are counted as sent, two of the start state before them".
abbrev pub start_period : ℕ → List ℕ
start_period start = replicate 10 start

abbrev pub period_of : ℕ → List Entry → ℕ → List ℕ
period_of start entries j = get_or (start_period start ∷ start_period start ∷ sent_by (sender_from start) entries) j (start_period start)

-- the arrivals, by the numbers of their payloads
abbrev pub arrivals : List Emission → List ℕ
arrivals ps = map (λ (p : Emission). p.number) ps

-- What a receiver answers to them, in turn; the refusal numbers of its answers; and its record: each answer appends its fills, ten
-- of the fill sample each, marked filled, and then its carried periods, marked carried.
abbrev pub answers : Receiver → List Emission → List Received
answers r [] = []
answers r (p ∷ ps) = received r p.octets ∷ answers (received r p.octets).receiver ps

abbrev pub numbers_in : List Received → List ℕ
numbers_in xs = map (λ (x : Received). number_in x) xs

abbrev pub tens : List ℕ → List (List ℕ)
tens samples = take 10 samples ∷ take 10 (drop 10 samples) ∷ take 10 (drop 20 samples) ∷ []

abbrev pub marks_of : Appended → List (Mark (List ℕ))
marks_of a = replicate a.fills (filled (replicate 10 a.fill)) ++ map carried (take a.carried (tens a.periods))

abbrev pub marks_in : List Received → List (Mark (List ℕ))
marks_in [] = []
marks_in (x ∷ xs) = marks_of (appended_in x) ++ marks_in xs

-- entries have ten samples each: the type `[u8; 10]` of the code
abbrev pub TenEach : List Entry → Type 0
TenEach [] = Unit
TenEach (e ∷ es) = (length e.samples ≡ 10) × TenEach es

-- "Older ones mixed in, 1 to 64 .. periods behind the last fresh one"
abbrev pub most_behind : ℕ
most_behind = 64

-- What is given.
pub record Given (start : ℕ) (entries : List Entry) (first second : List Emission) : Type 0 where
  -- "a start value is given", and is not refused
  pub begins : started start ≡ Ok (sender_from start)
  pub ten : TenEach entries
  -- "Each gets some of its payloads, undamaged": in any order, and any number of times each
  pub some : AllIn first (emissions (sender_from start) 0 entries)
  pub some2 : AllIn second (emissions (sender_from start) 0 entries)
  -- "successive fresh arrivals at most 63 .. periods apart", the farthest step that is replayed; and how far the others are behind
  pub arriving : Arriving farthest most_behind (arrivals first)
  pub arriving2 : Arriving farthest most_behind (arrivals second)
  -- "the second receiver's fresh ones include all of the first's", where "a static repeat counts as the payload it repeats"
  pub more : Among (fresh_of (arrivals first)) (fresh_of (arrivals second))

-- Then each record replays the sender's periods by the fresh ones, the second keeps all that the first marks carried, and each
-- receiver answers 0 to exactly the fresh ones and 19 to the others (`BothTake` of replay/specs/Claims.antt).
abbrev pub SignallingCarried : Type 0
SignallingCarried =
    (start : ℕ) (entries : List Entry) (first second : List Emission)
    → Given start entries first second
    → BothTake (period_of start entries) (arrivals first) (marks_in (answers fresh_receiver first)) (numbers_in (answers fresh_receiver first)) (arrivals second) (marks_in (answers fresh_receiver second)) (numbers_in (answers fresh_receiver second))

-- Demand 3 in its own words, with the smaller bound: where the payloads come in order, all of them are fresh.
pub record InOrder (start : ℕ) (entries : List Entry) (first second : List Emission) : Type 0 where
  pub begins : started start ≡ Ok (sender_from start)
  pub ten : TenEach entries
  -- "Each gets some of its payloads, undamaged and in order"
  pub some : Sublist first (emissions (sender_from start) 0 entries)
  pub some2 : Sublist second (emissions (sender_from start) 0 entries)
  -- "the second at least all that the first gets"
  pub more : Among (arrivals first) (arrivals second)
  -- "No two successive arrivals at either are more than" so many "periods apart"
  pub near : Near farthest (arrivals first)
  pub near2 : Near farthest (arrivals second)

abbrev pub SignallingInOrder : Type 0
SignallingInOrder =
    (start : ℕ) (entries : List Entry) (first second : List Emission)
    → InOrder start entries first second
    → BothReplay (period_of start entries) (arrivals first) (marks_in (answers fresh_receiver first)) (arrivals second) (marks_in (answers fresh_receiver second))
