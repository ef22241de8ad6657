-- Demand 3 of a trunk: the sender's payloads come to one sub-channel's trunk among others of that sub-channel, of other kinds
-- (voice, silence, fax, ..) or refused by reading, and its record and its answers to them are those of the theorem. Proved in
-- proofs/Trunks.antt; TrunkRuns.antt has runs that meet what is asked.
--
-- It holds of the code by the contracts, as Tied.antt says: `taken` is what `trunk::Trunk::take` answers and leaves in the trunk, and
-- `fresh_trunk` what `trunk::Trunk::fresh` returns.
use Rattle.std.specs.Prelude.{ℕ, ◌≡◌, List, [], ◌∷◌, ◌++◌, map, Option, Result, Ok, Err}
use Rattle.refusal.specs.declared.Refusal.{Refusal}
use Rattle.record.specs.declared.syntax.Record.{Record}
use Rattle.digits.specs.declared.layout.Window.{Window}
use Rattle.digits.specs.declared.layout.Digits.{Digits}
use Rattle.signalling.specs.declared.layout.Signalling.{Signalling}
use Rattle.dialling.specs.declared.Entry as dialling-entry
use Rattle.dialling.specs.Sender.{fresh_sender}
use Rattle.dialled.specs.Receiver as dialled
use Rattle.seizing.specs.declared.Entry as seizing-entry
use Rattle.seizing.specs.Sender.{sender_from, started}
use Rattle.seized.specs.Receiver as seized
use Rattle.payload.specs.declared.layout.Layout.TheVariants.{OfDigits, OfSignalling}
use Rattle.payload.specs.Layout.{layout_of}
use Rattle.payload.specs.Content.{dialled, seized, reads, payload_read}
use Rattle.trunk.specs.declared.Trunk.{Trunk}
use Rattle.trunk.specs.declared.Heard.{Heard}
use Rattle.trunk.specs.declared.Heard.TheVariants.{HeardVoice, HeardSilence, HeardDigits, HeardSignalling, HeardData, HeardFax}
use Rattle.trunk.specs.Trunk.{Told, number_in, fresh_trunk, taken}
use Rattle.replay.specs.Periods.{Mark, fresh_of, Among, AllIn}
use Rattle.replay.specs.Claims.{Arriving, BothTake}
use Rattle.carried.specs.Emissions.{Emission}
use Rattle.carried.specs.Digits as digits
use Rattle.carried.specs.Signalling as signalling

-- What comes to a trunk: a payload of the sender, or any other payload, by its type and octets.
pub data Coming : Type 0 where
  came : Emission → Coming
  other : ℕ → List ℕ → Coming

abbrev pub payloads_of : List Coming → List Emission
payloads_of [] = []
payloads_of (came p ∷ cs) = p ∷ payloads_of cs
payloads_of (other ptype octets ∷ cs) = payloads_of cs

abbrev pub arrivals : List Coming → List ℕ
arrivals cs = map (λ (p : Emission). p.number) (payloads_of cs)

-- what the trunk tells of it; the sender's payloads have the type `kind`
abbrev pub told_of : ℕ → Option Record → Trunk → Coming → Told
told_of kind found t (came p) = taken t found kind p.octets
told_of kind found t (other ptype octets) = taken t found ptype octets

-- What it tells of all that comes, in turn.
abbrev pub tellings : ℕ → Option Record → Trunk → List Coming → List Told
tellings kind found t [] = []
tellings kind found t (c ∷ cs) = told_of kind found t c ∷ tellings kind found (told_of kind found t c).trunk cs

-- the numbers that are told of the sender's payloads
abbrev pub numbers_in : List Coming → List Told → List ℕ
numbers_in [] xs = []
numbers_in (c ∷ cs) [] = []
numbers_in (came p ∷ cs) (x ∷ xs) = number_in x ∷ numbers_in cs xs
numbers_in (other ptype octets ∷ cs) (x ∷ xs) = numbers_in cs xs

-- The trunk's records: what its receivers append, one after the other. Digits have type 1, signalling type 2.
abbrev pub dialled_marks : Result Heard Refusal → List (Mark Window)
dialled_marks (Ok (HeardDigits a)) = digits.marks_of a
dialled_marks (Ok HeardVoice) = []
dialled_marks (Ok HeardSilence) = []
dialled_marks (Ok (HeardSignalling a)) = []
dialled_marks (Ok HeardData) = []
dialled_marks (Ok (HeardFax handed)) = []
dialled_marks (Err refusal) = []

abbrev pub digit_marks : List Told → List (Mark Window)
digit_marks [] = []
digit_marks (x ∷ xs) = dialled_marks x.answer ++ digit_marks xs

abbrev pub seized_marks : Result Heard Refusal → List (Mark (List ℕ))
seized_marks (Ok (HeardSignalling a)) = signalling.marks_of a
seized_marks (Ok HeardVoice) = []
seized_marks (Ok HeardSilence) = []
seized_marks (Ok (HeardDigits a)) = []
seized_marks (Ok HeardData) = []
seized_marks (Ok (HeardFax handed)) = []
seized_marks (Err refusal) = []

abbrev pub signalling_marks : List Told → List (Mark (List ℕ))
signalling_marks [] = []
signalling_marks (x ∷ xs) = seized_marks x.answer ++ signalling_marks xs

-- the others bring no digits, no signalling: they read as another content, or reading refuses them
abbrev pub NoDigits : Option Record → List Coming → Type 0
NoDigits found [] = Unit
NoDigits found (came p ∷ cs) = NoDigits found cs
NoDigits found (other ptype octets ∷ cs) =
    ((d : Digits) → payload_read found ptype octets ≡ reads (dialled d) → ⊥) × NoDigits found cs

abbrev pub NoSignalling : Option Record → List Coming → Type 0
NoSignalling found [] = Unit
NoSignalling found (came p ∷ cs) = NoSignalling found cs
NoSignalling found (other ptype octets ∷ cs) =
    ((s : Signalling) → payload_read found ptype octets ≡ reads (seized s) → ⊥) × NoSignalling found cs

-- What is given: a sub-channel that carries digits, and demand 3's words (Digits.antt).
pub record DigitsGiven (found : Option Record) (entries : List dialling-entry.Entry) (first second : List Coming) : Type 0 where
  pub carries : layout_of found 1 ≡ Ok OfDigits
  pub some : AllIn (payloads_of first) (digits.emissions fresh_sender 0 entries)
  pub some2 : AllIn (payloads_of second) (digits.emissions fresh_sender 0 entries)
  pub arriving : Arriving dialled.farthest digits.most_behind (arrivals first)
  pub arriving2 : Arriving dialled.farthest digits.most_behind (arrivals second)
  pub more : Among (fresh_of (arrivals first)) (fresh_of (arrivals second))
  pub others : NoDigits found first
  pub others2 : NoDigits found second

abbrev pub TrunkDigitsCarried : Type 0
TrunkDigitsCarried =
    (found : Option Record) (entries : List dialling-entry.Entry) (first second : List Coming)
    → DigitsGiven found entries first second
    → BothTake (digits.period_of entries) (arrivals first) (digit_marks (tellings 1 found fresh_trunk first)) (numbers_in first (tellings 1 found fresh_trunk first)) (arrivals second) (digit_marks (tellings 1 found fresh_trunk second)) (numbers_in second (tellings 1 found fresh_trunk second))

-- The same of signalling (Signalling.antt).
pub record SignallingGiven (found : Option Record) (start : ℕ) (entries : List seizing-entry.Entry) (first second : List Coming) : Type 0 where
  pub carries : layout_of found 2 ≡ Ok OfSignalling
  pub begins : started start ≡ Ok (sender_from start)
  pub ten : signalling.TenEach entries
  pub some : AllIn (payloads_of first) (signalling.emissions (sender_from start) 0 entries)
  pub some2 : AllIn (payloads_of second) (signalling.emissions (sender_from start) 0 entries)
  pub arriving : Arriving seized.farthest signalling.most_behind (arrivals first)
  pub arriving2 : Arriving seized.farthest signalling.most_behind (arrivals second)
  pub more : Among (fresh_of (arrivals first)) (fresh_of (arrivals second))
  pub others : NoSignalling found first
  pub others2 : NoSignalling found second

abbrev pub TrunkSignallingCarried : Type 0
TrunkSignallingCarried =
    (found : Option Record) (start : ℕ) (entries : List seizing-entry.Entry) (first second : List Coming)
    → SignallingGiven found start entries first second
    → BothTake (signalling.period_of start entries) (arrivals first) (signalling_marks (tellings 2 found fresh_trunk first)) (numbers_in first (tellings 2 found fresh_trunk first)) (arrivals second) (signalling_marks (tellings 2 found fresh_trunk second)) (numbers_in second (tellings 2 found fresh_trunk second))
