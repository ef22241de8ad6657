-- Runs that meet what SignallingCarried and SignallingInOrder ask, and two that show both bounds to be sharp. Proved in
-- proofs/SignallingRuns.antt.
use Rattle.std.specs.Prelude.{◌≡◌, List, [], ◌∷◌, ◌++◌, true, false, replicate}
use Rattle.seizing.specs.declared.Entry.{Entry}
use Rattle.seizing.specs.Sender.{sender_from}
use Rattle.seized.specs.Receiver.{fresh_receiver}
use Rattle.replay.specs.Periods.{fresh_of, AllIn}
use Rattle.replay.specs.Claims.{Replays}
use Rattle.replay.specs.Examples.{picked, chosen}
use Rattle.carried.specs.Emissions.{Emission}
use Rattle.carried.specs.Signalling.{emissions, period_of, arrivals, answers, marks_in, Given, InOrder}

-- a quiet period where the sample before it is 0, and one that is quiet nowhere
abbrev pub still : Entry
still = record { alarm = false; samples = replicate 10 0 }

abbrev pub pulse : Entry
pulse = record { alarm = true; samples = 1 ∷ replicate 9 0 }

-- quiet too, with the alarm
abbrev pub ring : Entry
ring = record { alarm = true; samples = replicate 10 0 }

-- From the start value 0: of 275 quiet periods the first 25 are sent, with the numbers 0 to 24, and at the last one the
-- payload number 24 is repeated, with another alarm bit; then 160 periods are sent, with the numbers 25 to 184.
abbrev pub line : List Entry
line = replicate 274 still ++ ring ∷ replicate 160 pulse

abbrev pub sent : List Emission
sent = emissions (sender_from 0) 0 line

-- Both receivers have gaps of 63 periods, get a payload 64 periods behind the last fresh one, and go round at 128. The first begins
-- with the repeat of the payload number 24, the second gets that payload itself and then its repeat. They are named by their places:
-- from the repeat on, each stands one place after its number.
abbrev pub first : List Emission
first = chosen (25 ∷ 88 ∷ 23 ∷ 151 ∷ []) sent

abbrev pub second : List Emission
second = chosen (0 ∷ 24 ∷ 25 ∷ 88 ∷ 23 ∷ 151 ∷ 87 ∷ 154 ∷ []) sent

-- in order, some of a list: so many are left out, then one is taken
abbrev pub first_in_order : List Emission
first_in_order = picked (25 ∷ 62 ∷ []) sent

abbrev pub second_in_order : List Emission
second_in_order = picked (0 ∷ 23 ∷ 63 ∷ 62 ∷ []) sent

pub record Runs : Type 0 where
  pub given : Given 0 line first second
  pub first_is : arrivals first ≡ 24 ∷ 87 ∷ 23 ∷ 150 ∷ []
  pub second_is : arrivals second ≡ 0 ∷ 24 ∷ 24 ∷ 87 ∷ 23 ∷ 150 ∷ 86 ∷ 153 ∷ []
  pub in_order : InOrder 0 line first_in_order second_in_order
  pub first_in_order_is : arrivals first_in_order ≡ 24 ∷ 87 ∷ []
  pub second_in_order_is : arrivals second_in_order ≡ 0 ∷ 24 ∷ 87 ∷ 150 ∷ []

-- Two payloads, 64 apart, and 65 apart the other way round: all is given but for the one bound, and the record is not what is
-- demanded.
abbrev pub ahead : List Emission
ahead = chosen (0 ∷ 65 ∷ []) sent

abbrev pub behind : List Emission
behind = chosen (66 ∷ 0 ∷ []) sent

abbrev pub Demanded : List Emission → Type 0
Demanded ps = Replays (period_of 0 line) (fresh_of (arrivals ps)) (marks_in (answers fresh_receiver ps))

pub record Sharp : Type 0 where
  pub some : AllIn ahead sent
  pub ahead_is : arrivals ahead ≡ 0 ∷ 64 ∷ []
  pub ahead_fails : Demanded ahead → ⊥
  pub some_behind : AllIn behind sent
  pub behind_is : arrivals behind ≡ 65 ∷ 0 ∷ []
  pub behind_fails : Demanded behind → ⊥
