-- Runs that meet what DigitsCarried and DigitsInOrder ask, and two that show both bounds to be sharp. Proved in
-- proofs/DigitRuns.antt.
use Rattle.std.specs.Prelude.{◌≡◌, List, [], ◌∷◌, map, true, false, replicate, negsuc}
use Rattle.dialling.specs.declared.Entry.{Entry}
use Rattle.dialling.specs.Sender.{fresh_sender}
use Rattle.dialled.specs.Receiver.{fresh_receiver}
use Rattle.replay.specs.Periods.{fresh_of, AllIn}
use Rattle.replay.specs.Claims.{Replays}
use Rattle.replay.specs.Examples.{picked, chosen}
use Rattle.carried.specs.Emissions.{Emission}
use Rattle.carried.specs.Digits.{emissions, period_of, Heard, came, voice, arrivals, answers, marks_in, Given, InOrder}

-- entries at -10 dBm0
abbrev pub tone : Entry
tone = record { on = true; edge = 0; code = 5; level = negsuc 9 }

abbrev pub pause : Entry
pause = record { on = false; edge = 0; code = 0; level = negsuc 9 }

-- refused with 15
abbrev pub wrong : Entry
wrong = record { on = true; edge = 20; code = 1; level = negsuc 9 }

-- A refused entry, two periods that are not sent, and the periods number 0 to 299.
abbrev pub call : List Entry
call = wrong ∷ pause ∷ pause ∷ replicate 300 tone

abbrev pub sent : List Emission
sent = emissions fresh_sender 0 call

-- Both receivers have gaps of 127 periods, get payloads 128 periods behind the last fresh one, and go round at 256; some payloads
-- come twice.
abbrev pub first : List Emission
first = chosen (1 ∷ 128 ∷ 0 ∷ 255 ∷ 256 ∷ 255 ∷ []) sent

abbrev pub second : List Emission
second = chosen (0 ∷ 1 ∷ 128 ∷ 0 ∷ 255 ∷ 127 ∷ 255 ∷ 256 ∷ 254 ∷ 299 ∷ []) sent

-- in order, some of a list: so many are left out, then one is taken
abbrev pub second_in_order : List Emission
second_in_order = picked (0 ∷ 0 ∷ 126 ∷ 126 ∷ 43 ∷ []) sent

abbrev pub first_in_order : List Emission
first_in_order = picked (1 ∷ 0 ∷ 0 ∷ []) second_in_order

-- with a voice payload before each
abbrev pub amid : List Emission → List Heard
amid [] = []
amid (p ∷ ps) = voice ∷ came p ∷ amid ps

pub record Runs : Type 0 where
  pub given : Given call (amid first) (amid second)
  pub first_is : arrivals (amid first) ≡ 1 ∷ 128 ∷ 0 ∷ 255 ∷ 256 ∷ 255 ∷ []
  pub second_is : arrivals (amid second) ≡ 0 ∷ 1 ∷ 128 ∷ 0 ∷ 255 ∷ 127 ∷ 255 ∷ 256 ∷ 254 ∷ 299 ∷ []
  pub in_order : InOrder call (amid first_in_order) (amid second_in_order)
  pub first_in_order_is : arrivals (amid first_in_order) ≡ 1 ∷ 128 ∷ 255 ∷ []
  pub second_in_order_is : arrivals (amid second_in_order) ≡ 0 ∷ 1 ∷ 128 ∷ 255 ∷ 299 ∷ []

-- Two payloads, 128 apart, and 129 apart the other way round: all is given but for the one bound, and the record is not what is
-- demanded.
abbrev pub ahead : List Emission
ahead = chosen (0 ∷ 128 ∷ []) sent

abbrev pub behind : List Emission
behind = chosen (129 ∷ 0 ∷ []) sent

abbrev pub Demanded : List Emission → Type 0
Demanded ps = Replays (period_of call) (fresh_of (arrivals (map came ps))) (marks_in (answers fresh_receiver (map came ps)))

pub record Sharp : Type 0 where
  pub some : AllIn ahead sent
  pub ahead_is : arrivals (map came ahead) ≡ 0 ∷ 128 ∷ []
  pub ahead_fails : Demanded ahead → ⊥
  pub some_behind : AllIn behind sent
  pub behind_is : arrivals (map came behind) ≡ 129 ∷ 0 ∷ []
  pub behind_fails : Demanded behind → ⊥
