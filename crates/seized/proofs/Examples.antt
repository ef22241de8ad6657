-- Worked examples of the receiver, on the definitions.
use Prim.Native.Nat.{ℕ}
use mathlib.Core.Path.{◌≡◌, refl}
use mathlib.Core.List.{List, [], ◌∷◌, ◌++◌}
use lib.ListN.{replicate}
use mathlib.Core.Bool.{true}
use Rattle.std.specs.declared.result.Result.TheVariants.{Ok, Err}
use Rattle.refusal.specs.declared.Refusal.TheVariants.{LengthWrong, OlderPayload}
use Rattle.seized.specs.declared.Receiver.{Receiver}
use Rattle.seized.specs.Receiver.{fresh_receiver, received, appended_in}
use Rattle.signalling.specs.Layout.{halves, signalling_read}

-- a payload: its first octet, then thirty samples of which the first two are 1, the last 2 and the others 4
abbrev payload : ℕ → List ℕ
payload first = first ∷ 17 ∷ replicate 13 68 ++ (36 ∷ [])

abbrev samples : List ℕ
samples = 1 ∷ 1 ∷ replicate 27 4 ++ (2 ∷ [])

abbrev heard : ℕ → Receiver
heard number = (received fresh_receiver (payload number)).receiver

-- document 01, example 10: 126 then 1, three carried; 126 then 2, one filled, three carried
pub example-10 :
    ((appended_in (received (heard 126) (payload 1))).fills ≡ 0)
    × ((appended_in (received (heard 126) (payload 1))).carried ≡ 3)
    × ((appended_in (received (heard 126) (payload 2))).fills ≡ 1)
    × ((appended_in (received (heard 126) (payload 2))).carried ≡ 3)
unfolding signalling_read halves received
example-10 = (refl, refl, refl, refl)

-- the first payload appends three and never fills, whatever its number
pub first-payload :
    received fresh_receiver (payload 228)
    ≡ record {
      answer = Ok (record { fills = 0; fill = 0; carried = 3; periods = samples });
      receiver = record { heard = true; last = record { 0 = 100 }; tail = 2; value = 2; alarm = true };
    }
unfolding signalling_read halves received
first-payload = refl

-- a step of 0 sets the current value to the payload's first sample, follows the alarm, and leaves the record's last sample
pub step-0 :
    received (heard 100) (228 ∷ 3 ∷ replicate 14 85)
    ≡ record {
      answer = Ok (record { fills = 0; fill = 0; carried = 0; periods = replicate 30 0 });
      receiver = record { heard = true; last = record { 0 = 100 }; tail = 2; value = 3; alarm = true };
    }
unfolding signalling_read halves received
step-0 = refl

-- the newest one of three, then unused places
pub step-1 : (appended_in (received (heard 127) (payload 0))).periods ≡ replicate 9 4 ++ (2 ∷ []) ++ replicate 20 0
unfolding signalling_read halves received
step-1 = refl

-- fills repeat the last sample of the record, not the current value
pub fill-content : (appended_in (received (received (heard 100) (100 ∷ 3 ∷ replicate 14 85)).receiver (payload 104))).fill ≡ 2
unfolding signalling_read halves received
fill-content = refl

-- A step of 63 is replayed, with 60 fills. Steps of 64 and 127 are older: with the alarm and other samples, nothing of the receiver
-- moves. An octet short they are 13. A first payload is never older.
pub older-ones :
    ((appended_in (received (heard 5) (payload 68))).fills ≡ 60)
    × (received (heard 5) (197 ∷ replicate 15 119) ≡ record { answer = Err OlderPayload; receiver = heard 5 })
    × (received (heard 5) (132 ∷ replicate 15 119) ≡ record { answer = Err OlderPayload; receiver = heard 5 })
    × (received (heard 5) (132 ∷ replicate 14 119) ≡ record { answer = Err LengthWrong; receiver = heard 5 })
    × ((appended_in (received fresh_receiver (payload 127))).carried ≡ 3)
unfolding signalling_read halves received
older-ones = (refl, refl, refl, refl, refl)
