-- The digit receiver (document 01, "Receivers"; document 02, wish 3).
use Rattle.std.specs.Prelude.{ℕ, List, [], ◌∷◌, ◌++◌, true, false, cond, eqb, replicate, Result, Ok, Err}
use Rattle.refusal.specs.declared.Refusal.{Refusal}
use Rattle.refusal.specs.declared.Refusal.TheVariants.{OlderPayload}
use Rattle.refusal.specs.Numbers.{sound, number}
use Rattle.counts.specs.Round.{step}
use Rattle.counts.specs.declared.DigitCount.{DigitCount}
use Rattle.replay.specs.Rule.{step_taken, older, fill_count, carried_count, unused_count, newest}
use Rattle.digits.specs.declared.layout.Window.{Window}
use Rattle.digits.specs.declared.layout.Digits.{Digits}
use Rattle.dialled.specs.declared.Receiver.{Receiver}
use Rattle.dialled.specs.declared.Appended.{Appended}
use Rattle.digits.specs.Layout.{off_window, digits_read}

abbrev pub fresh_receiver : Receiver
fresh_receiver = record { heard = false; last = record { 0 = 0 }; on = false; code = 0 }

-- The farthest step that is replayed: "take steps of .. 128 to 255 for digits, as older".
abbrev pub farthest : ℕ
farthest = 127

-- "Step = new sequence minus last, modulo 256"
abbrev pub step_from : Receiver → DigitCount → ℕ
step_from r new = step_taken r.heard (step 8 r.last.0 new.0)

-- "A fill repeats the last state, edge 0"; where there are none, its place is unused.
abbrev pub fill_of : Receiver → ℕ → Window
fill_of r step = cond (eqb (fill_count step) 0) off_window (record { on = r.on; edge = 0; code = r.code })

-- "the newest .., oldest first", then "unused places off"
abbrev pub periods_of : Digits → ℕ → List Window
periods_of d step = newest step (d.previous ∷ d.recent ∷ d.current ∷ []) ++ replicate (unused_count step) off_window

-- "Step 0: digits change nothing (house)". Else the newest period carried is the last state.
abbrev pub receiver_after : Receiver → Digits → ℕ → Receiver
receiver_after r d step =
    cond (eqb step 0) r
    (record {
      heard = true;
      last = d.sequence;
      on = d.current.on;
      code = d.current.code;
    })

-- What becomes of a payload: what it appends, or its refusal; and the receiver after it.
pub record Received : Type 0 where
  pub answer : Result Appended Refusal
  pub receiver : Receiver

-- The number of an answer, 0 where it is no refusal; and what it appends: beside a refusal nothing, with the unused places off.
abbrev pub number_of : Result Appended Refusal → ℕ
number_of (Ok appended) = sound
number_of (Err refusal) = number refusal

abbrev pub nothing_appended : Appended
nothing_appended = record { fills = 0; fill = off_window; carried = 0; periods = replicate 3 off_window }

abbrev pub appended_of : Result Appended Refusal → Appended
appended_of (Ok appended) = appended
appended_of (Err refusal) = nothing_appended

abbrev pub number_in : Received → ℕ
number_in x = number_of x.answer

abbrev pub appended_in : Received → Appended
appended_in x = appended_of x.answer

-- "The answer is the fill count, fill content, carried count and carried periods".
abbrev pub appended : Receiver → Digits → ℕ → Received
appended r d step =
    record {
      answer = Ok (record {
        fills = fill_count step;
        fill = fill_of r step;
        carried = carried_count step;
        periods = periods_of d step;
      });
      receiver = receiver_after r d step;
    }

-- A refused payload changes nothing.
abbrev pub passed_over : Receiver → Refusal → Received
passed_over r refusal = record { answer = Err refusal; receiver = r }

-- "as older and change nothing": 19, and only where reading refuses nothing, so "after 15".
abbrev pub replayed : Receiver → Digits → ℕ → Received
replayed r d step = cond (older farthest step) (passed_over r OlderPayload) (appended r d step)

abbrev pub received_by : Receiver → Result Digits Refusal → Received
received_by r (Ok d) = replayed r d (step_from r d.sequence)
received_by r (Err refusal) = passed_over r refusal

unfoldable pub received : Receiver → List ℕ → Received
received r payload = received_by r (digits_read payload)

-- "An accepted type 0 voice payload ends a sounding tone: later fills are off until a carried period; sequence and list stand."
abbrev pub voice_heard : Receiver → Receiver
voice_heard r = record { heard = r.heard; last = r.last; on = false; code = 0 }
