-- The signalling receiver (document 01, "Receivers"; document 02, wish 3). The state holds the last sample of the record, which
-- fills repeat, beside the current value, which a step of 0 sets too.
use Rattle.std.specs.Prelude.{ℕ, ◌*◌, List, ◌++◌, true, false, cond, eqb, get_or, drop, replicate, Result, Ok, Err}
use Rattle.refusal.specs.Numbers.{number, sound}
use Rattle.refusal.specs.declared.Refusal.{Refusal}
use Rattle.refusal.specs.declared.Refusal.TheVariants.{OlderPayload}
use Rattle.counts.specs.Round.{step}
use Rattle.counts.specs.declared.SignallingCount.{SignallingCount}
use Rattle.replay.specs.Rule.{step_taken, older, fill_count, carried_count, unused_count}
use Rattle.signalling.specs.declared.layout.Signalling.{Signalling}
use Rattle.seized.specs.declared.Receiver.{Receiver}
use Rattle.seized.specs.declared.Appended.{Appended}
use Rattle.signalling.specs.Layout.{signalling_read}

-- "it and the alarm start at 0"
abbrev pub fresh_receiver : Receiver
fresh_receiver = record { heard = false; last = record { 0 = 0 }; tail = 0; value = 0; alarm = false }

-- The farthest step that is replayed: "take steps of 64 to 127 for signalling .. as older".
abbrev pub farthest : ℕ
farthest = 63

-- "Step = new sequence minus last, modulo .. 128"
abbrev pub step_from : Receiver → SignallingCount → ℕ
step_from r new = step_taken r.heard (step 7 r.last.0 new.0)

-- "A fill repeats .. for signalling ten of the last sample of the record", of which one is told; where there are none, its place
-- is unused.
abbrev pub fill_of : Receiver → ℕ → ℕ
fill_of r step = cond (eqb (fill_count step) 0) 0 r.tail

-- "the newest .., oldest first", ten samples each, then "unused places .. 0"
abbrev pub periods_of : List ℕ → ℕ → List ℕ
periods_of samples step = drop (unused_count step * 10) samples ++ replicate (unused_count step * 10) 0

-- "Step 0: .. signalling appends nothing, and the current value becomes the payload's first sample. Otherwise that value is
-- the newest sample appended .. The alarm follows each accepted payload."
abbrev pub receiver_after : Receiver → Signalling → ℕ → Receiver
receiver_after r s step =
    record {
      heard = true;
      last = s.sequence;
      tail = cond (eqb step 0) r.tail (get_or s.samples 29 0);
      value = cond (eqb step 0) (get_or s.samples 0 0) (get_or s.samples 29 0);
      alarm = s.alarm;
    }

-- What becomes of a payload: what it appends, or its refusal; and the receiver after it.
pub record Received : Type 0 where
  pub answer : Result Appended Refusal
  pub receiver : Receiver

-- The number of an answer, 0 where it is no refusal; and what it appends: beside a refusal nothing, with the unused places 0.
abbrev pub number_of : Result Appended Refusal → ℕ
number_of (Ok appended) = sound
number_of (Err refusal) = number refusal

abbrev pub nothing_appended : Appended
nothing_appended = record { fills = 0; fill = 0; carried = 0; periods = replicate 30 0 }

abbrev pub appended_of : Result Appended Refusal → Appended
appended_of (Ok appended) = appended
appended_of (Err refusal) = nothing_appended

abbrev pub number_in : Received → ℕ
number_in x = number_of x.answer

abbrev pub appended_in : Received → Appended
appended_in x = appended_of x.answer

-- "The answer is the fill count, fill content, carried count and carried periods".
abbrev pub appended : Receiver → Signalling → ℕ → Received
appended r s step =
    record {
      answer = Ok (record {
        fills = fill_count step;
        fill = fill_of r step;
        carried = carried_count step;
        periods = periods_of s.samples step;
      });
      receiver = receiver_after r s step;
    }

-- A refused payload changes nothing.
abbrev pub passed_over : Receiver → Refusal → Received
passed_over r refusal = record { answer = Err refusal; receiver = r }

-- "as older and change nothing": 19, and only where reading refuses nothing, so "after 15".
abbrev pub replayed : Receiver → Signalling → ℕ → Received
replayed r s step = cond (older farthest step) (passed_over r OlderPayload) (appended r s step)

abbrev pub received_by : Receiver → Result Signalling Refusal → Received
received_by r (Ok signalling) = replayed r signalling (step_from r signalling.sequence)
received_by r (Err refusal) = passed_over r refusal

unfoldable pub received : Receiver → List ℕ → Received
received r payload = received_by r (signalling_read payload)
