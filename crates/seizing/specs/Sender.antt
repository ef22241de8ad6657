-- Sending signalling (document 01, "Senders, per 20 ms"): "ten samples and the alarm bit; a start value is given."
use Rattle.std.specs.Prelude.{ℕ, zero, suc, ◌+◌, List, ◌++◌, Bool, true, false, cond, ltb, eqb, get_or, drop, replicate, Option, Some, None, Result, Ok, Err}
use Rattle.refusal.specs.declared.Refusal.{Refusal}
use Rattle.refusal.specs.declared.Refusal.TheVariants.{ValueOutOfRange}
use Rattle.counts.specs.Round.{onward}
use Rattle.signalling.specs.declared.layout.Signalling.{Signalling}
use Rattle.seizing.specs.declared.Entry.{Entry}
use Rattle.seizing.specs.declared.Sender.{Sender}
use Rattle.seizing.specs.declared.Decision.{Decision}
use Rattle.seizing.specs.declared.Decision.TheVariants.{Sends, Repeats, Rests}
use Rattle.signalling.specs.Layout.{allowed, all_allowed}

-- "the start state standing before the first". The first number is to be 0, so the one before it is 127.
abbrev pub sender_from : ℕ → Sender
sender_from value = record { last = record { 0 = 127 }; before = value; quiet = 0; windows = replicate 30 value }

abbrev pub started : ℕ → Result Sender Refusal
started value = cond (allowed value) (Ok (sender_from value)) (Err ValueOutOfRange)

-- every sample of n, from place i on, equals a sample
unfoldable pub all_equal : ℕ → ℕ → ℕ → List ℕ → Bool
all_equal sample zero i samples = true
all_equal sample (suc n) i samples = cond (eqb sample (get_or samples i 0)) (all_equal sample n (suc i) samples) false

-- "A period is quiet when its ten samples equal the sample before it."
abbrev pub is_quiet : Sender → Entry → Bool
is_quiet s e = all_equal s.before 10 0 e.samples

-- "Of a run of quiet periods the first 25 are sent (500 ms); after that the last payload is repeated at the 250th quiet
-- period after the 25th and every 250 from there .. Any other period is sent", by the quiet periods of the run before it:
-- 274 before the 250th after the 25th.
abbrev pub decision : Bool → ℕ → Decision
decision quiet run = cond quiet (cond (ltb run 25) Sends (cond (ltb run 274) Rests Repeats)) Sends

-- the quiet periods of the run with this one, counted as 25 again after each repeat
abbrev pub run_after : Bool → ℕ → ℕ
run_after quiet run = cond quiet (cond (ltb run 274) (run + 1) 25) 0

abbrev pub decision_of : Sender → Entry → Decision
decision_of s e = decision (is_quiet s e) s.quiet

-- "Its windows are the last three sent periods".
abbrev pub windows_after : List ℕ → List ℕ → List ℕ
windows_after windows samples = drop 10 windows ++ samples

-- "Each sent period raises the sequence by one"
abbrev pub after_sent : Sender → Entry → Sender
after_sent s e =
    record {
      last = record { 0 = onward 7 s.last.0 1 };
      before = get_or e.samples 9 0;
      quiet = run_after (is_quiet s e) s.quiet;
      windows = windows_after s.windows e.samples;
    }

-- "Unsent periods have no number", and a repeat leaves the "sequence unchanged".
abbrev pub after_unsent : Sender → Entry → Sender
after_unsent s e =
    record {
      last = s.last;
      before = get_or e.samples 9 0;
      quiet = run_after (is_quiet s e) s.quiet;
      windows = s.windows;
    }

-- the payload of a state: its last number and windows, "alarm bit fresh"
abbrev pub payload_of : Sender → Bool → Signalling
payload_of s alarm = record { alarm = alarm; sequence = s.last; samples = s.windows }

-- What becomes of a period: it is refused, nothing goes out, or a payload does; and the sender after it.
pub record Sent : Type 0 where
  pub answer : Result (Option Signalling) Refusal
  pub sender : Sender

abbrev pub going_out : Sender → Bool → Sent
going_out s alarm = record { answer = Ok (Some (payload_of s alarm)); sender = s }

abbrev pub resting : Sender → Sent
resting s = record { answer = Ok None; sender = s }

-- A period that is not refused: "the last payload is repeated" as it stands after the last sent period.
unfoldable pub period : Sender → Entry → Decision → Sent
period s e Sends = going_out (after_sent s e) e.alarm
period s e Repeats = going_out (after_unsent s e) e.alarm
period s e Rests = resting (after_unsent s e)

-- A refused one leaves the state as it was.
abbrev pub refused : Sender → Refusal → Sent
refused s refusal = record { answer = Err refusal; sender = s }

unfoldable pub sent : Sender → Entry → Sent
sent s e = cond (all_allowed 10 0 e.samples) (period s e (decision_of s e)) (refused s ValueOutOfRange)
