-- The fax replay (document 02, wish 1; FRF.11, Annex D): what a fax payload of a sub-channel brings about.
use Rattle.std.specs.Prelude.{ℕ, ◌-◌, List, [], ◌∷◌, ◌++◌, reverse, Bool, true, false, cond, not, ◌&&◌, ltb, eqb, length, get_or, take, drop, replicate, Option, None, Some, Result, Ok, Err}
use Rattle.std.specs.Option.{is_some, option_map, option_map_or}
use Rattle.refusal.specs.declared.Refusal.{Refusal}
use Rattle.refusal.specs.declared.Refusal.TheVariants.{NoModulation, AgainstModulation}
use Rattle.refusal.specs.Numbers.{sound, number}
use Rattle.refusal.specs.Order.{Test, ◌gives◌, in_order}
use Rattle.counts.specs.Round.{step}
use Rattle.replay.specs.Rule.{carried_count}
use Rattle.fax.specs.declared.Command.{Command}
use Rattle.fax.specs.declared.Command.TheVariants.{Off, On, Page, EndOfFrame, Abort}
use Rattle.fax.specs.declared.Fax.{Fax}
use Rattle.fax.specs.Fax.{code_of, stamp_number, fax_read}
use Rattle.faxing.specs.declared.Receiver.{Receiver}
use Rattle.faxing.specs.declared.InForce.{InForce}
use Rattle.faxing.specs.declared.Did.{Did}
use Rattle.faxing.specs.declared.Did.TheVariants.{Nothing, Began, Stopped, Added, Ended, Aborted}
use Rattle.faxing.specs.declared.Handed.{Handed}

-- ---- The state: no modulation is on; or one is, and of the payload taken just before it has the command's code, the number and the
-- stamp. With none on, the payload taken just before was an off, if there was one, and only an off could repeat it: that does nothing
-- either way.

abbrev pub fresh_receiver : Receiver
fresh_receiver = record { 0 = None }

abbrev pub is_on : Receiver → Bool
is_on r = is_some r.0

abbrev pub under_hdlc : Receiver → Bool
under_hdlc r = option_map_or (λ (on : InForce). on.hdlc) r.0 false

-- ---- "Refusals: 41 .. 42 ..; after 15, 41 first."

-- "72, 60, 48, 36, 24 or 12 octets for 14400 down to 2400 bit/s", by the codes of Figure D-7; under a single
-- tone or V.21 none, which no data payload has: 0
abbrev pub page_sizes : List ℕ
page_sizes = 0 ∷ 0 ∷ 12 ∷ 24 ∷ 36 ∷ 48 ∷ 60 ∷ 72 ∷ 36 ∷ 48 ∷ 60 ∷ 72 ∷ []

-- the data octets that the modulation in force asks: "3 under HDLC"
abbrev pub data_size : Receiver → ℕ
data_size r = option_map_or (λ (on : InForce). cond on.hdlc 3 (get_or page_sizes on.modulation 0)) r.0 0

-- "data, end-of-frame or abort"
abbrev pub needs_modulation : Command → Bool
needs_modulation Off = false
needs_modulation (On hdlc modulation frequency) = false
needs_modulation Page = true
needs_modulation EndOfFrame = true
needs_modulation Abort = true

-- "data length against the modulation .., or end-of-frame or abort without HDLC"
abbrev pub against : Receiver → Command → ℕ → Bool
against r Off size = false
against r (On hdlc modulation frequency) size = false
against r Page size = not (eqb size (data_size r))
against r EndOfFrame size = not (under_hdlc r)
against r Abort size = not (under_hdlc r)

-- of a payload with so many data octets
abbrev pub refusals : Receiver → Command → ℕ → List Test
refusals r command size =
    (needs_modulation command && not (is_on r)) gives NoModulation
    ∷ against r command size gives AgainstModulation
    ∷ []

-- ---- "each acts once, a repeat being the same command, number and stamp as the payload taken just before"

abbrev pub same_stamp : Option ℕ → Option ℕ → Bool
same_stamp None None = true
same_stamp None (Some b) = false
same_stamp (Some a) None = false
same_stamp (Some a) (Some b) = eqb a b

-- "Modulation-on, modulation-off, end-of-frame and abort each come three times": data does not.
abbrev pub three_times : Command → Bool
three_times command = not (eqb (code_of command) (code_of Page))

abbrev pub repeats : Receiver → Command → ℕ → Option ℕ → Bool
repeats r command number stamp =
    option_map_or
    (λ (on : InForce). three_times command && (eqb on.code (code_of command) && (eqb on.last.0 number && same_stamp on.stamp stamp)))
    r.0 false

-- "An off that is no repeat, with none on, changes nothing."
abbrev pub idle : Receiver → Command → Bool
idle r command = eqb (code_of command) (code_of Off) && not (is_on r)

-- ---- What a payload adds, by its step

-- the step from the payload taken just before, modulo 16; with none on that is not kept, and no step is asked for
abbrev pub step_from : Receiver → ℕ → ℕ
step_from r number = option_map_or (λ (on : InForce). step 4 on.last.0 number) r.0 0

-- How many of its octets. Data under HDLC: "a step of 1, 2 or 3 modulo 16 adds that many octets ..; from 4 on, all three". "An
-- end-of-frame or abort adds one octet fewer than its step, at most three". "step 0 adds nothing anywhere".
abbrev pub add_count : Bool → Command → ℕ → ℕ → ℕ
add_count hdlc Off step size = 0
add_count hdlc (On to_hdlc modulation frequency) step size = 0
add_count hdlc Page step size = cond hdlc (carried_count step) (cond (eqb step 0) 0 size)
add_count hdlc EndOfFrame step size = carried_count (step - 1)
add_count hdlc Abort step size = carried_count (step - 1)

-- Whether octets are missing before these: data under HDLC "from 4 on .. after a reported gap"; "with a gap from 5 on"; "Without
-- HDLC, and at modulation-off, steps above 1 report a gap". On begins the number anew (D.3.8), and has no step.
abbrev pub gap_at : Bool → Command → ℕ → Bool
gap_at hdlc Off step = ltb 1 step
gap_at hdlc (On to_hdlc modulation frequency) step = false
gap_at hdlc Page step = ltb (cond hdlc 3 1) step
gap_at hdlc EndOfFrame step = ltb 4 step
gap_at hdlc Abort step = ltb 4 step

-- "the newest octet first": the newest n, "oldest first", in 72 places, of which the others are 0
abbrev pub handed_on : ℕ → List ℕ → List ℕ
handed_on n body = reverse (take n body) ++ replicate (72 - n) 0

-- what the command does, with what the modulator needs
abbrev pub did_by : Command → Option ℕ → Did
did_by Off stamp = Stopped (stamp_number stamp)
did_by (On hdlc modulation frequency) stamp = Began hdlc modulation frequency (stamp_number stamp)
did_by Page stamp = Added
did_by EndOfFrame stamp = Ended
did_by Abort stamp = Aborted

-- The replay after a payload that is taken, which is then the one taken just before. On has any number, and data goes on from it.
abbrev pub taken_in_force : Receiver → ℕ → ℕ → Option ℕ → Receiver
taken_in_force r code number stamp =
    record {
      0 = option_map
          (λ (on : InForce). record { hdlc = on.hdlc; modulation = on.modulation; code = code; last = record { 0 = number }; stamp = stamp })
          r.0;
    }

abbrev pub receiver_after : Receiver → Command → ℕ → Option ℕ → Receiver
receiver_after r Off number stamp = record { 0 = None }
receiver_after r (On hdlc modulation frequency) number stamp =
    record {
      0 = Some (record {
        hdlc = hdlc;
        modulation = modulation;
        code = code_of (On hdlc modulation frequency);
        last = record { 0 = number };
        stamp = stamp;
      });
    }
receiver_after r Page number stamp = taken_in_force r (code_of Page) number stamp
receiver_after r EndOfFrame number stamp = taken_in_force r (code_of EndOfFrame) number stamp
receiver_after r Abort number stamp = taken_in_force r (code_of Abort) number stamp

-- ---- The answer

-- What becomes of a payload: what it hands on, or its refusal; and the replay after it.
pub record Received : Type 0 where
  pub answer : Result Handed Refusal
  pub receiver : Receiver

-- The number of an answer, 0 where it is no refusal; and what it hands on: beside a refusal nothing.
abbrev pub number_of : Result Handed Refusal → ℕ
number_of (Ok handed) = sound
number_of (Err refusal) = number refusal

abbrev pub nothing_handed : Handed
nothing_handed = record { gap = false; count = 0; octets = replicate 72 0; did = Nothing }

abbrev pub handed_of : Result Handed Refusal → Handed
handed_of (Ok handed) = handed
handed_of (Err refusal) = nothing_handed

abbrev pub number_in : Received → ℕ
number_in x = number_of x.answer

abbrev pub handed_in : Received → Handed
handed_in x = handed_of x.answer

-- a repeat, or an off with none on: the replay as it was
abbrev pub nothing_done : Receiver → Received
nothing_done r = record { answer = Ok nothing_handed; receiver = r }

-- a refusal: the replay as it was
abbrev pub refused : Receiver → Refusal → Received
refused r refusal = record { answer = Err refusal; receiver = r }

-- a payload that is taken, with this step
unfoldable pub acting : Receiver → ℕ → Option ℕ → Command → List ℕ → ℕ → Received
acting r number stamp command body step =
    let count = add_count (under_hdlc r) command step (length body) in
    record {
      answer = Ok (record {
        gap = gap_at (under_hdlc r) command step;
        count = count;
        octets = handed_on count body;
        did = did_by command stamp;
      });
      receiver = receiver_after r command number stamp;
    }

-- a payload that is read, with its data octets
unfoldable pub taken_by : Receiver → ℕ → Option ℕ → Command → List ℕ → Received
taken_by r number stamp command body =
    in_order (refusals r command (length body)) (refused r)
    (cond (repeats r command number stamp) (nothing_done r)
    (cond (idle r command) (nothing_done r) (acting r number stamp command body (step_from r number))))

abbrev pub received_by : Receiver → List ℕ → Result Fax Refusal → Received
received_by r payload (Ok fax) = taken_by r fax.sequence fax.stamp fax.command (drop fax.front payload)
received_by r payload (Err refusal) = refused r refusal

-- What reading refuses comes first.
unfoldable pub received : Receiver → List ℕ → Received
received r payload = received_by r payload (fax_read payload)
