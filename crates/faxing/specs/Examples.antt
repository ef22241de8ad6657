-- Worked runs of a fax replay from its start (document 02, wish 1), on the definitions: what each payload hands on. Worked by hand;
-- proofs/Examples.antt computes them.
use Rattle.std.specs.Prelude.{ℕ, ◌+◌, ◌-◌, ◌*◌, ◌≡◌, List, [], ◌∷◌, ◌++◌, reverse, Bool, true, false, length, replicate, Result, Ok, Err}
use Rattle.refusal.specs.declared.Refusal.{Refusal}
use Rattle.refusal.specs.declared.Refusal.TheVariants.{NoModulation, AgainstModulation}
use Rattle.faxing.specs.declared.Receiver.{Receiver}
use Rattle.faxing.specs.declared.Handed.{Handed}
use Rattle.faxing.specs.declared.Did.{Did}
use Rattle.faxing.specs.declared.Did.TheVariants.{Nothing, Began, Stopped, Added, Ended, Aborted}
use Rattle.faxing.specs.Replay.{fresh_receiver, received}

-- the answers to payloads that come one after the other
abbrev pub told : Receiver → List (List ℕ) → List (Result Handed Refusal)
told r [] = []
told r (payload ∷ payloads) = (received r payload).answer ∷ told (received r payload).receiver payloads

-- these octets, with zeros behind them
abbrev hands : Bool → List ℕ → Did → Result Handed Refusal
hands gap octets did =
    Ok (record { gap = gap; count = length octets; octets = octets ++ replicate (72 - length octets) 0; did = did })

abbrev refuses : Refusal → Result Handed Refusal
refuses refusal = Err refusal

-- modulation began at `on`, nothing was done, modulation stopped at `off`
abbrev begun : Result Handed Refusal
begun = hands false [] (Began true 1 0 1000)

abbrev nothing : Result Handed Refusal
nothing = hands false [] Nothing

abbrev stopped : Result Handed Refusal
stopped = hands false [] (Stopped 1500)

-- Payloads. Modulation-on, number 0, at 1,000 ms: with HDLC and V.21 (81e803810000), or without HDLC at 2400 bit/s.
abbrev pub on : List ℕ
on = 129 ∷ 232 ∷ 3 ∷ 129 ∷ 0 ∷ 0 ∷ []

abbrev pub page_on : List ℕ
page_on = 129 ∷ 232 ∷ 3 ∷ 2 ∷ 0 ∷ 0 ∷ []

-- HDLC data, end-of-frame and abort of number n, with three octets, newest first; T.4 data, with its octets oldest first
abbrev pub hdlc : ℕ → ℕ → ℕ → ℕ → List ℕ
hdlc n x y z = (8 * n + 2) ∷ x ∷ y ∷ z ∷ []

abbrev pub end : ℕ → ℕ → ℕ → ℕ → List ℕ
end n x y z = (8 * n + 3) ∷ x ∷ y ∷ z ∷ []

abbrev pub abort : ℕ → ℕ → ℕ → ℕ → List ℕ
abort n x y z = (8 * n + 4) ∷ x ∷ y ∷ z ∷ []

abbrev pub t4 : ℕ → List ℕ → List ℕ
t4 n octets = (8 * n + 2) ∷ reverse octets

-- modulation-off of number n at 1,500 ms
abbrev pub off : ℕ → List ℕ
off n = (128 + 8 * n) ∷ 220 ∷ 5 ∷ []

-- the octets of two T.4 payloads
abbrev pub one : List ℕ
one = 1 ∷ 2 ∷ 3 ∷ 4 ∷ 5 ∷ 6 ∷ 7 ∷ 8 ∷ 9 ∷ 10 ∷ 11 ∷ 12 ∷ []

abbrev pub two : List ℕ
two = 13 ∷ 14 ∷ 15 ∷ 16 ∷ 17 ∷ 18 ∷ 19 ∷ 20 ∷ 21 ∷ 22 ∷ 23 ∷ 24 ∷ []

-- run by run: what each payload hands on
pub record Worked : Type 0 where
  -- A frame of three octets, 65 to 67 (hex 41 to 43), all payloads arriving: each command acts once.
  pub every_payload :
      told fresh_receiver
      (on ∷ on ∷ on ∷ hdlc 1 65 255 255 ∷ hdlc 2 66 65 255 ∷ hdlc 3 67 66 65
      ∷ end 4 67 66 65 ∷ end 4 67 66 65 ∷ end 4 67 66 65 ∷ off 5 ∷ off 5 ∷ off 5 ∷ [])
      ≡ begun ∷ nothing ∷ nothing ∷ hands false (65 ∷ []) Added ∷ hands false (66 ∷ []) Added ∷ hands false (67 ∷ []) Added
      ∷ hands false [] Ended ∷ nothing ∷ nothing ∷ stopped ∷ nothing ∷ nothing ∷ []
  -- The first two data payloads lost: the third brings all three.
  pub two_lost_first :
      told fresh_receiver (on ∷ hdlc 3 67 66 65 ∷ end 4 67 66 65 ∷ off 5 ∷ [])
      ≡ begun ∷ hands false (65 ∷ 66 ∷ 67 ∷ []) Added ∷ hands false [] Ended ∷ stopped ∷ []
  -- The last two lost: the end brings them.
  pub two_lost_last :
      told fresh_receiver (on ∷ hdlc 1 65 255 255 ∷ end 4 67 66 65 ∷ off 5 ∷ [])
      ≡ begun ∷ hands false (65 ∷ []) Added ∷ hands false (66 ∷ 67 ∷ []) Ended ∷ stopped ∷ []
  -- Three data payloads lost before a data payload: a gap is told, and octet 65 is missing.
  pub three_lost :
      told fresh_receiver (on ∷ hdlc 4 68 67 66 ∷ end 5 68 67 66 ∷ off 6 ∷ [])
      ≡ begun ∷ hands true (66 ∷ 67 ∷ 68 ∷ []) Added ∷ hands false [] Ended ∷ stopped ∷ []
  -- Three lost before an end, which brings them: no gap.
  pub three_lost_before_an_end :
      told fresh_receiver (on ∷ end 4 67 66 65 ∷ off 5 ∷ []) ≡ begun ∷ hands false (65 ∷ 66 ∷ 67 ∷ []) Ended ∷ stopped ∷ []
  -- Four lost before an end: a gap is told.
  pub four_lost_before_an_end :
      told fresh_receiver (on ∷ end 5 68 67 66 ∷ off 6 ∷ []) ≡ begun ∷ hands true (66 ∷ 67 ∷ 68 ∷ []) Ended ∷ stopped ∷ []
  -- The same of an abort: three lost before one, which comes twice; an empty frame; four lost before the next.
  pub aborts :
      told fresh_receiver (on ∷ abort 4 67 66 65 ∷ abort 4 67 66 65 ∷ abort 5 67 66 65 ∷ abort 10 71 70 69 ∷ off 11 ∷ [])
      ≡ begun ∷ hands false (65 ∷ 66 ∷ 67 ∷ []) Aborted ∷ nothing ∷ hands false [] Aborted
      ∷ hands true (69 ∷ 70 ∷ 71 ∷ []) Aborted ∷ stopped ∷ []
  -- 41 with none on, of data, an end and an abort; an off with none on changes nothing; 42 of T.4 data under HDLC; an on while on, at
  -- 1,001 ms; 42 of HDLC data, an end and an abort without HDLC.
  pub out_of_place :
      told fresh_receiver
      (hdlc 1 65 255 255 ∷ end 4 67 66 65 ∷ abort 4 67 66 65 ∷ off 5
      ∷ on ∷ t4 1 one ∷ (129 ∷ 233 ∷ 3 ∷ 2 ∷ 0 ∷ 0 ∷ []) ∷ hdlc 1 65 255 255 ∷ end 4 67 66 65 ∷ abort 4 67 66 65 ∷ [])
      ≡ refuses NoModulation ∷ refuses NoModulation ∷ refuses NoModulation ∷ nothing
      ∷ begun ∷ refuses AgainstModulation ∷ hands false [] (Began false 2 0 1001) ∷ refuses AgainstModulation ∷ refuses AgainstModulation ∷ refuses AgainstModulation ∷ []
  -- T.4 at 2400 bit/s, oldest octet first; a step of 0 adds nothing, one of 2 tells a gap.
  pub at_twelve_octets :
      told fresh_receiver (page_on ∷ t4 1 one ∷ t4 1 (replicate 12 238) ∷ t4 3 two ∷ off 4 ∷ [])
      ≡ hands false [] (Began false 2 0 1000) ∷ hands false one Added ∷ hands false [] Added ∷ hands true two Added ∷ stopped ∷ []
  -- A single tone of 1,100 Hz carries no data.
  pub single_tone :
      told fresh_receiver ((129 ∷ 232 ∷ 3 ∷ 0 ∷ 76 ∷ 4 ∷ []) ∷ hdlc 1 65 255 255 ∷ off 1 ∷ [])
      ≡ hands false [] (Began false 0 1100 1000) ∷ refuses AgainstModulation ∷ stopped ∷ []
  -- An end of the same number with a stamp is another end; an off two numbers on tells a gap.
  pub another_stamp :
      told fresh_receiver (on ∷ hdlc 1 65 255 255 ∷ end 2 65 255 255 ∷ (147 ∷ 100 ∷ 0 ∷ 65 ∷ 255 ∷ 255 ∷ []) ∷ off 4 ∷ [])
      ≡ begun ∷ hands false (65 ∷ []) Added ∷ hands false [] Ended ∷ hands false [] Ended ∷ hands true [] (Stopped 1500) ∷ []
  -- An on of the same number and stamp is a repeat, whatever its modulation.
  pub same_on :
      told fresh_receiver (on ∷ page_on ∷ hdlc 1 65 255 255 ∷ []) ≡ begun ∷ nothing ∷ hands false (65 ∷ []) Added ∷ []
