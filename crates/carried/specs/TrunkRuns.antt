-- Runs that meet what TrunkDigitsCarried and TrunkSignallingCarried ask: on an acelp sub-channel, those of DigitRuns.antt and
-- SignallingRuns.antt with other payloads before each of the sender's. Proved in proofs/TrunkRuns.antt.
use Rattle.std.specs.Prelude.{◌≡◌, List, [], ◌∷◌, ◌++◌, map, true, false, replicate, pos, Option, None, Some}
use Rattle.refusal.specs.declared.Refusal.TheVariants.{NotProvisioned, TypeNotAllowed, LengthWrong}
use Rattle.record.specs.declared.syntax.Record.{Record}
use Rattle.record.specs.declared.syntax.Syntax.TheVariants.{Acelp}
use Rattle.sid.specs.declared.Sid.TheVariants.{Plain}
use Rattle.fax.specs.declared.Command.TheVariants.{On, Page}
use Rattle.digits.specs.Layout.{off_window}
use Rattle.payload.specs.Content.{Reading, reads, refused, speech, silent, faxed, dialled, seized, payload_read}
use Rattle.carried.specs.Emissions.{Emission}
use Rattle.carried.specs.DigitRuns as digit-runs
use Rattle.carried.specs.SignallingRuns as signalling-runs
use Rattle.carried.specs.Trunks.{Coming, came, other, DigitsGiven, SignallingGiven}

abbrev pub acelp : Option Record
acelp = Some (record { syntax = Acelp; m = 1; seq = false })

-- Payloads of other kinds, by type and octets: voice, a silence descriptor, fax data, which a trunk refuses with 41, and
-- modulation-on; voice of no octet and a type that no sub-channel has, which are refused.
abbrev pub others : List Coming
others = other 0 (replicate 10 170) ∷ other 4 [] ∷ other 3 (10 ∷ 65 ∷ 255 ∷ 255 ∷ []) ∷ other 3 (129 ∷ 232 ∷ 3 ∷ 129 ∷ 0 ∷ 0 ∷ []) ∷ other 0 [] ∷ other 9 [] ∷ []

-- Among digits also signalling, and digits of no octet; among signalling also digits, and signalling of no octet.
abbrev pub amid_digits : List Coming
amid_digits = others ++ other 2 (129 ∷ replicate 15 255) ∷ other 1 [] ∷ []

abbrev pub amid_signalling : List Coming
amid_signalling = others ++ other 1 (7 ∷ 0 ∷ 34 ∷ 5 ∷ 0 ∷ 0 ∷ 0 ∷ 0 ∷ []) ∷ other 2 [] ∷ []

-- They read so. A payload of the sender is none of them: it stands here as 11, which no payload of this sub-channel gets.
abbrev pub reading_of : Coming → Reading
reading_of (came p) = refused NotProvisioned
reading_of (other ptype octets) = payload_read acelp ptype octets

abbrev pub other_readings : List Reading
other_readings =
    reads (speech (record { 0 = 0 }) 0 (replicate 10 170))
    ∷ reads (silent Plain)
    ∷ reads (faxed 1 None Page (65 ∷ 255 ∷ 255 ∷ []))
    ∷ reads (faxed 0 (Some 1000) (On true 1 0) [])
    ∷ refused LengthWrong
    ∷ refused TypeNotAllowed
    ∷ []

abbrev pub signalling_reading : Reading
signalling_reading = reads (seized (record { alarm = true; sequence = record { 0 = 1 }; samples = replicate 30 15 }))

abbrev pub digits_reading : Reading
digits_reading =
    reads
    (dialled
    (record {
      sequence = record { 0 = 7 };
      level = pos 0;
      current = record { on = true; edge = 2; code = 5 };
      recent = off_window;
      previous = off_window;
    }))

-- all of some others before each payload of the sender
abbrev pub each : List Coming → List Emission → List Coming
each before [] = []
each before (p ∷ ps) = before ++ came p ∷ each before ps

pub record Runs : Type 0 where
  pub amid_digits_is : map reading_of amid_digits ≡ other_readings ++ signalling_reading ∷ refused LengthWrong ∷ []
  pub amid_signalling_is : map reading_of amid_signalling ≡ other_readings ++ digits_reading ∷ refused LengthWrong ∷ []
  pub digits : DigitsGiven acelp digit-runs.call (each amid_digits digit-runs.first) (each amid_digits digit-runs.second)
  pub signalling : SignallingGiven acelp 0 signalling-runs.line (each amid_signalling signalling-runs.first) (each amid_signalling signalling-runs.second)
