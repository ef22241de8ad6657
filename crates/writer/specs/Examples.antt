-- The writer's refusals at their borders, one line a case (document 01, "Refusal numbers"). Proved in proofs/Examples.antt.
use Rattle.std.specs.Prelude.{ℕ, ◌≡◌, List, [], ◌∷◌, map, Bool, true, false, replicate, Option, Some, None}
use Rattle.refusal.specs.Numbers.{number}
use Rattle.record.specs.declared.syntax.Syntax.TheVariants.{Acelp, Pcm, Data}
use Rattle.payload.specs.Content.{Content, speech, fragment}
use Rattle.place.specs.declared.Writer.{Writer}
use Rattle.place.specs.Place.{fresh_writer}
use Rattle.writer.specs.Writer.{Writing, writes, refuses, writing}
use Rattle.record.specs.declared.syntax.Record.{Record}

abbrev pub acelp : Option Record
acelp = Some (record { syntax = Acelp; m = 1; seq = false })

abbrev pub pcm : Option Record
pcm = Some (record { syntax = Pcm; m = 12; seq = true })

abbrev pub alarms : Option Record
alarms = Some (record { syntax = Data; m = 1; seq = false })

-- pcm of coding type 0, twelve blocks: 481 octets (bench example 14)
abbrev pub twelve : Content
twelve = speech (record { 0 = 0 }) 0 (replicate 480 0)

-- a data content of two octets and n more
abbrev pub octets : ℕ → Content
octets n = fragment true true (record { 0 = 0 }) (replicate n 0)

abbrev pub standing : ℕ → ℕ → Bool → Writer
standing at count done = record { at = at; count = count; done = done }

pub record Case : Type 0 where
  pub room : ℕ
  pub writer : Writer
  pub last : Bool
  pub found : Option Record
  pub cid : ℕ
  pub content : Content

abbrev pub number_of : Writing → ℕ
number_of (writes octets next) = 0
number_of (refuses refusal) = number refusal

abbrev pub told : Case → ℕ
told c = number_of (writing c.room c.writer c.last c.found c.cid c.content)

abbrev pub case : ℕ → Writer → Bool → Option Record → ℕ → Content → Case
case room writer last found cid content = record { room = room; writer = writer; last = last; found = found; cid = cid; content = content }

unfoldable pub cases : List Case
cases =
    -- 24, then 4, then 11, then 12, then 16
    case 0 (standing 0 0 true) true None 3 twelve
    ∷ case 0 fresh_writer true None 3 twelve
    ∷ case 0 fresh_writer true None 9 twelve
    ∷ case 0 fresh_writer true acelp 9 (octets 1)
    ∷ case 0 fresh_writer true pcm 9 (speech (record { 0 = 0 }) 14 [])
    -- 22, then 23, then 21
    ∷ case 0 (standing 1500 0 false) false pcm 9 twelve
    ∷ case 0 (standing 1500 0 false) true pcm 9 twelve
    ∷ case 0 (standing 0 64 false) true pcm 9 twelve
    ∷ case 481 fresh_writer true pcm 9 twelve
    -- taken: as last, in room that it just fills
    ∷ case 482 fresh_writer true pcm 9 twelve
    -- 255 octets and 256, not last; 256 as last
    ∷ case 1600 fresh_writer false alarms 9 (octets 253)
    ∷ case 1600 fresh_writer false alarms 9 (octets 254)
    ∷ case 1600 fresh_writer true alarms 9 (octets 254)
    -- the 64th that is not last, and one that is not last and ends at octet 1,600
    ∷ case 1600 (standing 0 63 false) false alarms 9 (octets 1)
    ∷ case 1600 (standing 1343 0 false) false alarms 9 (octets 253)
    ∷ case 1601 (standing 1344 0 false) false alarms 9 (octets 253)
    ∷ []

abbrev pub due : List ℕ
due = 24 ∷ 4 ∷ 11 ∷ 12 ∷ 16 ∷ 22 ∷ 23 ∷ 23 ∷ 21 ∷ 0 ∷ 0 ∷ 22 ∷ 0 ∷ 0 ∷ 0 ∷ 23 ∷ []

abbrev pub Refusals : Type 0
Refusals = map told cases ≡ due
