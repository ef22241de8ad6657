-- Worked runs of the fax replay where the theorems do not hold, or only just (document 02, wish 1): what the user must know. Worked by
-- hand; proofs/Examples.antt computes them.
use Rattle.std.specs.Prelude.{ℕ, ◌≡◌, List, [], ◌∷◌, ◌++◌, map, true, false, replicate, Option, None, Some}
use Rattle.refusal.specs.declared.Refusal.TheVariants.{NoModulation}
use Rattle.record.specs.declared.syntax.Syntax.TheVariants.{Acelp}
use Rattle.record.specs.declared.syntax.Record.{Record}
use Rattle.faxing.specs.Replay.{fresh_receiver}
use Rattle.faxing.specs.Examples.{on, page_on, hdlc, end, t4, off, one, two}
use Rattle.faxed.specs.Events.{begins, page, gap, ends, stops, refused, handed}
use Rattle.faxed.specs.Run.{once, thrice, ended, Item, octet, close, FaxCall, ones, Honest, sent, Arrives}
use Rattle.faxed.specs.Complete.{complete}
use Rattle.faxed.specs.Pages.{Block, arrives, lost, PageCall, came, HonestPages, all_due}
use Rattle.faxed.specs.Session.{Session}
use Rattle.faxed.specs.Trunks.{Coming, fax_among}

-- A call of one frame with the octets 65 to 68 (41 to 44), and the payloads sent for it.
abbrev frame : List ℕ → List Item
frame [] = close ended None ∷ []
frame (o ∷ os) = octet o None ∷ frame os

abbrev pub call : FaxCall
call =
    record {
      first = 0;
      begun = 1000;
      modulation = 1;
      frequency = 0;
      items = frame (65 ∷ 66 ∷ 67 ∷ 68 ∷ []);
      stopped = 1500;
    }

abbrev pub Sent : Type 0
Sent =
    sent ones call
    ≡ thrice on
    ∷ once (10 ∷ 65 ∷ 255 ∷ 255 ∷ [])
    ∷ once (18 ∷ 66 ∷ 65 ∷ 255 ∷ [])
    ∷ once (26 ∷ 67 ∷ 66 ∷ 65 ∷ [])
    ∷ once (34 ∷ 68 ∷ 67 ∷ 66 ∷ [])
    ∷ thrice (43 ∷ 68 ∷ 67 ∷ 66 ∷ [])
    ∷ thrice (176 ∷ 220 ∷ 5 ∷ [])
    ∷ []

-- What `HandedComplete` asks can be met: the second and the third data payload lost, the end arriving twice, the others once.
abbrev pub arrived : List (List ℕ)
arrived = on ∷ hdlc 1 65 255 255 ∷ hdlc 4 68 67 66 ∷ end 5 68 67 66 ∷ end 5 68 67 66 ∷ off 6 ∷ []

abbrev pub Met : Type 0
Met = Honest call × Arrives 0 (sent ones call) arrived

-- What `TrunkHandsComplete` asks can be met: the same payloads, each once, on an acelp sub-channel (type 3), with voice before them, and
-- a digits payload and one of a type that no sub-channel has between them.
abbrev acelp : Option Record
acelp = Some (record { syntax = Acelp; m = 1; seq = false })

abbrev coming : ℕ → List ℕ → Coming
coming ptype octets = record { ptype = ptype; octets = octets }

abbrev pub TrunkMet : Type 0
TrunkMet =
    Arrives 0 (sent ones call)
    (fax_among acelp
    (coming 0 (replicate 10 170)
    ∷ coming 3 on
    ∷ coming 3 (hdlc 1 65 255 255)
    ∷ coming 1 (replicate 8 0)
    ∷ coming 3 (hdlc 4 68 67 66)
    ∷ coming 9 []
    ∷ coming 3 (end 5 68 67 66)
    ∷ coming 3 (off 6)
    ∷ []))

-- What `PagesHanded` asks can be met: three payloads at 2400 bit/s, the second lost; and a single tone of 1,100 Hz.
abbrev block : ℕ → Block
block o = record { octets = replicate 12 o; stamp = None }

abbrev pub page_call : PageCall
page_call =
    record {
      first = 0;
      begun = 1000;
      modulation = 2;
      frequency = 0;
      blocks = arrives (block 1) ∷ lost (block 2) ∷ arrives (block 3) ∷ [];
      stopped = 1500;
      on_again = 2;
      off_again = 0;
    }

abbrev pub tone_call : PageCall
tone_call =
    record {
      first = 0;
      begun = 100;
      modulation = 0;
      frequency = 1100;
      blocks = [];
      stopped = 600;
      on_again = 1;
      off_again = 2;
    }

abbrev pub PagesMet : Type 0
PagesMet = HonestPages page_call × HonestPages tone_call

-- And what `SessionHanded` asks: the tone, the frame, the page.
abbrev pub SessionMet : Type 0
SessionMet =
    Session (came tone_call ++ (arrived ++ (came page_call ++ [])))
    (all_due tone_call ++ (complete call ++ (all_due page_call ++ [])))

-- modulation-on of the next call, at 2,000 ms
abbrev later_on : List ℕ
later_on = 129 ∷ 208 ∷ 7 ∷ 129 ∷ 0 ∷ 0 ∷ []

-- From a replay with no modulation on, run by run: what the payloads hand on.
pub record Worked : Type 0 where
  -- The bound is sharp: of `call`, with its first three data payloads lost, a gap is told, and octet 65 is missing.
  pub bound_is_sharp :
      handed fresh_receiver (on ∷ hdlc 4 68 67 66 ∷ end 5 68 67 66 ∷ off 6 ∷ [])
      ≡ begins true 1 0 1000 ∷ gap ∷ page 66 ∷ page 67 ∷ page 68 ∷ ends ∷ stops 1500 ∷ []
  -- Filler octets are handed on where an end is lost with all its copies and the first frame is short. A frame of one octet, lost with
  -- its end: the first octet of the next frame brings ff 41 42 (hex).
  pub filler_after_a_lost_end :
      handed fresh_receiver (on ∷ hdlc 3 66 65 255 ∷ []) ≡ begins true 1 0 1000 ∷ page 255 ∷ page 65 ∷ page 66 ∷ []
  -- An empty frame whose end is lost: the first octet of the next frame brings ff 42 (hex).
  pub filler_after_an_empty_frame :
      handed fresh_receiver (on ∷ hdlc 2 66 255 255 ∷ []) ≡ begins true 1 0 1000 ∷ page 255 ∷ page 66 ∷ []
  -- A modulation-off and the modulation-on behind it, both lost with all their copies, behind a frame whose end has the number 14 (of
  -- its 13 octets the last three came): the first octet of the next call brings ff ff 42 (hex), and nothing tells it.
  pub off_and_on_lost :
      handed fresh_receiver (on ∷ end 14 77 76 75 ∷ hdlc 1 66 255 255 ∷ [])
      ≡ begins true 1 0 1000 ∷ gap ∷ page 75 ∷ page 76 ∷ page 77 ∷ ends ∷ page 255 ∷ page 255 ∷ page 66 ∷ []
  -- A data payload that comes one late is a step of 15: it hands on all its three places after a gap, fillers too.
  pub late_data :
      handed fresh_receiver (on ∷ hdlc 2 66 65 255 ∷ hdlc 1 65 255 255 ∷ [])
      ≡ begins true 1 0 1000 ∷ page 65 ∷ page 66 ∷ gap ∷ page 255 ∷ page 255 ∷ page 65 ∷ []
  -- A copy of modulation-off that comes late stops the next call: its data is refused with 41.
  pub late_off :
      handed fresh_receiver (on ∷ hdlc 1 65 255 255 ∷ end 2 65 255 255 ∷ off 3 ∷ later_on ∷ off 3 ∷ hdlc 1 65 255 255 ∷ [])
      ≡ begins true 1 0 1000 ∷ page 65 ∷ ends ∷ stops 1500 ∷ begins true 1 0 2000 ∷ gap ∷ stops 1500 ∷ refused NoModulation ∷ []
  -- A copy of an end that comes late ends the next frame, with all its three places after a gap.
  pub late_end :
      handed fresh_receiver (on ∷ hdlc 1 65 255 255 ∷ end 2 65 255 255 ∷ hdlc 3 66 65 255 ∷ end 2 65 255 255 ∷ [])
      ≡ begins true 1 0 1000 ∷ page 65 ∷ ends ∷ page 66 ∷ gap ∷ page 255 ∷ page 255 ∷ page 65 ∷ ends ∷ []
  -- An end that is lost with all its copies, and a frame behind it: two frames become one, an octet comes twice, and nothing tells it.
  pub end_lost :
      handed fresh_receiver (on ∷ hdlc 1 65 255 255 ∷ hdlc 3 66 65 255 ∷ [])
      ≡ begins true 1 0 1000 ∷ page 65 ∷ page 65 ∷ page 66 ∷ []
  -- The last end of a call lost with all its copies: modulation-off tells a gap, and the frame is not ended.
  pub last_end_lost :
      handed fresh_receiver (on ∷ hdlc 1 65 255 255 ∷ off 3 ∷ []) ≡ begins true 1 0 1000 ∷ page 65 ∷ gap ∷ stops 1500 ∷ []
  -- A modulation-off lost with all its copies: the next modulation-on begins, and nothing stopped; the end that was lost before it is
  -- not told either.
  pub off_lost :
      handed fresh_receiver (on ∷ hdlc 1 65 255 255 ∷ later_on ∷ []) ≡ begins true 1 0 1000 ∷ page 65 ∷ begins true 1 0 2000 ∷ []
  -- A copy of modulation-on that comes late begins the call anew, and octets come twice.
  pub late_on :
      handed fresh_receiver (on ∷ hdlc 1 65 255 255 ∷ on ∷ hdlc 2 66 65 255 ∷ [])
      ≡ begins true 1 0 1000 ∷ page 65 ∷ begins true 1 0 1000 ∷ page 65 ∷ page 66 ∷ []
  -- A frame of 15 octets that is lost whole: its end has the number of the end before it, and is taken for a repeat. Nothing tells it.
  pub frame_of_fifteen_lost :
      handed fresh_receiver (on ∷ hdlc 1 65 255 255 ∷ end 2 65 255 255 ∷ end 2 89 88 87 ∷ off 3 ∷ [])
      ≡ begins true 1 0 1000 ∷ page 65 ∷ ends ∷ stops 1500 ∷ []
  -- One of 16 octets that is lost whole is ended with no octet. Nothing tells it.
  pub frame_of_sixteen_lost :
      handed fresh_receiver (on ∷ hdlc 1 65 255 255 ∷ end 2 65 255 255 ∷ end 3 90 89 88 ∷ off 4 ∷ [])
      ≡ begins true 1 0 1000 ∷ page 65 ∷ ends ∷ ends ∷ stops 1500 ∷ []
  -- 16 data payloads lost in a row under HDLC: the next is a step of 1, and follows without a gap.
  pub sixteen_lost :
      handed fresh_receiver (on ∷ hdlc 1 65 255 255 ∷ hdlc 2 82 81 80 ∷ []) ≡ begins true 1 0 1000 ∷ page 65 ∷ page 82 ∷ []
  -- FRF.11's own number of modulation-off, one more than the last data payload: no gap behind a frame that has an octet.
  pub off_by_the_last_data :
      handed fresh_receiver (on ∷ hdlc 1 65 255 255 ∷ end 2 65 255 255 ∷ off 2 ∷ [])
      ≡ begins true 1 0 1000 ∷ page 65 ∷ ends ∷ stops 1500 ∷ []
  -- But behind an empty frame it is a step of 15, and a gap is told.
  pub off_behind_an_empty_frame :
      handed fresh_receiver (on ∷ hdlc 1 65 255 255 ∷ end 2 65 255 255 ∷ end 3 65 255 255 ∷ off 2 ∷ [])
      ≡ begins true 1 0 1000 ∷ page 65 ∷ ends ∷ ends ∷ gap ∷ stops 1500 ∷ []
  -- T.4 at 2400 bit/s. 14 payloads lost in a row between two are told as a gap.
  pub fourteen_pages_lost :
      handed fresh_receiver (page_on ∷ t4 1 one ∷ t4 0 two ∷ [])
      ≡ begins false 2 0 1000 ∷ map page one ++ gap ∷ map page two
  -- 15 lost in a row: the next has the number of the last, adds nothing and tells nothing.
  pub fifteen_pages_lost :
      handed fresh_receiver (page_on ∷ t4 1 one ∷ t4 1 two ∷ []) ≡ begins false 2 0 1000 ∷ map page one
  -- 16 lost in a row: the next is a step of 1, and follows without a gap.
  pub sixteen_pages_lost :
      handed fresh_receiver (page_on ∷ t4 1 one ∷ t4 2 two ∷ [])
      ≡ begins false 2 0 1000 ∷ map page one ++ map page two
