-- "Prove that an honest HDLC run .. is handed on complete" (document 02, wish 1). Proved in proofs/Complete.antt.
use Rattle.std.specs.Prelude.{ℕ, ◌≡◌, List, [], ◌∷◌, ◌++◌, map, true}
use Rattle.faxing.specs.Replay.{fresh_receiver}
use Rattle.faxed.specs.Events.{Event, begins, page, ends, aborts, stops, handed, after}
use Rattle.faxed.specs.Run.{Closing, ended, aborted, Item, octet, close, FaxCall, Fillers, Honest, sent, Arrives}

-- all that was sent, in order; the fillers are no part of it
abbrev pub closing_event : Closing → Event
closing_event ended = ends
closing_event aborted = aborts

abbrev pub event_of : Item → Event
event_of (octet o stamp) = page o
event_of (close c stamp) = closing_event c

abbrev pub complete : FaxCall → List Event
complete s =
    begins true s.modulation s.frequency s.begun ∷ map event_of s.items ++ stops s.stopped ∷ []

-- A replay with no modulation on hands on exactly what was sent: no gap, no refusal, nothing twice. "The filler octets in the first two
-- payloads after modulation-on are not page data": whatever the fillers hold, it is the same. No modulation is on then.
abbrev pub HandedComplete : Type 0
HandedComplete =
    (f : Fillers) (s : FaxCall) (came : List (List ℕ))
    → Honest s
    → Arrives 0 (sent f s) came
    → (handed fresh_receiver came ≡ complete s) × (after fresh_receiver came ≡ fresh_receiver)
