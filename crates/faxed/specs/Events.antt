-- What the fax replay hands to the modulator, as one list of events in order.
use Rattle.std.specs.Prelude.{ℕ, List, [], ◌∷◌, ◌++◌, map, Bool, cond, take, Result, Ok, Err}
use Rattle.refusal.specs.declared.Refusal.{Refusal}
use Rattle.faxing.specs.declared.Receiver.{Receiver}
use Rattle.faxing.specs.declared.Handed.{Handed}
use Rattle.faxing.specs.declared.Did.{Did}
use Rattle.faxing.specs.declared.Did.TheVariants.{Nothing, Began, Stopped, Added, Ended, Aborted}
use Rattle.faxing.specs.Replay.{received}

-- a modulation begins (HDLC, modulation, frequency, stamp); an octet; octets are missing; a frame ends, or is aborted; the modulation
-- stops (stamp); a payload is refused
pub data Event : Type 0 where
  begins : Bool → ℕ → ℕ → ℕ → Event
  page : ℕ → Event
  gap : Event
  ends : Event
  aborts : Event
  stops : ℕ → Event
  refused : Refusal → Event

abbrev pub events_of : Did → List Event
events_of Nothing = []
events_of (Began hdlc modulation frequency stamp) = begins hdlc modulation frequency stamp ∷ []
events_of (Stopped stamp) = stops stamp ∷ []
events_of Added = []
events_of Ended = ends ∷ []
events_of Aborted = aborts ∷ []

-- of one answer: the gap, so many of the octets, what was done; or the refusal alone
abbrev pub handed_by : Result Handed Refusal → List Event
handed_by (Ok h) = cond h.gap (gap ∷ []) [] ++ map page (take h.count h.octets) ++ events_of h.did
handed_by (Err refusal) = refused refusal ∷ []

-- of payloads one after the other
abbrev pub handed : Receiver → List (List ℕ) → List Event
handed r [] = []
handed r (payload ∷ payloads) = handed_by (received r payload).answer ++ handed (received r payload).receiver payloads

-- the replay after them
abbrev pub after : Receiver → List (List ℕ) → Receiver
after r [] = r
after r (payload ∷ payloads) = after (received r payload).receiver payloads
