-- A fax session: calls one after the other, single tones, frames under HDLC (D.4.1) and pages (D.4.2). Proved in proofs/Session.antt.
use Rattle.std.specs.Prelude.{ℕ, ◌≡◌, List, [], ◌++◌}
use Rattle.faxing.specs.Replay.{fresh_receiver}
use Rattle.faxed.specs.Events.{Event, handed}
use Rattle.faxed.specs.Run.{FaxCall, Fillers, Honest, sent, Arrives}
use Rattle.faxed.specs.Complete.{complete}
use Rattle.faxed.specs.Pages as pages

-- what arrives, and what is due
pub data Session : List (List ℕ) → List Event → Type 0 where
  over : Session [] []
  frames : (f : Fillers) (s : FaxCall) {came behind : List (List ℕ)} {es : List Event} → Honest s → Arrives 0 (sent f s) came → Session behind es → Session (came ++ behind) (complete s ++ es)
  page : (s : pages.PageCall) {behind : List (List ℕ)} {es : List Event} → pages.HonestPages s → Session behind es → Session (pages.came s ++ behind) (pages.all_due s ++ es)

abbrev pub SessionHanded : Type 0
SessionHanded = (came : List (List ℕ)) (es : List Event) → Session came es → handed fresh_receiver came ≡ es
