-- A fax session is handed on call by call (specs/Session.antt).
use Prim.Native.Nat.{ℕ}
use mathlib.Core.List.{List}
use Rattle.faxing.specs.Replay.{fresh_receiver}
use Rattle.faxed.specs.Events.{Event}
use Rattle.faxed.specs.Session.{Session, over, frames, page, SessionHanded}
use Rattle.faxed.proofs.Runs.{Runs, empty, joined}
use Rattle.faxed.proofs.Complete.{call-runs}
use Rattle.faxed.proofs.Pages.{pages-run}

session-runs : {came : List (List ℕ)} {es : List Event} → Session came es → Runs fresh_receiver came es fresh_receiver
session-runs over = empty
session-runs (frames f s honest arrives rest) = joined (call-runs f s honest arrives) (session-runs rest)
session-runs (page s honest rest) = joined (pages-run s honest) (session-runs rest)

pub session-handed : SessionHanded
session-handed came es session = (session-runs session).hands
