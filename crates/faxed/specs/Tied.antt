-- The theorems speak of definitions, and these are what the contracts say: results that meet the contract of a function (`Post`, which
-- the kit makes of it) are the definition's, and so is what a lent buffer, a replay or a trunk (`&mut self`) holds then; and what comes
-- of calls of `receive` that meet it, one after the other, is `handed`. Proved in proofs/Tied.antt.
use Rattle.std.specs.Prelude.{ℕ, ◌≡◌, List, [], ◌∷◌, ◌++◌}
use Rattle.contracts.specs.Meeting.{Answers, Leaves, Met}
use Rattle.octets.specs.Made.{put_made, left_made}
use Rattle.fax.specs.Fax.{fax_made}
use Rattle.faxing.specs.declared.Receiver.{Receiver}
use Rattle.faxing.specs.Replay.{Received, fresh_receiver, received}
use Rattle.trunk.specs.Trunk.{fresh_trunk, taken}
use Rattle.faxed.specs.Events.{Event, handed_by, handed}
use Rattle.faxed.specs.Run.{FaxCall, Fillers, Honest, sent, Arrives}
use Rattle.faxed.specs.Complete.{complete}
use Rattle.fax.proofs.put_fax.Kinds as put-kinds
use Rattle.fax.proofs.put_fax.Reads as put_reads
use Rattle.faxing.proofs.Receiver.fresh.Kinds as fresh-kinds
use Rattle.faxing.proofs.Receiver.fresh.Reads as fresh-reads
use Rattle.faxing.proofs.Receiver.receive.Kinds as receive-kinds
use Rattle.faxing.proofs.Receiver.receive.Reads as receive-reads
use Rattle.trunk.proofs.Trunk.fresh.Kinds as trunk-kinds
use Rattle.trunk.proofs.Trunk.fresh.Reads as trunk-reads
use Rattle.trunk.proofs.Trunk.take.Kinds as take-kinds
use Rattle.trunk.proofs.Trunk.take.Reads as take-reads

pub record Tied : Type 0 where
  pub put : Answers 2 put-kinds.ps put-kinds.r (λ κs a. put_made a.0.now a.1.0 (fax_made a.1.1.0 a.1.1.1.0 a.1.1.1.1.0 a.1.1.1.1.1.0.now)) put_reads.Post
  pub left : Leaves 2 put-kinds.ps put-kinds.r (λ κs s. s.0.now) (λ κs a. left_made a.0.now a.1.0 (fax_made a.1.1.0 a.1.1.1.0 a.1.1.1.1.0 a.1.1.1.1.1.0.now)) put_reads.Post
  pub fresh : Answers 0 fresh-kinds.ps fresh-kinds.r (λ κs a. fresh_receiver) fresh-reads.Post
  pub receive : Answers 2 receive-kinds.ps receive-kinds.r (λ κs a. (received a.0.now a.1.0.now).answer) receive-reads.Post
  pub receiver_after : Leaves 2 receive-kinds.ps receive-kinds.r (λ κs s. s.0.now) (λ κs a. (received a.0.now a.1.0.now).receiver) receive-reads.Post
  pub trunk : Answers 0 trunk-kinds.ps trunk-kinds.r (λ κs a. fresh_trunk) trunk-reads.Post
  pub take : Answers 2 take-kinds.ps take-kinds.r (λ κs a. (taken a.0.now a.1.0 a.1.1.0 a.1.1.1.0.now).answer) take-reads.Post
  pub trunk_after : Leaves 2 take-kinds.ps take-kinds.r (λ κs s. s.0.now) (λ κs a. (taken a.0.now a.1.0 a.1.1.0 a.1.1.1.0.now).trunk) take-reads.Post

-- calls of `receive`, each handed the replay as the one before left it
pub data Calls : Receiver → List (List ℕ) → List Event → Type 0 where
  no_more : (r : Receiver) → Calls r [] []
  goes_on : (r : Receiver) (p : List ℕ) (ps : List (List ℕ)) (x : Received) (es : List Event)
      → Met 2 receive-kinds.ps receive-kinds.r receive-reads.Post {I = Receiver × List ℕ} {O = Received} (λ κs a. (a.0.now, a.1.0.now)) (λ κs x s. record { answer = x; receiver = s.0.now }) (r, p) x
      → Calls x.receiver ps es
      → Calls r (p ∷ ps) (handed_by x.answer ++ es)

abbrev pub CallsAreHanded : Type 0
CallsAreHanded = (r : Receiver) (ps : List (List ℕ)) (es : List Event) → Calls r ps es → es ≡ handed r ps

abbrev pub CallsHandComplete : Type 0
CallsHandComplete =
    (f : Fillers) (s : FaxCall) (came : List (List ℕ)) (es : List Event)
    → Honest s
    → Arrives 0 (sent f s) came
    → Calls fresh_receiver came es
    → es ≡ complete s
