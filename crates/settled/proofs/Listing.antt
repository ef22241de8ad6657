-- One answer only: the public functions of `listing`.
use mathlib.Core.Path.{sym, ap₂, ◌∙◌}
use Prim.Native.Nat.{ℕ}
use mathlib.Core.List.{List}
use Rattle.settled.specs.Settled.{OneAnswer}
use Rattle.listing.proofs.stream.list_piece.Kinds as stream-list-piece-kinds
use Rattle.listing.proofs.stream.list_piece.Reads as stream-list-piece-reads
use Rattle.listing.proofs.stream.list_last.Kinds as stream-list-last-kinds
use Rattle.listing.proofs.stream.list_last.Reads as stream-list-last-reads

pub stream-list-piece : OneAnswer 4 stream-list-piece-kinds.ps stream-list-piece-kinds.r {H = List ℕ × List ℕ} (λ κs s. (s.1.1.0.now, s.1.1.1.1.0.now)) stream-list-piece-reads.Post
stream-list-piece κs a x y s t p q = (p.0 ∙ sym q.0, ap₂ (λ b c. (b, c)) (p.1.0 ∙ sym q.1.0) (p.1.1 ∙ sym q.1.1))

pub stream-list-last : OneAnswer 3 stream-list-last-kinds.ps stream-list-last-kinds.r (λ κs s. s.1.1.1.0.now) stream-list-last-reads.Post
stream-list-last κs a x y s t p q = (p.0 ∙ sym q.0, cc)
