-- One answer only: the public functions of `following`.
use mathlib.Core.Path.{sym, ap₂, ◌∙◌}
use Prim.Native.Nat.{ℕ}
use mathlib.Core.List.{List}
use Rattle.settled.specs.Settled.{OneAnswer}
use Rattle.trunk.specs.declared.Trunk.{Trunk}
use Rattle.following.proofs.stream.follow_piece.Kinds as stream-follow-piece-kinds
use Rattle.following.proofs.stream.follow_piece.Reads as stream-follow-piece-reads
use Rattle.following.proofs.stream.follow_last.Kinds as stream-follow-last-kinds
use Rattle.following.proofs.stream.follow_last.Reads as stream-follow-last-reads

pub stream-follow-piece :
    OneAnswer 5 stream-follow-piece-kinds.ps stream-follow-piece-kinds.r {H = List ℕ × Trunk × List ℕ} (λ κs s. (s.1.1.0.now, s.1.1.1.1.1.0.now, s.1.1.1.1.1.1.0.now)) stream-follow-piece-reads.Post
stream-follow-piece κs a x y s t p q =
    (p.0 ∙ sym q.0, ap₂ (λ (b : List ℕ) (c : Trunk × List ℕ). (b, c.0, c.1)) (p.1.0 ∙ sym q.1.0) (ap₂ (λ (b : Trunk) (c : List ℕ). (b, c)) (p.1.1.0 ∙ sym q.1.1.0) (p.1.1.1 ∙ sym q.1.1.1)))

pub stream-follow-last : OneAnswer 3 stream-follow-last-kinds.ps stream-follow-last-kinds.r (λ κs s. s.1.1.1.1.1.0.now) stream-follow-last-reads.Post
stream-follow-last κs a x y s t p q = (p.0 ∙ sym q.0, p.1 ∙ sym q.1)
