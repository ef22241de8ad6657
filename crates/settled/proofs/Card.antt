-- One answer only: the public functions of `card`.
use mathlib.Core.Path.{refl, sym, ◌∙◌}
use Rattle.settled.specs.Settled.{OneAnswer, nothing, OnePart}
use Rattle.card.proofs.handing.find.Kinds as handing-find-kinds
use Rattle.card.proofs.handing.find.Reads as handing-find-reads
use Rattle.card.proofs.handing.hand.Kinds as handing-hand-kinds
use Rattle.card.proofs.handing.hand.Reads as handing-hand-reads

pub handing-find : OneAnswer 2 handing-find-kinds.ps handing-find-kinds.r nothing handing-find-reads.Post
handing-find κs a x y s t p q = (p ∙ sym q, refl)

pub handing-hand : OnePart 3 handing-hand-kinds.ps handing-hand-kinds.r (λ κs x. x) (λ κs s. s.1.1.1.1.0.now) handing-hand-reads.Post
handing-hand κs a x y s t p q = (p.0 ∙ sym q.0, p.1.0 ∙ sym q.1.0, p.1.1 ∙ sym q.1.1)
