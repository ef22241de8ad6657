-- One answer only: the public functions of `trunk`.
use mathlib.Core.Path.{refl, sym, ◌∙◌}
use Rattle.settled.specs.Settled.{OneAnswer, nothing}
use Rattle.trunk.proofs.Trunk.fresh.Kinds as trunk-fresh-kinds
use Rattle.trunk.proofs.Trunk.fresh.Reads as trunk-fresh-reads
use Rattle.trunk.proofs.Trunk.take.Kinds as trunk-take-kinds
use Rattle.trunk.proofs.Trunk.take.Reads as trunk-take-reads

pub trunk-fresh : OneAnswer 0 trunk-fresh-kinds.ps trunk-fresh-kinds.r nothing trunk-fresh-reads.Post
trunk-fresh κs a x y s t p q = (p ∙ sym q, refl)

pub trunk-take : OneAnswer 2 trunk-take-kinds.ps trunk-take-kinds.r (λ κs s. s.0.now) trunk-take-reads.Post
trunk-take κs a x y s t p q = (p.0 ∙ sym q.0, p.1 ∙ sym q.1)
