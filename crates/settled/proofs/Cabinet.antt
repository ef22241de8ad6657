-- One answer only: the public functions of `cabinet`.
use mathlib.Core.Path.{refl, sym, ◌∙◌}
use Rattle.settled.specs.Settled.{OneAnswer, nothing}
use Rattle.cabinet.proofs.cendraviu_frame_check.Kinds as cendraviu-frame-check-kinds
use Rattle.cabinet.proofs.cendraviu_frame_check.Reads as cendraviu-frame-check-reads

pub cendraviu-frame-check : OneAnswer 1 cendraviu-frame-check-kinds.ps cendraviu-frame-check-kinds.r nothing cendraviu-frame-check-reads.Post
cendraviu-frame-check κs a x y s t p q = (p ∙ sym q, refl)
