-- One answer only: the public functions of `header`.
use mathlib.Core.Path.{refl, sym, ◌∙◌}
use Rattle.settled.specs.Settled.{OneAnswer, nothing}
use Rattle.header.proofs.header_at.Kinds as header-at-kinds
use Rattle.header.proofs.header_at.Reads as header-at-reads
use Rattle.header.proofs.sub_at.Kinds as sub-at-kinds
use Rattle.header.proofs.sub_at.Reads as sub-at-reads

pub header-at : OneAnswer 1 header-at-kinds.ps header-at-kinds.r nothing header-at-reads.Post
header-at κs a x y s t p q = (p ∙ sym q, refl)

pub sub_at : OneAnswer 1 sub-at-kinds.ps sub-at-kinds.r nothing sub-at-reads.Post
sub_at κs a x y s t p q = (p ∙ sym q, refl)
