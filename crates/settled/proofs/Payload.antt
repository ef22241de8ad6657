-- One answer only: the public functions of `payload`.
use mathlib.Core.Path.{refl, sym, ◌∙◌}
use Rattle.settled.specs.Settled.{OneAnswer, nothing}
use Rattle.payload.proofs.check.check_payload.Kinds as check-check-payload-kinds
use Rattle.payload.proofs.check.check_payload.Reads as check-check-payload-reads
use Rattle.payload.proofs.layout.family_of.Kinds as layout-family-of-kinds
use Rattle.payload.proofs.layout.family_of.Reads as layout-family-of-reads
use Rattle.payload.proofs.layout.layout_of.Kinds as layout-layout-of-kinds
use Rattle.payload.proofs.layout.layout_of.Reads as layout-layout-of-reads
use Rattle.payload.proofs.layout.type_for.Kinds as layout-type-for-kinds
use Rattle.payload.proofs.layout.type_for.Reads as layout-type-for-reads

pub check-check-payload : OneAnswer 1 check-check-payload-kinds.ps check-check-payload-kinds.r nothing check-check-payload-reads.Post
check-check-payload κs a x y s t p q = (p ∙ sym q, refl)

pub layout-family-of : OneAnswer 0 layout-family-of-kinds.ps layout-family-of-kinds.r nothing layout-family-of-reads.Post
layout-family-of κs a x y s t p q = (p ∙ sym q, refl)

pub layout-layout-of : OneAnswer 0 layout-layout-of-kinds.ps layout-layout-of-kinds.r nothing layout-layout-of-reads.Post
layout-layout-of κs a x y s t p q = (p ∙ sym q, refl)

pub layout-type-for : OneAnswer 0 layout-type-for-kinds.ps layout-type-for-kinds.r nothing layout-type-for-reads.Post
layout-type-for κs a x y s t p q = (p ∙ sym q, refl)
