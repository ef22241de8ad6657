-- One answer only: the public functions of `frame`.
use mathlib.Core.Path.{refl, sym, ◌∙◌}
use Rattle.settled.specs.Settled.{OneAnswer, nothing}
use Rattle.frame.proofs.field_fits.Kinds as field-fits-kinds
use Rattle.frame.proofs.field_fits.Reads as field-fits-reads
use Rattle.frame.proofs.scan_from.Kinds as scan-from-kinds
use Rattle.frame.proofs.scan_from.Reads as scan-from-reads
use Rattle.frame.proofs.check.Kinds as check-kinds
use Rattle.frame.proofs.check.Reads as check-reads
use Rattle.frame.proofs.open.Kinds as open-kinds
use Rattle.frame.proofs.open.Reads as open-reads

pub field_fits : OneAnswer 1 field-fits-kinds.ps field-fits-kinds.r nothing field-fits-reads.Post
field_fits κs a x y s t p q = (p ∙ sym q, refl)

pub scan-from : OneAnswer 1 scan-from-kinds.ps scan-from-kinds.r nothing scan-from-reads.Post
scan-from κs a x y s t p q = (p ∙ sym q, refl)

pub check : OneAnswer 1 check-kinds.ps check-kinds.r nothing check-reads.Post
check κs a x y s t p q = (p ∙ sym q, refl)

pub opened : OneAnswer 1 open-kinds.ps open-kinds.r nothing open-reads.Post
opened κs a x y s t p q = (p ∙ sym q, refl)
