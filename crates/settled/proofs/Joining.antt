-- One answer only: the public functions of `joining`.
use mathlib.Core.Path.{refl, sym, ◌∙◌}
use Rattle.settled.specs.Settled.{OneAnswer, nothing}
use Rattle.joining.proofs.header_size.Kinds as header-size-kinds
use Rattle.joining.proofs.header_size.Reads as header-size-reads
use Rattle.joining.proofs.put_header.Kinds as put-header-kinds
use Rattle.joining.proofs.put_header.Reads as put-header-reads

pub header-size : OneAnswer 0 header-size-kinds.ps header-size-kinds.r nothing header-size-reads.Post
header-size κs a x y s t p q = (p ∙ sym q, refl)

pub put-header : OneAnswer 1 put-header-kinds.ps put-header-kinds.r (λ κs s. s.0.now) put-header-reads.Post
put-header κs a x y s t p q = (p.0 ∙ sym q.0, cc)
