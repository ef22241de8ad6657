-- One answer only: the public functions of `data`.
use mathlib.Core.Bool.{true}
use mathlib.Core.Path.{refl, sym, ◌∙◌}
use Rattle.settled.specs.Settled.{OneAnswer, nothing}
use Rattle.data.proofs.read_data.Kinds as read-data-kinds
use Rattle.data.proofs.read_data.Reads as read-data-reads
use Rattle.data.proofs.fit_data.Kinds as fit-data-kinds
use Rattle.data.proofs.fit_data.Reads as fit-data-reads
use Rattle.data.proofs.put_data.Kinds as put-data-kinds
use Rattle.data.proofs.put_data.Reads as put-data-reads

pub read_data : OneAnswer 1 read-data-kinds.ps read-data-kinds.r nothing read-data-reads.Post
read_data κs a x y s t p q = (p ∙ sym q, refl)

pub fit-data : OneAnswer 1 fit-data-kinds.ps fit-data-kinds.r nothing fit-data-reads.Post
fit-data κs a x y s t p q = (p true true ∙ sym (q true true), refl)

pub put-data : OneAnswer 2 put-data-kinds.ps put-data-kinds.r (λ κs s. s.0.now) put-data-reads.Post
put-data κs a x y s t p q = (p.0 ∙ sym q.0, cc)
