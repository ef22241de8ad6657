-- One answer only: the public functions of `sid`.
use mathlib.Core.Path.{refl, sym, ◌∙◌}
use Rattle.settled.specs.Settled.{OneAnswer, nothing}
use Rattle.sid.proofs.read_sid.Kinds as read-sid-kinds
use Rattle.sid.proofs.read_sid.Reads as read-sid-reads
use Rattle.sid.proofs.fit_sid.Kinds as fit-sid-kinds
use Rattle.sid.proofs.fit_sid.Reads as fit-sid-reads
use Rattle.sid.proofs.put_sid.Kinds as put-sid-kinds
use Rattle.sid.proofs.put_sid.Reads as put-sid-reads

pub read_sid : OneAnswer 1 read-sid-kinds.ps read-sid-kinds.r nothing read-sid-reads.Post
read_sid κs a x y s t p q = (p ∙ sym q, refl)

pub fit-sid : OneAnswer 0 fit-sid-kinds.ps fit-sid-kinds.r nothing fit-sid-reads.Post
fit-sid κs a x y s t p q = (p ∙ sym q, refl)

pub put-sid : OneAnswer 1 put-sid-kinds.ps put-sid-kinds.r (λ κs s. s.0.now) put-sid-reads.Post
put-sid κs a x y s t p q = (p.0 ∙ sym q.0, cc)
