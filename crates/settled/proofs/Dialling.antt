-- One answer only: the public functions of `dialling`.
use mathlib.Core.Path.{refl, sym, ◌∙◌}
use Rattle.settled.specs.Settled.{OneAnswer, nothing}
use Rattle.dialling.proofs.Sender.fresh.Kinds as sender-fresh-kinds
use Rattle.dialling.proofs.Sender.fresh.Reads as sender-fresh-reads
use Rattle.dialling.proofs.Sender.send.Kinds as sender-send-kinds
use Rattle.dialling.proofs.Sender.send.Reads as sender-send-reads

pub sender-fresh : OneAnswer 0 sender-fresh-kinds.ps sender-fresh-kinds.r nothing sender-fresh-reads.Post
sender-fresh κs a x y s t p q = (p ∙ sym q, refl)

pub sender-send : OneAnswer 1 sender-send-kinds.ps sender-send-kinds.r (λ κs s. s.0.now) sender-send-reads.Post
sender-send κs a x y s t p q = (p.0 ∙ sym q.0, p.1 ∙ sym q.1)
