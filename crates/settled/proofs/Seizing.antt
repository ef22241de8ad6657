-- One answer only: the public functions of `seizing`.
use mathlib.Core.Path.{refl, sym, ◌∙◌}
use Rattle.settled.specs.Settled.{OneAnswer, nothing}
use Rattle.seizing.proofs.Sender.start.Kinds as sender-start-kinds
use Rattle.seizing.proofs.Sender.start.Reads as sender-start-reads
use Rattle.seizing.proofs.Sender.send.Kinds as sender-send-kinds
use Rattle.seizing.proofs.Sender.send.Reads as sender-send-reads

pub sender-start : OneAnswer 0 sender-start-kinds.ps sender-start-kinds.r nothing sender-start-reads.Post
sender-start κs a x y s t p q = (p ∙ sym q, refl)

pub sender-send : OneAnswer 1 sender-send-kinds.ps sender-send-kinds.r (λ κs s. s.0.now) sender-send-reads.Post
sender-send κs a x y s t p q = (p.0 ∙ sym q.0, p.1 ∙ sym q.1)
