-- One answer only: the public functions of `dialled`.
use mathlib.Core.Path.{refl, sym, ◌∙◌}
use Rattle.settled.specs.Settled.{OneAnswer, nothing}
use Rattle.dialled.proofs.Receiver.fresh.Kinds as receiver-fresh-kinds
use Rattle.dialled.proofs.Receiver.fresh.Reads as receiver-fresh-reads
use Rattle.dialled.proofs.Receiver.receive.Kinds as receiver-receive-kinds
use Rattle.dialled.proofs.Receiver.receive.Reads as receiver-receive-reads
use Rattle.dialled.proofs.Receiver.hear_voice.Kinds as receiver-hear-voice-kinds
use Rattle.dialled.proofs.Receiver.hear_voice.Reads as receiver-hear-voice-reads

pub receiver-fresh : OneAnswer 0 receiver-fresh-kinds.ps receiver-fresh-kinds.r nothing receiver-fresh-reads.Post
receiver-fresh κs a x y s t p q = (p ∙ sym q, refl)

pub receiver-receive : OneAnswer 2 receiver-receive-kinds.ps receiver-receive-kinds.r (λ κs s. s.0.now) receiver-receive-reads.Post
receiver-receive κs a x y s t p q = (p.0 ∙ sym q.0, p.1 ∙ sym q.1)

pub receiver-hear-voice : OneAnswer 1 receiver-hear-voice-kinds.ps receiver-hear-voice-kinds.r (λ κs s. s.0.now) receiver-hear-voice-reads.Post
receiver-hear-voice κs a x y s t p q = (refl, p ∙ sym q)
