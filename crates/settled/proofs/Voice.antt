-- One answer only: the public functions of `voice`.
use mathlib.Core.Path.{refl, sym, ◌∙◌}
use Rattle.settled.specs.Settled.{OneAnswer, nothing}
use Rattle.voice.proofs.coding_count.Kinds as coding-count-kinds
use Rattle.voice.proofs.coding_count.Reads as coding-count-reads
use Rattle.voice.proofs.read_voice.Kinds as read-voice-kinds
use Rattle.voice.proofs.read_voice.Reads as read-voice-reads
use Rattle.voice.proofs.fit_voice.Kinds as fit-voice-kinds
use Rattle.voice.proofs.fit_voice.Reads as fit-voice-reads
use Rattle.voice.proofs.put_voice.Kinds as put-voice-kinds
use Rattle.voice.proofs.put_voice.Reads as put-voice-reads

pub coding-count : OneAnswer 0 coding-count-kinds.ps coding-count-kinds.r nothing coding-count-reads.Post
coding-count κs a x y s t p q = (p ∙ sym q, refl)

pub read_voice : OneAnswer 1 read-voice-kinds.ps read-voice-kinds.r nothing read-voice-reads.Post
read_voice κs a x y s t p q = (p ∙ sym q, refl)

pub fit-voice : OneAnswer 1 fit-voice-kinds.ps fit-voice-kinds.r nothing fit-voice-reads.Post
fit-voice κs a x y s t p q = (p ∙ sym q, refl)

pub put-voice : OneAnswer 2 put-voice-kinds.ps put-voice-kinds.r (λ κs s. s.0.now) put-voice-reads.Post
put-voice κs a x y s t p q = (p.0 ∙ sym q.0, cc)
