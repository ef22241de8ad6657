-- One answer only: the public functions of `recording`.
use mathlib.Core.Path.{refl, sym, ap₂, ◌∙◌}
use Prim.Native.Nat.{ℕ}
use mathlib.Core.List.{List}
use Rattle.settled.specs.Settled.{OneAnswer, nothing}
use Rattle.recording.proofs.pieces.text_end.Kinds as pieces-text-end-kinds
use Rattle.recording.proofs.pieces.text_end.Reads as pieces-text-end-reads
use Rattle.recording.proofs.stream.take_line.Kinds as stream-take-line-kinds
use Rattle.recording.proofs.stream.take_line.Reads as stream-take-line-reads

pub pieces-text-end : OneAnswer 1 pieces-text-end-kinds.ps pieces-text-end-kinds.r nothing pieces-text-end-reads.Post
pieces-text-end κs a x y s t p q = (p ∙ sym q, refl)

pub stream-take-line : OneAnswer 3 stream-take-line-kinds.ps stream-take-line-kinds.r {H = List ℕ × List ℕ} (λ κs s. (s.1.1.0.now, s.1.1.1.0.now)) stream-take-line-reads.Post
stream-take-line κs a x y s t p q = (p.0 ∙ sym q.0, ap₂ (λ b c. (b, c)) (p.1.0 ∙ sym q.1.0) (p.1.1 ∙ sym q.1.1))
