-- One answer only: the public functions of `provisioning`.
use mathlib.Core.Path.{sym, ◌∙◌}
use Rattle.settled.specs.Settled.{OneAnswer}
use Rattle.provisioning.proofs.text.read_text.Kinds as text-read-text-kinds
use Rattle.provisioning.proofs.text.read_text.Reads as text-read-text-reads

pub text-read-text : OneAnswer 2 text-read-text-kinds.ps text-read-text-kinds.r (λ κs s. s.1.0.now) text-read-text-reads.Post
text-read-text κs a x y s t p q = (p.0 ∙ sym q.0, cc)
