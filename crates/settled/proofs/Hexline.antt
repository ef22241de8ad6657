-- One answer only: the public function of `hexline`.
use mathlib.Core.Path.{sym, ◌∙◌}
use Rattle.settled.specs.Settled.{OneAnswer}
use Rattle.hexline.proofs.read_line.Kinds as read-line-kinds
use Rattle.hexline.proofs.read_line.Reads as read-line-reads

pub read-line : OneAnswer 2 read-line-kinds.ps read-line-kinds.r (λ κs s. s.1.0.now) read-line-reads.Post
read-line κs a x y s t p q = (p.0 ∙ sym q.0, cc)
