-- One answer only: the public functions of `fax`.
use mathlib.Core.Path.{refl, sym, ◌∙◌}
use Rattle.settled.specs.Settled.{OneAnswer, nothing}
use Rattle.fax.proofs.read_fax.Kinds as read-fax-kinds
use Rattle.fax.proofs.read_fax.Reads as read-fax-reads
use Rattle.fax.proofs.stamp_number.Kinds as stamp-number-kinds
use Rattle.fax.proofs.stamp_number.Reads as stamp-number-reads
use Rattle.fax.proofs.code_of.Kinds as code-of-kinds
use Rattle.fax.proofs.code_of.Reads as code-of-reads
use Rattle.fax.proofs.fit_fax.Kinds as fit-fax-kinds
use Rattle.fax.proofs.fit_fax.Reads as fit-fax-reads
use Rattle.fax.proofs.put_fax.Kinds as put-fax-kinds
use Rattle.fax.proofs.put_fax.Reads as put-fax-reads

pub read_fax : OneAnswer 1 read-fax-kinds.ps read-fax-kinds.r nothing read-fax-reads.Post
read_fax κs a x y s t p q = (p ∙ sym q, refl)

pub stamp-number : OneAnswer 0 stamp-number-kinds.ps stamp-number-kinds.r nothing stamp-number-reads.Post
stamp-number κs a x y s t p q = (p ∙ sym q, refl)

pub code-of : OneAnswer 0 code-of-kinds.ps code-of-kinds.r nothing code-of-reads.Post
code-of κs a x y s t p q = (p.0 ∙ sym q.0, refl)

pub fit-fax : OneAnswer 1 fit-fax-kinds.ps fit-fax-kinds.r nothing fit-fax-reads.Post
fit-fax κs a x y s t p q = (p ∙ sym q, refl)

pub put-fax : OneAnswer 2 put-fax-kinds.ps put-fax-kinds.r (λ κs s. s.0.now) put-fax-reads.Post
put-fax κs a x y s t p q = (p.0 ∙ sym q.0, cc)
