-- One answer only: the public functions of `octets`.
use mathlib.Core.Path.{refl, sym, ◌∙◌}
use Rattle.settled.specs.Settled.{OneAnswer, nothing}
use Rattle.octets.proofs.wide.Kinds as wide-kinds
use Rattle.octets.proofs.wide.Reads as wide-reads
use Rattle.octets.proofs.double.Kinds as double-kinds
use Rattle.octets.proofs.double.Reads as double-reads
use Rattle.octets.proofs.least.Kinds as least-kinds
use Rattle.octets.proofs.least.Reads as least-reads
use Rattle.octets.proofs.octet.Kinds as octet-kinds
use Rattle.octets.proofs.octet.Reads as octet-reads
use Rattle.octets.proofs.exceeds.Kinds as exceeds-kinds
use Rattle.octets.proofs.exceeds.Reads as exceeds-reads
use Rattle.octets.proofs.put_octets.Kinds as put-octets-kinds
use Rattle.octets.proofs.put_octets.Reads as put-octets-reads
use Rattle.octets.proofs.put_both.Kinds as put-both-kinds
use Rattle.octets.proofs.put_both.Reads as put-both-reads
use Rattle.octets.proofs.text.starts.Kinds as text-starts-kinds
use Rattle.octets.proofs.text.starts.Reads as text-starts-reads
use Rattle.octets.proofs.text.has_lf.Kinds as text-has-lf-kinds
use Rattle.octets.proofs.text.has_lf.Reads as text-has-lf-reads

pub wide : OneAnswer 0 wide-kinds.ps wide-kinds.r nothing wide-reads.Post
wide κs a x y s t p q = (p ∙ sym q, refl)

pub double : OneAnswer 0 double-kinds.ps double-kinds.r nothing double-reads.Post
double κs a x y s t p q = (p ∙ sym q, refl)

pub least : OneAnswer 0 least-kinds.ps least-kinds.r nothing least-reads.Post
least κs a x y s t p q = (p ∙ sym q, refl)

pub octet : OneAnswer 1 octet-kinds.ps octet-kinds.r nothing octet-reads.Post
octet κs a x y s t p q = (p ∙ sym q, refl)

pub exceeds : OneAnswer 0 exceeds-kinds.ps exceeds-kinds.r nothing exceeds-reads.Post
exceeds κs a x y s t p q = (p ∙ sym q, refl)

pub put-octets : OneAnswer 2 put-octets-kinds.ps put-octets-kinds.r (λ κs s. s.0.now) put-octets-reads.Post
put-octets κs a x y s t p q = (p.0 ∙ sym q.0, cc)

pub put_both : OneAnswer 3 put-both-kinds.ps put-both-kinds.r (λ κs s. s.0.now) put-both-reads.Post
put_both κs a x y s t p q = (p.0 ∙ sym q.0, cc)

pub text-starts : OneAnswer 2 text-starts-kinds.ps text-starts-kinds.r nothing text-starts-reads.Post
text-starts κs a x y s t p q = (p ∙ sym q, refl)

pub text-has-lf : OneAnswer 1 text-has-lf-kinds.ps text-has-lf-kinds.r nothing text-has-lf-reads.Post
text-has-lf κs a x y s t p q = (p ∙ sym q, refl)
