-- One answer only: the public functions of `signalling`.
use mathlib.Core.Path.{refl, sym, ◌∙◌}
use Rattle.settled.specs.Settled.{OneAnswer, nothing}
use Rattle.signalling.proofs.layout.read_signalling.Kinds as layout-read-signalling-kinds
use Rattle.signalling.proofs.layout.read_signalling.Reads as layout-read-signalling-reads
use Rattle.signalling.proofs.layout.allowed.Kinds as layout-allowed-kinds
use Rattle.signalling.proofs.layout.allowed.Reads as layout-allowed-reads
use Rattle.signalling.proofs.layout.fit_signalling.Kinds as layout-fit-signalling-kinds
use Rattle.signalling.proofs.layout.fit_signalling.Reads as layout-fit-signalling-reads
use Rattle.signalling.proofs.layout.put_signalling.Kinds as layout-put-signalling-kinds
use Rattle.signalling.proofs.layout.put_signalling.Reads as layout-put-signalling-reads

pub layout-read-signalling : OneAnswer 1 layout-read-signalling-kinds.ps layout-read-signalling-kinds.r nothing layout-read-signalling-reads.Post
layout-read-signalling κs a x y s t p q = (p ∙ sym q, refl)

pub layout-allowed : OneAnswer 0 layout-allowed-kinds.ps layout-allowed-kinds.r nothing layout-allowed-reads.Post
layout-allowed κs a x y s t p q = (p ∙ sym q, refl)

pub layout-fit-signalling : OneAnswer 0 layout-fit-signalling-kinds.ps layout-fit-signalling-kinds.r nothing layout-fit-signalling-reads.Post
layout-fit-signalling κs a x y s t p q = (p ∙ sym q, refl)

pub layout-put-signalling : OneAnswer 1 layout-put-signalling-kinds.ps layout-put-signalling-kinds.r (λ κs s. s.0.now) layout-put-signalling-reads.Post
layout-put-signalling κs a x y s t p q = (p.0 ∙ sym q.0, cc)
