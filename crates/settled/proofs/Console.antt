-- One answer only: the public functions of `console`.
use mathlib.Core.Path.{refl, sym, ◌∙◌}
use Rattle.settled.specs.Settled.{OneAnswer, nothing}
use Rattle.console.proofs.hex.decode.Kinds as hex-decode-kinds
use Rattle.console.proofs.hex.decode.Reads as hex-decode-reads
use Rattle.console.proofs.hex.signed.Kinds as hex-signed-kinds
use Rattle.console.proofs.hex.signed.Reads as hex-signed-reads
use Rattle.console.proofs.key.size.Kinds as key-size-kinds
use Rattle.console.proofs.key.size.Reads as key-size-reads

pub hex-decode : OneAnswer 2 hex-decode-kinds.ps hex-decode-kinds.r (λ κs s. s.1.1.0.now) hex-decode-reads.Post
hex-decode κs a x y s t p q = (p.0 ∙ sym q.0, p.1.0 ∙ sym q.1.0)

pub hex-signed : OneAnswer 0 hex-signed-kinds.ps hex-signed-kinds.r nothing hex-signed-reads.Post
hex-signed κs a x y s t p q = (p ∙ sym q, refl)

pub key-size : OneAnswer 1 key-size-kinds.ps key-size-kinds.r nothing key-size-reads.Post
key-size κs a x y s t p q = (p ∙ sym q, refl)
