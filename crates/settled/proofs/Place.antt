-- One answer only: the public functions of `place`.
use mathlib.Core.Path.{refl, sym, ◌∙◌}
use Rattle.settled.specs.Settled.{OneAnswer, OneAnswer-each, nothing}
use Rattle.place.proofs.fresh.Kinds as fresh-kinds
use Rattle.place.proofs.fresh.Reads as fresh-reads
use Rattle.place.proofs.channel_for.Kinds as channel-for-kinds
use Rattle.place.proofs.channel_for.Reads as channel-for-reads
use Rattle.place.proofs.enter.Kinds as enter-kinds
use Rattle.place.proofs.enter.Reads as enter-reads

pub fresh : OneAnswer 0 fresh-kinds.ps fresh-kinds.r nothing fresh-reads.Post
fresh κs a x y s t p q = (p ∙ sym q, refl)

pub channel-for : OneAnswer 1 channel-for-kinds.ps channel-for-kinds.r nothing channel-for-reads.Post
channel-for κs a x y s t p q = (p ∙ sym q, refl)

pub enter : OneAnswer-each 1 enter-kinds.ps enter-kinds.r (λ E laws κs s. nothing κs s) enter-reads.Post
enter E laws κs a x y s t p q = (p ∙ sym q, refl)
