-- One answer only: the public functions of `reader`.
use mathlib.Core.Path.{refl, sym, ◌∙◌}
use Rattle.settled.specs.Settled.{OneAnswer, nothing, OnePart}
use Rattle.reader.proofs.step_from.Kinds as step-from-kinds
use Rattle.reader.proofs.step_from.Reads as step-from-reads
use Rattle.reader.proofs.part.Kinds as part-kinds
use Rattle.reader.proofs.part.Reads as part-reads
use Rattle.reader.proofs.open.Kinds as open-kinds
use Rattle.reader.proofs.open.Reads as open-reads
use Rattle.reader.proofs.step.Kinds as step-kinds
use Rattle.reader.proofs.step.Reads as step-reads
use Rattle.reader.proofs.payload.Kinds as payload-kinds
use Rattle.reader.proofs.payload.Reads as payload-reads
use Rattle.reader.proofs.nth.Kinds as nth-kinds
use Rattle.reader.proofs.nth.Reads as nth-reads

pub step_from : OneAnswer 1 step-from-kinds.ps step-from-kinds.r nothing step-from-reads.Post
step_from κs a x y s t p q = (p ∙ sym q, refl)

pub part : OnePart 1 part-kinds.ps part-kinds.r (λ κs x. x) nothing part-reads.Post
part κs a x y s t p q = (p.0 ∙ sym q.0, p.1 ∙ sym q.1, refl)

pub nth : OneAnswer 1 nth-kinds.ps nth-kinds.r nothing nth-reads.Post
nth κs a x y s t p q = (p ∙ sym q, refl)

pub opened : OneAnswer 1 open-kinds.ps open-kinds.r nothing open-reads.Post
opened κs a x y s t p q = (p ∙ sym q, refl)

pub step : OneAnswer 2 step-kinds.ps step-kinds.r (λ κs s. s.0.now) step-reads.Post
step κs a x y s t p q = (p.0 ∙ sym q.0, p.1 ∙ sym q.1)

pub payload : OnePart 1 payload-kinds.ps payload-kinds.r (λ κs x. x) nothing payload-reads.Post
payload κs a x y s t p q = (p.0 ∙ sym q.0, p.1 ∙ sym q.1, refl)
