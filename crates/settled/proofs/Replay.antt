-- One answer only: the public functions of `replay`.
use mathlib.Core.Path.{refl, sym, ◌∙◌}
use Rattle.settled.specs.Settled.{OneAnswer, nothing}
use Rattle.replay.proofs.step_taken.Kinds as step-taken-kinds
use Rattle.replay.proofs.step_taken.Reads as step-taken-reads
use Rattle.replay.proofs.fill_count.Kinds as fill-count-kinds
use Rattle.replay.proofs.fill_count.Reads as fill-count-reads
use Rattle.replay.proofs.carried_count.Kinds as carried-count-kinds
use Rattle.replay.proofs.carried_count.Reads as carried-count-reads

pub step-taken : OneAnswer 0 step-taken-kinds.ps step-taken-kinds.r nothing step-taken-reads.Post
step-taken κs a x y s t p q = (p ∙ sym q, refl)

pub fill-count : OneAnswer 0 fill-count-kinds.ps fill-count-kinds.r nothing fill-count-reads.Post
fill-count κs a x y s t p q = (p ∙ sym q, refl)

pub carried-count : OneAnswer 0 carried-count-kinds.ps carried-count-kinds.r nothing carried-count-reads.Post
carried-count κs a x y s t p q = (p ∙ sym q, refl)
