-- One answer only: the public function of `refusal`.
use mathlib.Core.Path.{refl, sym, ◌∙◌}
use Rattle.settled.specs.Settled.{OneAnswer, nothing}
use Rattle.refusal.proofs.Refusal.number.Kinds as refusal-number-kinds
use Rattle.refusal.proofs.Refusal.number.Reads as refusal-number-reads

pub refusal-number : OneAnswer 0 refusal-number-kinds.ps refusal-number-kinds.r nothing refusal-number-reads.Post
refusal-number κs a x y s t p q = (p ∙ sym q, refl)
