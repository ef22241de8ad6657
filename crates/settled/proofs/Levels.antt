-- One answer only: the public functions of `levels`.
use mathlib.Core.Path.{refl, sym, ◌∙◌}
use Rattle.settled.specs.Settled.{OneAnswer, nothing}
use Rattle.levels.proofs.level_of.Kinds as level-of-kinds
use Rattle.levels.proofs.level_of.Reads as level-of-reads
use Rattle.levels.proofs.code_of.Kinds as code-of-kinds
use Rattle.levels.proofs.code_of.Reads as code-of-reads

pub level-of : OneAnswer 0 level-of-kinds.ps level-of-kinds.r nothing level-of-reads.Post
level-of κs a x y s t p q = (p ∙ sym q, refl)

pub code-of : OneAnswer 0 code-of-kinds.ps code-of-kinds.r nothing code-of-reads.Post
code-of κs a x y s t p q = (p ∙ sym q, refl)
