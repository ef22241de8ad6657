-- One answer only: the public functions of `value`.
use mathlib.Core.Path.{refl, sym, ◌∙◌}
use Rattle.settled.specs.Settled.{OneAnswer, nothing}
use Rattle.value.proofs.number_of.Kinds as number-of-kinds
use Rattle.value.proofs.number_of.Reads as number-of-reads
use Rattle.value.proofs.word_of.Kinds as word-of-kinds
use Rattle.value.proofs.word_of.Reads as word-of-reads

pub number_of : OneAnswer 1 number-of-kinds.ps number-of-kinds.r nothing number-of-reads.Post
number_of κs a x y s t p q = (p ∙ sym q, refl)

pub word_of : OneAnswer 1 word-of-kinds.ps word-of-kinds.r nothing word-of-reads.Post
word_of κs a x y s t p q = (p ∙ sym q, refl)
