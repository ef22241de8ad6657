-- One answer only: the public functions of `record`.
use mathlib.Core.Path.{refl, sym, ◌∙◌}
use Rattle.settled.specs.Settled.{OneAnswer, nothing}
use Rattle.record.proofs.syntax.m_listed.Kinds as syntax-m-listed-kinds
use Rattle.record.proofs.syntax.m_listed.Reads as syntax-m-listed-reads
use Rattle.record.proofs.syntax.seq_listed.Kinds as syntax-seq-listed-kinds
use Rattle.record.proofs.syntax.seq_listed.Reads as syntax-seq-listed-reads
use Rattle.record.proofs.syntax.place_of.Kinds as syntax-place-of-kinds
use Rattle.record.proofs.syntax.place_of.Reads as syntax-place-of-reads
use Rattle.record.proofs.syntax.syntax_at.Kinds as syntax-syntax-at-kinds
use Rattle.record.proofs.syntax.syntax_at.Reads as syntax-syntax-at-reads
use Rattle.record.proofs.table.pack.Kinds as table-pack-kinds
use Rattle.record.proofs.table.pack.Reads as table-pack-reads
use Rattle.record.proofs.table.record_of.Kinds as table-record-of-kinds
use Rattle.record.proofs.table.record_of.Reads as table-record-of-reads

pub syntax-m-listed : OneAnswer 0 syntax-m-listed-kinds.ps syntax-m-listed-kinds.r nothing syntax-m-listed-reads.Post
syntax-m-listed κs a x y s t p q = (p ∙ sym q, refl)

pub syntax-seq-listed : OneAnswer 0 syntax-seq-listed-kinds.ps syntax-seq-listed-kinds.r nothing syntax-seq-listed-reads.Post
syntax-seq-listed κs a x y s t p q = (p ∙ sym q, refl)

pub syntax-place-of : OneAnswer 0 syntax-place-of-kinds.ps syntax-place-of-kinds.r nothing syntax-place-of-reads.Post
syntax-place-of κs a x y s t p q = (p ∙ sym q, refl)

pub syntax-syntax-at : OneAnswer 0 syntax-syntax-at-kinds.ps syntax-syntax-at-kinds.r nothing syntax-syntax-at-reads.Post
syntax-syntax-at κs a x y s t p q = (p ∙ sym q, refl)

pub table-pack : OneAnswer 0 table-pack-kinds.ps table-pack-kinds.r nothing table-pack-reads.Post
table-pack κs a x y s t p q = (p ∙ sym q, refl)

pub table-record-of : OneAnswer 1 table-record-of-kinds.ps table-record-of-kinds.r nothing table-record-of-reads.Post
table-record-of κs a x y s t p q = (p ∙ sym q, refl)
