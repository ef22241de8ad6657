-- One answer only: the public functions of `printing`.
use mathlib.Core.Path.{sym, ◌∙◌}
use Rattle.settled.specs.Settled.{OneAnswer}
use Rattle.printing.proofs.field.put_field.Kinds as field-put-field-kinds
use Rattle.printing.proofs.field.put_octet_field.Kinds as field-put-octet-field-kinds
use Rattle.printing.proofs.field.put_field.Reads as field-put-field-reads
use Rattle.printing.proofs.field.put_octet_field.Reads as field-put-octet-field-reads
use Rattle.printing.proofs.hex.put_hex_field.Kinds as hex-put-hex-field-kinds
use Rattle.printing.proofs.hex.put_hex_field.Reads as hex-put-hex-field-reads
use Rattle.printing.proofs.line.put_line.Kinds as line-put-line-kinds
use Rattle.printing.proofs.line.put_line.Reads as line-put-line-reads
use Rattle.printing.proofs.refused.put_refused.Kinds as refused-put-refused-kinds
use Rattle.printing.proofs.refused.put_refused.Reads as refused-put-refused-reads
use Rattle.printing.proofs.refused.put_refused_text.Kinds as refused-put-refused-text-kinds
use Rattle.printing.proofs.refused.put_refused_text.Reads as refused-put-refused-text-reads

pub field-put-field : OneAnswer 2 field-put-field-kinds.ps field-put-field-kinds.r (λ κs s. s.0.now) field-put-field-reads.Post
field-put-field κs a x y s t p q = (p.0 ∙ sym q.0, p.1 ∙ sym q.1)

pub field-put-octet-field : OneAnswer 2 field-put-octet-field-kinds.ps field-put-octet-field-kinds.r (λ κs s. s.0.now) field-put-octet-field-reads.Post
field-put-octet-field κs a x y s t p q = (p.0 ∙ sym q.0, p.1 ∙ sym q.1)

pub hex-put-hex-field : OneAnswer 3 hex-put-hex-field-kinds.ps hex-put-hex-field-kinds.r (λ κs s. s.0.now) hex-put-hex-field-reads.Post
hex-put-hex-field κs a x y s t p q = (p.0 ∙ sym q.0, p.1 ∙ sym q.1)

pub line-put-line : OneAnswer 2 line-put-line-kinds.ps line-put-line-kinds.r (λ κs s. s.0.now) line-put-line-reads.Post
line-put-line κs a x y s t p q = (p.0 ∙ sym q.0, p.1 ∙ sym q.1)

pub refused-put-refused : OneAnswer 1 refused-put-refused-kinds.ps refused-put-refused-kinds.r (λ κs s. s.0.now) refused-put-refused-reads.Post
refused-put-refused κs a x y s t p q = (p.0 ∙ sym q.0, p.1 ∙ sym q.1)

pub refused-put-refused-text : OneAnswer 1 refused-put-refused-text-kinds.ps refused-put-refused-text-kinds.r (λ κs s. s.0.now) refused-put-refused-text-reads.Post
refused-put-refused-text κs a x y s t p q = (p.0 ∙ sym q.0, p.1 ∙ sym q.1)
