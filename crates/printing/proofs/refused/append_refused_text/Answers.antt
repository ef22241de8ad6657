-- `printing::refused::append_refused_text` meets its contract: two fields, one behind the other.
use native.Mathlib.Omega.{arith}
use Rattle.printing.specs.Refused.{text_listing}
use Rattle.printing.proofs.Appending as appending
use Rattle.printing.proofs.refused.append_refused_text.Goals as goal

pub returns : goal.returns
unfolding text_listing
returns c = appending.then c.append_field-past_text.ensures c.append_field.ensures (omega (arith, c.requires))
