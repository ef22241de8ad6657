-- `octets::text::has_lf` meets its contract.
use mathlib.Core.Path.{◌∙◌}
use Rattle.octets.proofs.Texts.{lf-by}
use Rattle.octets.proofs.text.has_lf.Goals as goal

pub returns : goal.returns
returns c = c.contains.ensures.value ∙ lf-by c.args.s.now
