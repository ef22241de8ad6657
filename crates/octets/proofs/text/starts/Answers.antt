-- `octets::text::starts` meets its contract.
use mathlib.Core.Path.{◌∙◌}
use Rattle.octets.proofs.Texts.{starts-by}
use Rattle.octets.proofs.text.starts.Goals as goal

pub returns : goal.returns
returns c = c.starts_with.ensures.value ∙ starts-by c.args.s.now c.args.with.now
