-- `rows::reads::read` is safe: a checked frame has as many sub-frames as the check counted.
use mathlib.Core.Path.{sym, ap, ◌∙◌}
use Rattle.frame.specs.declared.Checked.{Checked}
use Rattle.frame.proofs.OpeningTurns.{sound-tells}
use Rattle.rows.proofs.reads.read.Goals as goal

pub read_subs-requires : goal.read_subs-requires
read_subs-requires c = ap (λ (k : Checked). k.count) (sound-tells _ _ (sym c.check.ensures ∙ c.in-Ok.is)).1
