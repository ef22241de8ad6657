-- `record::table::meaning` meets its contract: what stands at the place of the syntax, and then the pair.
use mathlib.Core.Path.{sym, ap, ◌∙◌}
use mathlib.Core.Bool.{Bool}
use Rattle.std.specs.Bool.{then_some}
use Rattle.record.specs.Record.{with_pair}
use Rattle.record.proofs.Packing.{meaning_by}
use Rattle.record.proofs.table.meaning.Goals as goal

pub returns-in_err-syntax : goal.returns-in_err-syntax
returns-in_err-syntax c = c.from_residual.ensures ∙ sym (meaning_by c.args.number _ (sym c.in_err-syntax.was ∙ c.listed_at.ensures))

pub returns : goal.returns
returns c =
    c.then_some.ensures
    ∙ ap (λ (b : Bool). then_some b (with_pair c.in_ok-syntax.syntax c.args.number)) c.pair_listed.ensures
    ∙ sym (meaning_by c.args.number _ (sym c.in_ok-syntax.was ∙ c.listed_at.ensures))
