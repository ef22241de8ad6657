-- `digits::layout::fit_digits` meets its contract: either test refuses.
use Rattle.std.proofs.Common.{rules}
use Rattle.digits.proofs.LayoutCases.{low, wrongs}
use Rattle.digits.proofs.layout.fit_digits.Goals as goal
use Rattle.digits.proofs.layout.fit_digits.Goals.{then-level_low-via-then-level_low, then-level_low-via-else-level_low+then-windows_wrong}

pub returns-then-level_low : goal.returns-then-level_low
returns-then-level_low c =
    elim c.then-level_low.branch [
      | then-level_low-via-then-level_low w ↦ search (rules, low)
      | then-level_low-via-else-level_low+then-windows_wrong w ↦ search (rules, wrongs)
    ]
