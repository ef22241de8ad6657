-- `reader::step_from` meets its contract: one line for each thing that a header tells.
use native.Mathlib.Omega.{arith}
use mathlib.Core.Path.{◌≡◌}
use Rattle.std.specs.declared.result.Result.TheVariants.{Ok}
use Rattle.std.specs.declared.option.Option.TheVariants.{Some}
use Rattle.header.specs.Header.{header_at}
use Rattle.header.proofs.HeaderInverse as inverse
use Rattle.reader.proofs.step_from.Goals as goal

-- a sub-frame ends within the frame
pub overflow_add-result : goal.overflow_add-result
overflow_add-result c =
    let told : header_at c.args.frame.now c.args.at ≡ Ok (Some c.in-Ok-Some.sub) = cc in
    record { fits = omega (arith, inverse.ends-within _ _ _ told, c.type_inv.frame c.args.at) }
