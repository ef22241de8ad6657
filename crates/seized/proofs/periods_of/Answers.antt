-- `seized::periods_of` meets its contract: the newest samples, then places of 0.
use Prim.Native.Nat.{ℕ, ◌*◌, ◌-◌}
use mathlib.Core.Path.{◌≡◌, ap, ap₂, ◌∙◌}
use mathlib.Core.List.{List, ◌++◌}
use native.Mathlib.Omega.{arith}
use borrow.Author.Rules.{rules}
use lib.ListN.{length, drop, replicate, length-drop}
use lib.Seq.{take_all}
use Rattle.octets.proofs.Writes.{zeros-left}
use Rattle.replay.specs.Rule.{unused_count}
use Rattle.seized.proofs.periods_of.Goals as goal

pub returns : goal.returns
returns c =
    let samples = c.args.samples in
    let from = c.wide-from.result * 10 in
    let thirty : length samples ≡ 30 = search rules in
    let unused : c.wide-from.result ≡ unused_count c.args.step = omega arith in
    let left = length-drop from samples in
    let newest = c.copy_from_slice.ensures.after ∙ take_all (30 - from) (drop from samples) (omega arith) in
    ap₂ (λ (x y : List ℕ). x ++ y) newest (zeros-left (30 - from) from 30 (omega arith))
    ∙ ap (λ (n : ℕ). drop (n * 10) samples ++ replicate (n * 10) 0) unused
