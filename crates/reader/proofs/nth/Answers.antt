-- `reader::nth` meets its contract: what stands after n others is what is found after the steps that are left.
use Prim.Native.Nat.{◌+◌, ◌-◌}
use mathlib.Core.Path.{◌≡◌, sym, ◌∙◌}
use native.Mathlib.Omega.{arith}
use Rattle.reader.proofs.Yields.{finds-nth, ahead-from, ahead-turn, ahead-none}
use Rattle.reader.proofs.nth.Goals as goal

pub loop-init : goal.loop-init
loop-init c =
    let step = c.step-found.ensures in
    let all : c.args.n - 0 ≡ c.args.n = omega arith in
    rw all (ahead-from c.args.n c.open-reader.result _ _ step.0 step.1 ∙ rw c.open-reader.ensures (finds-nth c.args.frame c.args.n))

pub loop-preserved : goal.loop-preserved
loop-preserved c =
    let step = c.step-found-in-loop.ensures in
    ahead-turn (c.args.n - c.loop.counter) (c.args.n - (c.loop.counter + 1)) c.loop.found c.loop.reader _ _ step.0 step.1
    (omega (arith, c.loop-test.true))
    ∙ c.loop.invariant

pub returns : goal.returns
returns c = sym (ahead-none (c.args.n - c.loop.counter) c.loop.found c.loop.reader (omega (arith, c.loop-test.false))) ∙ c.loop.invariant
