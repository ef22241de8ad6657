-- `frame::scan_from` meets its contract: each turn finds one sub-frame more, and what stops the loop stops the scan.
use native.Mathlib.Omega.{arith}
use mathlib.Core.Path.{◌≡◌, sym, ap, ◌∙◌}
use Rattle.std.specs.declared.result.Result.TheVariants.{Ok}
use Rattle.std.specs.declared.option.Option.TheVariants.{Some}
use Rattle.header.specs.Header.{header_at}
use Rattle.frame.proofs.OpeningTurns as turns
use Rattle.header.proofs.HeaderInverse as inverse
use Rattle.frame.proofs.scan_from.Goals as goal

pub overflow_add-at : goal.overflow_add-at
overflow_add-at c =
    let found : header_at c.args.frame.now c.loop-count.at ≡ Ok (Some c.in-Ok-Some.sub) = cc in
    record { fits = omega (arith, inverse.ends-within _ _ _ found, c.well_formed) }

pub returns-then-sub : goal.returns-then-sub
returns-then-sub c =
    let found : header_at c.args.frame.now c.loop-count.at ≡ Ok (Some c.in-Ok-Some.sub) = cc in
    rw (← c.saturating_sub-room.ensures) (turns.final c.loop-count.invariant c.loop-count-test.true _ found c.if-sub.true)

pub returns-in-Ok-None : goal.returns-in-Ok-None
returns-in-Ok-None c =
    rw (← c.saturating_sub-room.ensures)
    (turns.past c.loop-count.invariant c.loop-count-test.true (sym c.header_at.ensures ∙ c.in-Ok-None.is ∙ ap Ok c.in-Ok-None.field-0-is))

pub returns-in-Err : goal.returns-in-Err
returns-in-Err c =
    rw (← c.saturating_sub-room.ensures)
    (turns.refused c.loop-count.invariant c.loop-count-test.true c.in-Err.refusal (sym c.header_at.ensures ∙ c.in-Err.is))

pub loop-count-preserved : goal.loop-count-preserved
loop-count-preserved c =
    let found : header_at c.args.frame.now c.loop-count.at ≡ Ok (Some c.in-Ok-Some.sub) = cc in
    turns.turn c.loop-count.invariant c.loop-count-test.true _ found c.if-sub.false

pub loop-count-init : goal.loop-count-init
loop-count-init c = turns.begins _ _ _

pub returns : goal.returns
returns c =
    let all : c.saturating_sub-room.result ≡ c.loop-count.count = omega (arith, c.loop-count-test.false, c.loop-count.auto.count-end) in
    rw (← c.saturating_sub-room.ensures) (turns.full c.loop-count.invariant all)
