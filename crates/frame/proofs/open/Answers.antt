-- `frame::open` meets its contract: the headers that were checked tell the sub-frames, one a turn.
use Prim.Native.Nat.{◌<◌}
use native.Mathlib.Omega.{arith}
use mathlib.Core.Path.{◌≡◌, sym, ap, ◌∙◌}
use lib.ListN.{length}
use Rattle.std.specs.declared.result.Result.TheVariants.{Ok, Err}
use Rattle.std.specs.declared.option.Option.TheVariants.{Some}
use Rattle.std.proofs.lemmas.Result.{err_from_is_err_and}
use Rattle.header.specs.declared.SubFrame.{SubFrame}
use Rattle.frame.specs.declared.Checked.{Checked}
use Rattle.frame.specs.Opening.{opening}
use Rattle.header.proofs.HeaderInverse as inverse
use Rattle.frame.proofs.OpeningTurns.{sound-tells}
use Rattle.frame.proofs.OpeningList as list
use Rattle.frame.proofs.open.Goals as goal
use Rattle.frame.proofs.open.Goals.{In-loop-i}

-- a turn begins where there are more
less : (c : In-loop-i) → c.loop-i.i < length (opening c.args.frame.now).subs
less c =
    let e = (sound-tells (opening c.args.frame.now) _ (sym c.check.ensures ∙ c.in_ok-found.was)).1 in
    let count : c.in_ok-found.found.count ≡ length (opening c.args.frame.now).subs = ap (λ (x : Checked). x.count) e in
    omega (arith, c.loop-i-test.true)

pub loop-i-init : goal.loop-i-init
loop-i-init c = list.begins _

pub offset_bounds-subs-i : goal.offset_bounds-subs-i
offset_bounds-subs-i c = let room = list.room c.loop-i.invariant (less (goal.at.offset_bounds-subs-i c).In-loop-i) in record { fits = omega arith }

pub bounds-subs-i : goal.bounds-subs-i
bounds-subs-i c = list.room c.loop-i.invariant (less (goal.at.bounds-subs-i c).In-loop-i)

pub overflow_add-at : goal.overflow_add-at
overflow_add-at c =
    let told = list.told c.loop-i.invariant (less (goal.at.overflow_add-at c).In-loop-i) ∙ ap (λ (x : SubFrame). Ok (Some x)) (sym c.sub_at-sub.ensures) in
    record { fits = omega (arith, inverse.ends-within _ _ _ told, c.well_formed) }

pub loop-i-preserved : goal.loop-i-preserved
loop-i-preserved c = list.turn c.loop-i.invariant (less (goal.at.loop-i-preserved c).In-loop-i) c.sub_at-sub.result c.sub_at-sub.ensures

pub returns-in_err-found : goal.returns-in_err-found
returns-in_err-found c =
    let p = err_from_is_err_and c.from_residual.result c.from_residual.ensures.1 in
    p.1 ∙ ap Err p.2 ∙ list.refused _ _ (sym c.check.ensures ∙ c.in_err-found.was)

pub returns : goal.returns
returns c = list.done c.loop-i.invariant _ (sym c.check.ensures ∙ c.in_ok-found.was) c.loop-i-test.false
