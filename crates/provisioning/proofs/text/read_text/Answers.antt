-- `provisioning::text::read_text` meets its contract: each turn reads one line, and what stops the loop stops the walk.
use mathlib.Core.Path.{sym, ap, ◌∙◌}
use Rattle.std.proofs.Common.{rules}
use Rattle.std.specs.declared.result.Result.TheVariants.{Ok}
use Rattle.provisioning.proofs.Turns as turns
use Rattle.provisioning.proofs.text.read_text.Goals as goal

pub returns-then-text-gt-MOST_OCTETS : goal.returns-then-text-gt-MOST_OCTETS
returns-then-text-gt-MOST_OCTETS c = let e = turns.too_long c.args.text.now c.if-text-gt-MOST_OCTETS.true in record { says = rw e; holds = rw e }

pub loop-rest-init : goal.loop-rest-init
loop-rest-init c = turns.begins c.args.text.now c.start-state.result c.if-text-gt-MOST_OCTETS.false c.start-state.ensures

pub slice_bounds-rest-count : goal.slice_bounds-rest-count
slice_bounds-rest-count c = (turns.line-size c.loop-rest.invariant (sym c.is_empty.ensures ∙ c.loop-rest-test.true) (sym c.in-Ok.ensures)).1

pub slice_bounds-rest-start : goal.slice_bounds-rest-start
slice_bounds-rest-start c = let h = (turns.line-size c.loop-rest.invariant (sym c.is_empty.ensures ∙ c.loop-rest-test.true) (sym c.in-Ok.ensures)).1 in search rules

pub loop-rest-smaller-then-begins : goal.loop-rest-smaller-then-begins
loop-rest-smaller-then-begins c = turns.shorter c.loop-rest.invariant (sym c.is_empty.ensures ∙ c.loop-rest-test.true) (sym c.in-Ok.ensures)

pub loop-rest-preserved-then-begins : goal.loop-rest-preserved-then-begins
loop-rest-preserved-then-begins c = turns.block c.loop-rest.invariant (sym c.is_empty.ensures ∙ c.loop-rest-test.true) (sym c.in-Ok.ensures) (sym c.begins.ensures ∙ c.if-begins.true) c.pack.ensures

pub loop-rest-smaller : goal.loop-rest-smaller
loop-rest-smaller c = turns.shorter c.loop-rest.invariant (sym c.is_empty.ensures ∙ c.loop-rest-test.true) (sym c.in-Ok.ensures)

pub loop-rest-preserved : goal.loop-rest-preserved
loop-rest-preserved c = turns.turn c.loop-rest.invariant (sym c.is_empty.ensures ∙ c.loop-rest-test.true) (sym c.in-Ok.ensures) (sym c.begins.ensures ∙ c.if-begins.false)

pub returns-in-Err : goal.returns-in-Err
returns-in-Err c = let e = turns.stops c.loop-rest.invariant (sym c.is_empty.ensures ∙ c.loop-rest-test.true) (sym c.in-Err.ensures) in record { says = rw e; holds = rw e }

pub returns-then-begins-2 : goal.returns-then-begins-2
returns-then-begins-2 c =
    let e = turns.all c.loop-rest.invariant (sym c.is_empty.ensures ∙ c.loop-rest-test.false) (sym c.begins-2.ensures ∙ c.if-begins-2.true) in
    record { says = rw e (ap Ok (sym c.loop-rest.invariant.many)); holds = rw e c.loop-rest.invariant.stands }

pub returns : goal.returns
returns c = let e = turns.cut c.loop-rest.invariant (sym c.is_empty.ensures ∙ c.loop-rest-test.false) (sym c.begins-2.ensures ∙ c.if-begins-2.false) in record { says = rw e; holds = rw e }
