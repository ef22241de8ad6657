-- `following::stream::follow_piece` meets its contract: each turn takes a line, or what the piece has of it.
use native.Mathlib.Omega.{arith}
use mathlib.Core.Path.{refl, sym, ◌∙◌}
use Rattle.std.proofs.Common.{rules}
use Rattle.following.proofs.StreamTurns as turns
use Rattle.following.proofs.stream.follow_piece.Goals as goal
use Rattle.following.proofs.stream.follow_piece.Goals.{then-loop-frame-test+else-out-used-ge-MOST_FOLLOWED, else-loop-frame-test}

pub loop-frame-init : goal.loop-frame-init
loop-frame-init c = (turns.begins _ _ _ _ _ _ _, refl)

pub slice_bounds-rest-count : goal.slice_bounds-rest-count
slice_bounds-rest-count c = turns.part c.loop-frame.invariant.0 (sym c.is_empty.ensures ∙ c.loop-frame-test.true) c.loop-frame.frame c.take_line-taken.result c.take_line-taken.ensures.says

pub slice_bounds-rest-start : goal.slice_bounds-rest-start
slice_bounds-rest-start c = let h = turns.part c.loop-frame.invariant.0 (sym c.is_empty.ensures ∙ c.loop-frame-test.true) c.loop-frame.frame c.take_line-taken.result c.take_line-taken.ensures.says in search rules

pub loop-frame-smaller : goal.loop-frame-smaller
loop-frame-smaller c = turns.shorter c.loop-frame.invariant.0 (sym c.is_empty.ensures ∙ c.loop-frame-test.true) c.loop-frame.frame c.take_line-taken.result c.take_line-taken.ensures.says

pub loop-frame-preserved : goal.loop-frame-preserved
loop-frame-preserved c = (
  turns.turn c.loop-frame.invariant.0 (sym c.is_empty.ensures ∙ c.loop-frame-test.true) c.loop-frame.frame c.take_line-taken.result c.take_line-taken.ensures.says (omega (arith, c.loop-frame.invariant.1))
      c.if-out-used-ge-MOST_FOLLOWED.true c.take_line-taken.ensures.keeps c.take_line-taken.ensures.holds c.put_taken-used.ensures,
  omega (arith, c.take_line-taken.auto.frame, c.loop-frame.invariant.1),
)

pub returns : goal.returns
returns c =
    let both : turns.Ends c.loop-frame.invariant.0 =
    elim c.loop-frame-test.branch [
      | then-loop-frame-test+else-out-used-ge-MOST_FOLLOWED w ↦ turns.short c.loop-frame.invariant.0 (sym c.is_empty.ensures ∙ w.loop-frame-test.true) w.if-out-used-ge-MOST_FOLLOWED.false
      | else-loop-frame-test w ↦ turns.all c.loop-frame.invariant.0 (sym c.is_empty.ensures ∙ w.loop-frame-test.false)
    ]
    in
    record { says = both.0; keeps = both.1.0; leaves = both.1.1.0; holds = both.1.1.1 }
