-- `recording::pieces::text_end` meets its contract: what was passed is text, so the rest decides.
use mathlib.Core.Bool.{true, false}
use Rattle.octets.specs.Text.{starts}
use Rattle.hexline.specs.Line.{frame_key}
use mathlib.Core.Path.{◌≡◌, sym}
use native.Mathlib.Omega.{arith}
use lib.ListN.{drop}
use Rattle.recording.specs.Pieces.{text_from}
use Rattle.recording.proofs.Ends as ends
use Rattle.recording.proofs.pieces.text_end.Goals as goal
use Rattle.recording.proofs.pieces.text_end.Goals.{else-begins-via-then-begins+else-starts, else-begins-via-else-begins}

pub returns-then-starts : goal.returns-then-starts
returns-then-starts c =
    let s = c.args.s.now in
    let l = c.loop-at in
    let here : starts (drop l.at s) frame_key ≡ true = rw (ends.rest-is s l.at) at (sym c.if-starts.ensures) in
    let none : text_from l.begins (drop l.at s) ≡ 0 = rw c.if-begins.true (ends.frame_here s l.at c.loop-at-test.true here) in
    omega (arith, l.invariant)

pub loop-at-preserved : goal.loop-at-preserved
loop-at-preserved c =
    let s = c.args.s.now in
    let l = c.loop-at in
    let on =
    ends.text-on s l.at c.loop-at-test.true l.begins
    (elim c.else-begins.branch [
      | else-begins-via-then-begins+else-starts w ↦
          let otherwise : starts (drop l.at s) frame_key ≡ false = rw (ends.rest-is s l.at) at (sym w.if-starts.ensures) in
          rw (w.if-begins.true, otherwise)
      | else-begins-via-else-begins w ↦ rw w.if-begins.false
    ])
    in
    omega (arith, l.invariant)

pub returns : goal.returns
returns c =
    let l = c.loop-at in omega (arith, l.invariant, ends.text-over c.args.s.now l.at l.begins c.loop-at-test.false)
