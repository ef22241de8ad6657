-- `recording::stream::take_line` meets its contract: the line from the piece, or behind what is kept of it.
use mathlib.Core.Path.{◌≡◌, sym, ap, ◌∙◌}
use mathlib.Core.Bool.{true, false}
use Rattle.octets.specs.Text.{has_lf}
use Rattle.octets.proofs.Texts.{true-not-false}
use Rattle.recording.specs.declared.pieces.Kept.{Kept}
use native.Mathlib.Omega.{arith}
use lib.Seq.{length-take-le}
use Rattle.recording.specs.declared.pieces.Line.{Line}
use Rattle.recording.proofs.Ends as ends
use Rattle.recording.proofs.Keeping as keeping
use Rattle.recording.proofs.stream.take_line.Goals as goal
use Rattle.recording.proofs.stream.take_line.Goals.{then-have-eq0+else-own, else-have-eq0}

pub slice_bounds-read_line-end : goal.slice_bounds-read_line-end
slice_bounds-read_line-end c = let line = ap (λ (l : Line). l.size) c.line_end-own.ensures in
    sym (length-take-le _ _ (omega (arith, line, ends.size-within c.args.piece.now)))

pub returns-then-line-clause-says : goal.returns-then-line-clause-says
returns-then-line-clause-says c =
    let lf : has_lf c.args.piece.now ≡ true = sym (ap (λ (k : Kept). k.whole) c.keep-line.ensures.says) ∙ c.if-line.true in
    elim c.if-have-eq0.branch [
      | then-have-eq0+else-own w ↦
          let none : has_lf c.args.piece.now ≡ false = sym (ap (λ (l : Line). l.whole) w.line_end-own.ensures) ∙ w.if-own.false in
          absurd (true-not-false (sym lf ∙ none))
      | else-have-eq0 w ↦ keeping.taken-whole _ _ _ c.args.piece.now lf w.if-have-eq0.false c.keep-line.ensures.says c.keep-line.ensures.holds c.least-end.ensures c.read_line-then-line.ensures.says c.after-then-line.ensures
    ]
