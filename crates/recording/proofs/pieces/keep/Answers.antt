-- `recording::pieces::keep` meets its contract: what fits is copied behind what is kept.
use lib.Seq.{length-take-le}
use Rattle.recording.proofs.Ends as ends
use lib.ListN.{length}
use Rattle.recording.specs.declared.pieces.Line.{Line}
use Prim.Native.Nat.{ℕ, ◌≤◌}
use mathlib.Core.Path.{sym, ap, ◌∙◌}
use native.Mathlib.Omega.{arith}
use Rattle.refusal.specs.declared.Refusal.{Refusal}
use Rattle.std.specs.declared.result.Result.{Result}
use Rattle.std.specs.Result.{result_unwrap_or}
use Rattle.recording.proofs.Keeping as keeping
use Rattle.recording.proofs.pieces.keep.Goals as goal

pub slice_bounds-put_octets-end : goal.slice_bounds-put_octets-end
slice_bounds-put_octets-end c = let a = c.args in
    let line = ap (λ (l : Line). l.size) c.line_end-taken.ensures in
    sym (length-take-le _ a.piece.now (omega (arith, c.least-n.ensures, line, ends.size-within a.piece.now)))

pub returns : goal.returns
returns c = let a = c.args in
    let put = c.put_octets.ensures in
    let size = ap (λ (l : Line). l.size) c.line_end-taken.ensures in
    let room : a.have ≤ length a.kept.now = omega (arith, c.if-room-have.false) in
    let is-written = keeping.is-written a.kept.now a.piece.now a.have room size c.least-n.ensures put.answer put.holds in
    let have = c.unwrap_or-have.ensures ∙ ap (λ (r : Result ℕ Refusal). result_unwrap_or r a.have) is-written in
    record {
      says = keeping.answers (length a.kept.now) a.have _ a.piece.now _ c.line_end-taken.ensures have;
      holds = keeping.holds-is a.kept.now a.piece.now a.have room size c.least-n.ensures put.answer put.holds;
    }
