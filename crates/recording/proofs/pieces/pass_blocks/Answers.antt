-- `recording::pieces::pass_blocks` meets its contract: the blocks passed have no LF.
use mathlib.Core.Path.{sym}
use mathlib.Core.Bool.{true, false}
use native.Mathlib.Omega.{arith}
use Rattle.recording.proofs.Blocks as blocks
use Rattle.recording.proofs.pieces.pass_blocks.Goals as goal

pub returns-then-has_lf-clause-stops : goal.returns-then-has_lf-clause-stops
returns-then-has_lf-clause-stops c = λ room. blocks.behind c.args.s.now c.loop-at.at c.args.size true c.loop-at.invariant.1 (sym c.if-has_lf.ensures)

pub loop-at-preserved : goal.loop-at-preserved
loop-at-preserved c = (omega arith, blocks.behind c.args.s.now c.loop-at.at c.args.size false c.loop-at.invariant.1 (sym c.if-has_lf.ensures))
