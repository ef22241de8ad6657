-- `recording::pieces::line_end` meets its contract: the octet that stops the blocks of one is the first LF.
use mathlib.Core.Path.{◌≡◌, refl, sym, ap, ◌∙◌}
use mathlib.Core.Bool.{false}
use native.Mathlib.Omega.{arith}
use lib.ListN.{take}
use lib.Seq.{take_all}
use Rattle.octets.specs.Text.{has_lf}
use Rattle.recording.specs.Pieces.{line_size}
use Rattle.recording.proofs.Blocks as blocks
use Rattle.recording.proofs.pieces.line_end.Goals as goal

pub pass_blocks-large-requires-clause-s_value : goal.pass_blocks-large-requires-clause-s_value
unfolding has_lf
pass_blocks-large-requires-clause-s_value c = refl

pub returns-then-at-s : goal.returns-then-at-s
returns-then-at-s c = let e = blocks.ends c.args.s.now c.pass_blocks-at.result c.if-at-s.true c.pass_blocks-at.ensures.passed (c.pass_blocks-at.ensures.stops (omega arith)) in
    let size = e.0 in
    let whole = e.1 in
    cc

pub returns : goal.returns
returns c = let all : take c.pass_blocks-at.result c.args.s.now ≡ c.args.s.now = take_all c.pass_blocks-at.result c.args.s.now c.if-at-s.false in
    let whole : has_lf c.args.s.now ≡ false = ap has_lf (sym all) ∙ c.pass_blocks-at.ensures.passed in
    let size : line_size c.args.s.now ≡ c.pass_blocks-at.result = omega (arith, blocks.no_end c.args.s.now whole, c.pass_blocks-at.ensures.within) in
    cc
