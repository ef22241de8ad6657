-- `streaming::input::begin` meets its contract: the text ends within what was read.
use Rattle.std.proofs.Common.{sym, arith}
use lib.Seq.{length-take-le}
use Rattle.recording.proofs.Bounds as bounds
use Rattle.streaming.proofs.input.begin.Goals as goal

pub slice_bounds-text-end-2 : goal.slice_bounds-text-end-2
slice_bounds-text-end-2 g c =
    sym (length-take-le _ _ (omega (arith, bounds.text_ends _ _ _ c.read_full-to.ensures c.text_end-from.ensures, c.read_full-to.ensures)))
