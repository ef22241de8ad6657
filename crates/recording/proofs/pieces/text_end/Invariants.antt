-- `recording::pieces::text_end` meets its contract: what was passed is text, so the rest decides.
use Prim.Native.Nat.{◌+◌}
use mathlib.Core.Path.{◌≡◌}
use lib.ListN.{drop}
use Rattle.recording.specs.Pieces.{text_from, text_end}
use Rattle.recording.proofs.pieces.text_end.Given as goal

abbrev pub invariant-loop-at : goal.invariant-loop-at
invariant-loop-at l = text_end l.s ≡ l.at + text_from l.begins (drop l.at l.s)
