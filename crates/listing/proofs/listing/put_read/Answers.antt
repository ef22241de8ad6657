-- `listing::listing::put_read` meets its contract: the frame, or the refusal of the line.
use native.Mathlib.Omega.{arith}
use Rattle.printing.proofs.Appending as appending
use Rattle.listing.proofs.listing.put_read.Goals as goal

pub returns-in-Err : goal.returns-in-Err
returns-in-Err c =
    rw (c.in-Err.is, ← c.number.ensures)
    (appending.within (appending.refused-stands _ _ _ _ _ (omega (arith, c.requires.at_in_bounds)) (c.put_refused.ensures.answer, c.put_refused.ensures.holds)) 6709 (omega arith))
