-- `listing::listing::list_line` meets its contract: where the room is there, what the line holds is listed.
use native.Mathlib.Omega.{arith}
use lib.ListN.{replicate}
use Rattle.printing.proofs.Appending as appending
use Rattle.listing.proofs.Listings as listings
use Rattle.listing.proofs.listing.list_line.Goals as goal

pub returns-then-exceeds : goal.returns-then-exceeds
returns-then-exceeds c = let both = let a = c.args in listings.no_room a.out.now a.at c.exceeds.ensures _ c.if-exceeds.true in record { answer = both.0; holds = both.1 }

pub returns : goal.returns
returns c = let both = let a = c.args in
    let text = listings.of-line a.n a.table.now (replicate 1600 0) a.line.now (omega arith) c.read_line-read.ensures.says c.read_line-read.ensures.holds in
    listings.stands a.out.now a.at c.exceeds.ensures _ c.if-exceeds.false (appending.reads c.put_read.ensures text) in record { answer = both.0; holds = both.1 }
