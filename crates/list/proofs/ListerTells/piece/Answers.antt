-- `list::Lister` tells some of a piece, and no more than it has.
use Rattle.std.proofs.Common.{length, arith}
use Rattle.listing.specs.Listing.{tell_line, most_listed}
use Rattle.recording.proofs.Walked as walked
use Rattle.list.proofs.ListerTells.piece.Goals as goal

pub returns-clause-within : goal.returns-clause-within
returns-clause-within c =
    let a = c.args in
    walked.within (tell_line a.self.now.table.now) most_listed (length a.out.now) a.begun a.self.now.kept tt a.piece.now c.list_piece.result c.list_piece.ensures.says

pub returns-clause-some : goal.returns-clause-some
returns-clause-some c =
    let a = c.args in
    walked.some (tell_line a.self.now.table.now) most_listed (length a.out.now) a.begun a.self.now.kept tt a.piece.now c.list_piece.result c.list_piece.ensures.says (omega (arith, c.told-out))
