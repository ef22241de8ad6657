-- `follow::Follower` tells some of a piece, and no more than it has.
use Rattle.std.proofs.Common.{length, arith}
use Rattle.following.specs.Following.{line_following, most_followed}
use Rattle.recording.proofs.Walked as walked
use Rattle.follow.proofs.FollowerTells.piece.Goals as goal

pub returns-clause-within : goal.returns-clause-within
returns-clause-within c =
    let a = c.args in
    let s = a.self.now in
    walked.within (line_following s.table.now s.cid) most_followed (length a.out.now) a.begun s.kept s.trunk a.piece.now c.follow_piece.result c.follow_piece.ensures.says

pub returns-clause-some : goal.returns-clause-some
returns-clause-some c =
    let a = c.args in
    let s = a.self.now in
    walked.some (line_following s.table.now s.cid) most_followed (length a.out.now) a.begun s.kept s.trunk a.piece.now c.follow_piece.result c.follow_piece.ensures.says (omega (arith, c.told-out))
