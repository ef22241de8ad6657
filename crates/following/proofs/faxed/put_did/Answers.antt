-- `following::faxed::put_did` meets its contract: by what was done.
use native.Mathlib.Omega.{arith}
use Rattle.octets.specs.Text.{ascii}
use Rattle.printing.proofs.Appending as appending
use Rattle.following.specs.Following.{did_lines}
use Rattle.following.proofs.Lines as lines
use Rattle.following.proofs.faxed.put_did.Goals as goal

pub returns-in-Nothing : goal.returns-in-Nothing
unfolding did_lines
returns-in-Nothing c = rw c.in-Nothing.is (lines.alone (ascii "did=nothing") c.requires (omega arith) (c.put_line.ensures.answer, c.put_line.ensures.holds))

pub returns-in-Stopped : goal.returns-in-Stopped
unfolding did_lines
returns-in-Stopped c =
    let one = appending.then-line (appending.none c.args.out.now c.args.at) (ascii "did=stopped") (omega (arith, c.requires)) (c.put_line-past_did.ensures.answer, c.put_line-past_did.ensures.holds) in
    let two = appending.then-field one (ascii "stamp=") _ (omega (arith, c.requires)) (c.put_field.ensures.answer, c.put_field.ensures.holds) in
    rw c.in-Stopped.is (appending.within two 126 (omega arith))

pub returns-in-Added : goal.returns-in-Added
unfolding did_lines
returns-in-Added c = rw c.in-Added.is (lines.alone (ascii "did=added") c.requires (omega arith) (c.put_line-in-Added.ensures.answer, c.put_line-in-Added.ensures.holds))

pub returns-in-Ended : goal.returns-in-Ended
unfolding did_lines
returns-in-Ended c = rw c.in-Ended.is (lines.alone (ascii "did=ended") c.requires (omega arith) (c.put_line-in-Ended.ensures.answer, c.put_line-in-Ended.ensures.holds))

pub returns-in-Aborted : goal.returns-in-Aborted
unfolding did_lines
returns-in-Aborted c = rw c.in-Aborted.is (lines.alone (ascii "did=aborted") c.requires (omega arith) (c.put_line-in-Aborted.ensures.answer, c.put_line-in-Aborted.ensures.holds))
