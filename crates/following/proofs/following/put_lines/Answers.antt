-- `following::following::put_lines` meets its contract: four fields, then what was heard.
use native.Mathlib.Omega.{arith}
use mathlib.Core.List.{◌++◌}
use Rattle.octets.specs.Text.{ascii}
use Rattle.printing.specs.Field.{field}
use Rattle.printing.specs.Room.{Appended}
use Rattle.printing.proofs.Appending as appending
use Rattle.following.specs.Following.{sub_lines}
use Rattle.following.proofs.following.put_lines.Goals as goal
use Rattle.following.proofs.following.put_lines.Goals.{After-put_field-past_answer}

-- the four fields
four :
    (c : After-put_field-past_answer)
    → Appended c.args.out.now c.args.at
    (field (ascii "frame=") c.args.n ++ field (ascii "type=") c.args.sub.ptype ++ field (ascii "len=") c.args.sub.len ++ field (ascii "answer=") c.number_of.result)
    106 c.put_field-past_answer.new.out c.put_field-past_answer.result
four c =
    let one = appending.then-field (appending.none c.args.out.now c.args.at) (ascii "frame=") c.args.n (omega (arith, c.requires)) (c.put_field-past_frame.ensures.answer, c.put_field-past_frame.ensures.holds) in
    let two = appending.then-field one (ascii "type=") c.args.sub.ptype (omega (arith, c.requires)) (c.put_field-past_type.ensures.answer, c.put_field-past_type.ensures.holds) in
    let three = appending.then-field two (ascii "len=") c.args.sub.len (omega (arith, c.requires)) (c.put_field-past_len.ensures.answer, c.put_field-past_len.ensures.holds) in
    appending.then-field three (ascii "answer=") c.number_of.result (omega (arith, c.requires)) (c.put_field-past_answer.ensures.answer, c.put_field-past_answer.ensures.holds)

pub put_answer-requires : goal.put_answer-requires
put_answer-requires c = appending.room-behind (four (goal.at.put_answer-requires c).After-put_field-past_answer) 303 (omega (arith, c.requires))

pub returns : goal.returns
unfolding sub_lines
returns c = rw c.number_of.ensures at (appending.then (four (goal.at.returns c).After-put_field-past_answer) c.put_answer.ensures (omega (arith, c.requires)))
