-- `record::syntax::pairs` meets its contract: each mask, held against the listed pairs.
use Rattle.record.specs.declared.syntax.Syntax.TheVariants.{Acelp, Pcm, G727, G728, G7231, Data, Fax}
use Rattle.record.proofs.Listed as listed
use Rattle.record.proofs.syntax.pairs.Goals as goal

pub returns-in-Acelp : goal.returns-in-Acelp
returns-in-Acelp c = rw c.in-Acelp.is (listed.masked Acelp 0x3ffc tt)

pub returns-in-Pcm : goal.returns-in-Pcm
returns-in-Pcm c = rw c.in-Pcm.is (listed.masked Pcm 0x2aaaaa8 tt)

pub returns-in-G727 : goal.returns-in-G727
returns-in-G727 c = rw c.in-G727.is (listed.masked G727 0x2aaaaa8 tt)

pub returns-in-G728 : goal.returns-in-G728
returns-in-G728 c = rw c.in-G728.is (listed.masked G728 0x3fffffc tt)

pub returns-in-G7231 : goal.returns-in-G7231
returns-in-G7231 c = rw c.in-G7231.is (listed.masked G7231 0xc tt)

pub returns-in-Data : goal.returns-in-Data
returns-in-Data c = rw c.in-Data.is (listed.masked Data 0x4 tt)

pub returns-in-Fax : goal.returns-in-Fax
returns-in-Fax c = rw c.in-Fax.is (listed.masked Fax 0x4 tt)
