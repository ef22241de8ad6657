-- `dialling::Sender::send` meets its contract: an entry that no test refuses is a period.
use Rattle.std.proofs.Common.{rules}
use Rattle.dialling.proofs.SenderCases.{period_answer, period_sender}
use Rattle.dialling.proofs.Sender.send.Goals as goal

pub returns-clause-answer : goal.returns-clause-answer
returns-clause-answer c = search (rules, period_answer)

pub returns-clause-after : goal.returns-clause-after
returns-clause-after c = search (rules, period_sender)
