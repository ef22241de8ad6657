-- `printing::append::put_text` meets its contract: after so many turns as many octets stand.
use lib.ListN.{take}
use Rattle.printing.specs.Room.{Appended}
use Rattle.printing.proofs.append.put_text.Given as goal

abbrev pub invariant-loop-octet : goal.invariant-loop-octet
invariant-loop-octet l = Appended l.initial.out l.at (take l.octet-index l.text) l.octet-index l.out l.next
