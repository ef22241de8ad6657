-- `printing::hex::put_hex` meets its contract: after so many turns as many octets stand.
use Prim.Native.Nat.{◌*◌}
use lib.ListN.{take}
use Rattle.printing.specs.Hex.{hex_of}
use Rattle.printing.specs.Room.{Appended}
use Rattle.printing.proofs.hex.put_hex.Given as goal

abbrev pub invariant-loop-octet : goal.invariant-loop-octet
invariant-loop-octet l = Appended l.initial.out l.at (hex_of (take l.octet-index l.octets)) (2 * l.octet-index) l.out l.next
