-- What is made reads back (specs/Claims.antt).
use Prim.Native.Nat.{ℕ, ◌+◌, ◌-◌, ◌*◌, ◌/◌, ◌%◌, ◌≤◌}
use mathlib.Core.Path.{◌≡◌, refl, ap, ◌∙◌}
use mathlib.Core.List.{List, ◌++◌}
use mathlib.Core.Bool.{Bool, true, false, ◌&&◌}
use native.Mathlib.Omega.{arith}
use borrow.Author.Tests.{le-leb, lt-leb}
use lib.Dec.{ltb, eqb}
use lib.ListN.{length, drop}
use lib.Seq.{drop_at}
use Rattle.std.specs.declared.option.Option.{Option}
use Rattle.std.specs.declared.option.Option.TheVariants.{None, Some}
use Rattle.octets.proofs.Order.{clash}
use Rattle.octets.proofs.MadeBack.{same-made}
use Rattle.fax.specs.declared.Command.{Command}
use Rattle.fax.specs.declared.Command.TheVariants.{Off, On, Page, EndOfFrame, Abort}
use Rattle.fax.specs.Fax.{ei1_for, code_of, first_octet, on_octet, head_octets, front_of, bit8, ei1_in, sequence_in, code_in, stamp_in, ei2_in, zero_bits_in, command_of, command_in, body_sized, fax_read}
use Rattle.fax.specs.Claims.{MadeReadsBack}
use Rattle.fax.proofs.FaxCases as cases

-- the fields of a first octet
module _ (e s k : ℕ) (few : s ≤ 15) (small : k ≤ 4) where
  middle : (e * 128 + s * 8 + k) / 8 % 16 ≡ s
  middle = omega arith

  bottom : (e * 128 + s * 8 + k) % 8 ≡ k
  bottom = omega arith

code-small : (command : Command) → code_of command ≤ 4
code-small Off = omega arith
code-small (On h m f) = omega arith
code-small Page = omega arith
code-small EndOfFrame = omega arith
code-small Abort = omega arith

-- the stamp, from the octets that are made
record StampBack (stamp : Option ℕ) (octets : List ℕ) : Type 0 where
  is : stamp_in octets ≡ stamp
  clear : ei2_in octets ≡ false

stamp-back :
    (s : ℕ) (stamp : Option ℕ) (command : Command) (body : List ℕ)
    → cases.Passed s stamp command body
    → StampBack stamp (head_octets s stamp command ++ body)
stamp-back s None command body p =
    let none : ei1_in (head_octets s None command ++ body) ≡ false = lt-leb 128 (first_octet s None command) (omega (arith, code-small command, p.four_bits)) in
    record { is = rw none; clear = rw none }
stamp-back s (Some t) command body p =
    let one : ei1_in (head_octets s (Some t) command ++ body) ≡ true = le-leb 128 (first_octet s (Some t) command) (omega arith) in
    let whole : t / 256 % 128 * 256 + t % 256 ≡ t = omega arith in
    record { is = rw one (ap Some whole); clear = rw one (lt-leb 128 (t / 256) (omega arith)) }

-- the command on, from its octet
on-octet : (hdlc : Bool) (m : ℕ) → m ≤ 11 → (bit8 (on_octet hdlc m) ≡ hdlc) × (on_octet hdlc m % 16 ≡ m) × (on_octet hdlc m / 16 % 8 ≡ 0)
on-octet true m h = (le-leb 128 (128 + m) (omega arith), omega arith, omega arith)
on-octet false m h = (lt-leb 128 (0 + m) (omega arith), omega arith, omega arith)

record CommandBack (command : Command) (octets : List ℕ) : Type 0 where
  is : command_in octets ≡ command
  free : (eqb (code_in octets) 1 && ltb 0 (zero_bits_in octets)) ≡ false

command-back :
    (s : ℕ) (stamp : Option ℕ) (command : Command) (body : List ℕ)
    → code_in (head_octets s stamp command ++ body) ≡ code_of command
    → cases.Passed s stamp command body
    → CommandBack command (head_octets s stamp command ++ body)
unfolding command_of
command-back s stamp Off body code p = record { is = rw code; free = rw code }
command-back s None (On h m f) body code p = clash true refl p.stamped
command-back s (Some t) (On h m f) body code p =
    let o = on-octet h m (cases.modulation-small m f p.taken) in
    let whole : f / 256 * 256 + f % 256 ≡ f = omega arith in
    record { is = rw (code, o.0, o.1, whole); free = rw (code, o.2) }
command-back s stamp Page body code p = record { is = rw code; free = rw code }
command-back s stamp EndOfFrame body code p = record { is = rw code; free = rw code }
command-back s stamp Abort body code p = record { is = rw code; free = rw code }

reads :
    (s : ℕ) (stamp : Option ℕ) (command : Command) (body : List ℕ)
    → cases.Passed s stamp command body
    → fax_read (head_octets s stamp command ++ body) ≡ cases.told s stamp command (front_of stamp command)
reads s stamp command body p =
    let octets = head_octets s stamp command ++ body in
    let front : ℕ = front_of stamp command in
    let small = code-small command in
    let code : code_in octets ≡ code_of command = bottom (ei1_for stamp) s (code_of command) p.four_bits small in
    let sequence : sequence_in octets ≡ s = middle (ei1_for stamp) s (code_of command) p.four_bits small in
    let st = stamp-back s stamp command body p in
    let co = command-back s stamp command body code p in
    let many : length octets ≡ front + length body = cases.made_size s stamp command body in
    let rest : length octets - front ≡ length body = omega arith in
    let fronted : cases.Fronted octets stamp command front =
    record { some = omega arith; known = omega arith; st = st.is; co = co.is; stamped = p.stamped; front-is = refl }
    in
    cases.right fronted (omega arith) (ap (body_sized command) rest ∙ p.sized) st.clear co.free p.taken
    ∙ ap (λ (x : ℕ). cases.told x stamp command front) sequence

pub made-reads-back : MadeReadsBack
made-reads-back s stamp command body octets e =
    let p = cases.passed-all s stamp command body octets e in
    let is : octets ≡ head_octets s stamp command ++ body = same-made _ _ _ e (cases.is_made s stamp command body p) in (
      ap fax_read is ∙ reads s stamp command body p,
      ap (drop (front_of stamp command)) is ∙ drop_at (head_octets s stamp command) body (front_of stamp command) (cases.head-size s stamp command),
    )
