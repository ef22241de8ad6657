-- Silence descriptors, written and read (demand 2). Proved in proofs/SidBack.antt.
use Rattle.std.specs.Prelude.{ℕ, ◌*◌, ◌/◌, ◌%◌, ◌≡◌, List, [], ◌∷◌, length, Ok}
use Rattle.octets.specs.Octets.{Octets}
use Rattle.octets.specs.Made.{made}
use Rattle.record.specs.declared.syntax.Syntax.{Syntax}
use Rattle.sid.specs.declared.Sid.{Sid}
use Rattle.sid.specs.Sid.{sid_read, sid_made}

-- A silence descriptor that is made reads back.
abbrev pub SidReadsBack : Type 0
SidReadsBack = (syntax : Syntax) (sid : Sid) (octets : List ℕ) → sid_made syntax sid ≡ made octets → sid_read syntax octets ≡ Ok sid

-- the octets without their reserved bits, which reading ignores
abbrev pub unreserved : List ℕ → List ℕ
unreserved [] = []
unreserved (a ∷ []) = a ∷ []
unreserved (a ∷ b ∷ rest) = (a / 16 * 16) ∷ (b % 64) ∷ rest

-- One that is read is made again, to the octet but for the reserved bits.
abbrev pub SidMadeAgain : Type 0
SidMadeAgain =
    (syntax : Syntax) (sid : Sid) (octets : List ℕ)
    → Octets octets
    → sid_read syntax octets ≡ Ok sid
    → sid_made syntax sid ≡ made (unreserved octets)

-- Those octets are as many, and read the same.
abbrev pub SidReadAlike : Type 0
SidReadAlike =
    (syntax : Syntax) (sid : Sid) (octets : List ℕ)
    → Octets octets
    → sid_read syntax octets ≡ Ok sid
    → (length (unreserved octets) ≡ length octets) × (sid_read syntax (unreserved octets) ≡ Ok sid)
