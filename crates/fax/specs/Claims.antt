-- What writing and reading a fax payload have to do with each other. proofs/MadeReads.antt and proofs/ReadMakes.antt have the proofs.
use Rattle.std.specs.Prelude.{ℕ, ◌≡◌, List, drop, Option, Ok}
use Rattle.octets.specs.Octets.{Octets}
use Rattle.octets.specs.Made.{made}
use Rattle.fax.specs.declared.Command.{Command}
use Rattle.fax.specs.declared.Fax.{Fax}
use Rattle.fax.specs.Fax.{front_of, fax_read, fax_made}

-- What is made reads back.
abbrev pub MadeReadsBack : Type 0
MadeReadsBack =
    (sequence : ℕ) (stamp : Option ℕ) (command : Command) (body octets : List ℕ)
    → fax_made sequence stamp command body ≡ made octets
    → (fax_read octets ≡ Ok (record { sequence = sequence; stamp = stamp; command = command; front = front_of stamp command }))
    × (drop (front_of stamp command) octets ≡ body)

-- What is read is made again.
abbrev pub ReadIsMade : Type 0
ReadIsMade =
    (octets : List ℕ) (fax : Fax)
    → Octets octets
    → fax_read octets ≡ Ok fax
    → fax_made fax.sequence fax.stamp fax.command (drop fax.front octets) ≡ made octets
