-- What writing and reading a data payload have to do with each other. proofs/Back.antt has the proofs.
use Rattle.std.specs.Prelude.{ℕ, ◌≡◌, List, Bool, drop, Ok}
use Rattle.octets.specs.Octets.{Octets}
use Rattle.octets.specs.Made.{made}
use Rattle.counts.specs.declared.DataCount.{DataCount}
use Rattle.data.specs.Data.{data_read, data_made}

-- What is made reads back.
abbrev pub MadeReadsBack : Type 0
MadeReadsBack =
    (begins ends : Bool) (sequence : DataCount) (body octets : List ℕ)
    → data_made begins ends sequence.0 body ≡ made octets
    → (data_read octets ≡ Ok (record { begins = begins; ends = ends; sequence = sequence })) × (drop 2 octets ≡ body)

-- What is read is made again.
abbrev pub ReadIsMade : Type 0
ReadIsMade =
    (octets : List ℕ) (begins ends : Bool) (sequence : DataCount)
    → Octets octets
    → data_read octets ≡ Ok (record { begins = begins; ends = ends; sequence = sequence })
    → data_made begins ends sequence.0 (drop 2 octets) ≡ made octets
