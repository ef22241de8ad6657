-- What is claimed of signalling payloads, written and read (demand 2). Proved in proofs/LayoutBack.antt.
use Rattle.std.specs.Prelude.{ℕ, ◌≡◌, List, length, Ok}
use Rattle.octets.specs.Octets.{Octets}
use Rattle.octets.specs.Made.{made}
use Rattle.signalling.specs.declared.layout.Signalling.{Signalling}
use Rattle.signalling.specs.Layout.{signalling_read, signalling_made}

-- What is made of thirty samples reads back.
abbrev pub SignallingReadsBack : Type 0
SignallingReadsBack =
    (s : Signalling) (octets : List ℕ)
    → length s.samples ≡ 30
    → signalling_made s ≡ made octets
    → signalling_read octets ≡ Ok s

-- What is read is made again, to the octet.
abbrev pub SignallingMadeAgain : Type 0
SignallingMadeAgain =
    (s : Signalling) (octets : List ℕ)
    → Octets octets
    → signalling_read octets ≡ Ok s
    → (length s.samples ≡ 30) × (signalling_made s ≡ made octets)
