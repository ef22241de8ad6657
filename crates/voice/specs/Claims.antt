-- Voice payloads: the octets of a coding type, proved in proofs/Bits.antt; written and read (demand 2), in proofs/VoiceBack.antt.
use Rattle.std.specs.Prelude.{ℕ, ◌*◌, ◌≡◌, List, map, drop, Ok}
use Rattle.octets.specs.Octets.{Octets}
use Rattle.octets.specs.Made.{made}
use Rattle.record.specs.declared.syntax.Record.{Record}
use Rattle.voice.specs.Voice.{pcm_octets, g727_octets, pcm_bits, g727_bits, front_of, voice_read, voice_made}

-- "the octets of a coding type as five times its bits per sample" (document 02, wish 2)
pub record FiveTimesBits : Type 0 where
  pub pcm : map (λ (bits : ℕ). bits * 5) pcm_bits ≡ pcm_octets
  pub g727 : map (λ (bits : ℕ). bits * 5) g727_bits ≡ g727_octets

-- What is made reads back.
abbrev pub VoiceReadsBack : Type 0
VoiceReadsBack =
    (r : Record) (sequence coding : ℕ) (body octets : List ℕ)
    → voice_made r sequence coding body ≡ made octets
    → (voice_read r octets ≡ Ok (record { sequence = record { 0 = sequence }; coding = coding; front = front_of r }))
    × (drop (front_of r) octets ≡ body)

-- What is read is made again, to the octet.
abbrev pub VoiceMadeAgain : Type 0
VoiceMadeAgain =
    (r : Record) (sequence coding front : ℕ) (octets : List ℕ)
    → Octets octets
    → voice_read r octets ≡ Ok (record { sequence = record { 0 = sequence }; coding = coding; front = front })
    → (front ≡ front_of r) × (voice_made r sequence coding (drop front octets) ≡ made octets)
