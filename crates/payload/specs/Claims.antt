-- A content written on its sub-channel and read again, and a payload read there and written again (demand 2); and which numbers
-- reading gives. Proved in proofs/ContentBack.antt, proofs/ContentAgain.antt and proofs/Numbers.antt.
use Rattle.std.specs.Prelude.{ℕ, ◌<◌, ◌≡◌, List, length, Option, Ok}
use Rattle.refusal.specs.declared.Refusal.TheVariants.{OlderPayload}
use Rattle.refusal.specs.Numbers.{number}
use Rattle.octets.specs.Octets.{Octets}
use Rattle.octets.specs.Made.{made}
use Rattle.digits.specs.Claims.{normal}
use Rattle.payload.specs.Layout.{type_for}
use Rattle.payload.specs.Content.{Content, speech, dialled, seized, faxed, silent, fragment, reads, payload_read, number_of, kind_of, payload_made}
use Rattle.record.specs.declared.syntax.Record.{Record}

-- "save that a level above zero and the code of an off window come back as 0"
abbrev pub normal_content : Content → Content
normal_content (speech sequence coding body) = speech sequence coding body
normal_content (dialled digits) = dialled (normal digits)
normal_content (seized signalling) = seized signalling
normal_content (faxed sequence stamp command body) = faxed sequence stamp command body
normal_content (silent sid) = silent sid
normal_content (fragment begins ends sequence body) = fragment begins ends sequence body

-- thirty samples, as the array of the code has them
abbrev pub samples_in : Content → ℕ
samples_in (speech sequence coding body) = 30
samples_in (dialled digits) = 30
samples_in (seized signalling) = length signalling.samples
samples_in (faxed sequence stamp command body) = 30
samples_in (silent sid) = 30
samples_in (fragment begins ends sequence body) = 30

-- What is made with a type is read back from that type.
abbrev pub ContentReadsBack : Type 0
ContentReadsBack =
    (found : Option Record) (content : Content) (ptype : ℕ) (octets : List ℕ)
    → samples_in content ≡ 30
    → type_for found (kind_of content) ≡ Ok ptype
    → payload_made found content ≡ made octets
    → payload_read found ptype octets ≡ reads (normal_content content)

-- A content that a payload reads as is made again with the payload's type, in as many octets, which read the same.
pub record Again (found : Option Record) (ptype : ℕ) (octets : List ℕ) (content : Content) : Type 0 where
  pub typed : type_for found (kind_of content) ≡ Ok ptype
  pub thirty : samples_in content ≡ 30
  pub again : List ℕ
  pub makes : payload_made found content ≡ made again
  pub as_many : length again ≡ length octets
  pub alike : payload_read found ptype again ≡ reads content

abbrev pub ContentMadeAgain : Type 0
ContentMadeAgain =
    (found : Option Record) (ptype : ℕ) (octets : List ℕ) (content : Content)
    → Octets octets
    → payload_read found ptype octets ≡ reads content
    → Again found ptype octets content

-- Reading a payload, and so checking and listing it, gives a number below 19: that is the receivers' (document 02, wish 3), as 41
-- and 42 are the fax replay's.
abbrev pub ReadingGives : Type 0
ReadingGives = (found : Option Record) (ptype : ℕ) (p : List ℕ) → number_of (payload_read found ptype p) < number OlderPayload
