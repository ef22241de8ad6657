-- Voice payloads (document 01, "Payload types": acelp E, pcm F, g727 G, g728 H, g7231 I).
--
--   front octet   bits 8 to 5 sequence, bits 4 to 1 coding type    under pcm and g727, and where seq=1
--   body          the octets of the card, m blocks of them, or one G.723.1 frame
use Rattle.std.specs.Prelude.{ℕ, ◌+◌, ◌*◌, ◌/◌, ◌%◌, List, [], ◌∷◌, ◌++◌, Bool, true, false, cond, not, ◌&&◌, ltb, leb, eqb, length, get_or, take, drop, Result, Ok, Err}
use Rattle.refusal.specs.declared.Refusal.{Refusal}
use Rattle.refusal.specs.declared.Refusal.TheVariants.{TypeNotAllowed, LengthWrong, ReservedCode, ValueOutOfRange, CodingTypeUnknown}
use Rattle.refusal.specs.Order.{Test, ◌gives◌, in_order}
use Rattle.octets.specs.Made.{Made, made, unmade}
use Rattle.record.specs.declared.syntax.Syntax.{Syntax}
use Rattle.record.specs.declared.syntax.Syntax.TheVariants.{Acelp, Pcm, G727, G728, G7231, Data, Fax}
use Rattle.record.specs.declared.syntax.Record.{Record}
use Rattle.voice.specs.declared.Voice.{Voice}

-- "F, codes 0 to 13"
abbrev pub pcm_octets : List ℕ
pcm_octets = 40 ∷ 35 ∷ 30 ∷ 40 ∷ 35 ∷ 30 ∷ 25 ∷ 20 ∷ 15 ∷ 10 ∷ 25 ∷ 20 ∷ 15 ∷ 10 ∷ []

-- "G, codes 0 to 14"
abbrev pub g727_octets : List ℕ
g727_octets = 10 ∷ 5 ∷ 10 ∷ 15 ∷ 15 ∷ 20 ∷ 25 ∷ 15 ∷ 5 ∷ 10 ∷ 20 ∷ 25 ∷ 20 ∷ 5 ∷ 25 ∷ []

-- The bits of each sample that a coding type carries: its kbit/s over 8, since there are 8,000 samples a second (FRF.11, Figures F - 4
-- and G - 2; document 02, wish 2)
abbrev pub pcm_bits : List ℕ
pcm_bits = 8 ∷ 7 ∷ 6 ∷ 8 ∷ 7 ∷ 6 ∷ 5 ∷ 4 ∷ 3 ∷ 2 ∷ 5 ∷ 4 ∷ 3 ∷ 2 ∷ []

abbrev pub g727_bits : List ℕ
g727_bits = 2 ∷ 1 ∷ 2 ∷ 3 ∷ 3 ∷ 4 ∷ 5 ∷ 3 ∷ 1 ∷ 2 ∷ 4 ∷ 5 ∷ 4 ∷ 1 ∷ 5 ∷ []

-- How many coding types a syntax has; "bits 4 to 1 coding type, 0000" is one. Data and fax carry no voice.
abbrev pub codings : Syntax → ℕ
codings Acelp = 1
codings Pcm = 14
codings G727 = 15
codings G728 = 1
codings G7231 = 1
codings Data = 0
codings Fax = 0

abbrev pub voiceless : Syntax → Bool
voiceless syntax = eqb (codings syntax) 0

-- The octets of a coding type: of one of the m blocks.
unfoldable pub block_octets : Syntax → ℕ → ℕ
block_octets Acelp coding = 10
block_octets Pcm coding = get_or pcm_octets coding 0
block_octets G727 coding = get_or g727_octets coding 0
block_octets G728 coding = 10
block_octets G7231 coding = 0
block_octets Data coding = 0
block_octets Fax coding = 0

-- A G.723.1 frame's first octet: "bit 1 rate, bit 2 speech flag. Both set: 14. Rate 0: 24 octets; rate 1: 20."
abbrev pub both_flags : ℕ → Bool
both_flags first = eqb (first % 4) 3

unfoldable pub g7231_octets : ℕ → ℕ
g7231_octets first = cond (eqb (first % 2) 0) 24 20

abbrev pub is_g7231 : Syntax → Bool
is_g7231 Acelp = false
is_g7231 Pcm = false
is_g7231 G727 = false
is_g7231 G728 = false
is_g7231 G7231 = true
is_g7231 Data = false
is_g7231 Fax = false

-- The octets of the body, from the coding type and the body's first octet.
unfoldable pub body_octets : Record → ℕ → ℕ → ℕ
body_octets r coding first = cond (is_g7231 r.syntax) (g7231_octets first) (r.m * block_octets r.syntax coding)

-- How many octets stand in front: "For these three seq=1 puts one octet in front"; "the same front octet, always".
abbrev pub seq_front : Bool → ℕ
seq_front seq = cond seq 1 0

abbrev pub front_by : Syntax → Bool → ℕ
front_by Acelp seq = seq_front seq
front_by Pcm seq = 1
front_by G727 seq = 1
front_by G728 seq = seq_front seq
front_by G7231 seq = seq_front seq
front_by Data seq = 0
front_by Fax seq = 0

unfoldable pub front_of : Record → ℕ
front_of r = front_by r.syntax r.seq

-- The first octet of a G.723.1 frame decides its length.
abbrev pub deciding : Syntax → ℕ
deciding syntax = cond (is_g7231 syntax) 1 0

-- The parts of a payload: the front octet, or 0 without it, with its fields; and the body behind it.
abbrev pub front_octet : Record → List ℕ → ℕ
front_octet r payload = get_or (take (front_of r) payload) 0 0

abbrev pub sequence_in : Record → List ℕ → ℕ
sequence_in r payload = front_octet r payload / 16

abbrev pub coding_in : Record → List ℕ → ℕ
coding_in r payload = front_octet r payload % 16

abbrev pub body_in : Record → List ℕ → List ℕ
body_in r payload = drop (front_of r) payload

-- The refusals of a body with its coding type: 13 where the octet that decides its length is missing, 16, 14 for both flags, 13.
abbrev pub body_refusals : Record → ℕ → List ℕ → List Test
body_refusals r coding body =
    ltb (length body) (deciding r.syntax) gives LengthWrong
    ∷ leb (codings r.syntax) coding gives CodingTypeUnknown
    ∷ (is_g7231 r.syntax && both_flags (get_or body 0 0)) gives ReservedCode
    ∷ not (eqb (length body) (body_octets r coding (get_or body 0 0))) gives LengthWrong
    ∷ []

-- The refusals of a payload, in document 01's order.
abbrev pub read_refusals : Record → List ℕ → List Test
read_refusals r payload =
    voiceless r.syntax gives TypeNotAllowed
    ∷ ltb (length payload) (front_of r) gives LengthWrong
    ∷ body_refusals r (coding_in r payload) (body_in r payload)

-- What a payload tells.
unfoldable pub voice_read : Record → List ℕ → Result Voice Refusal
voice_read r payload =
    in_order (read_refusals r payload) Err
    (Ok (record { sequence = record { 0 = sequence_in r payload }; coding = coding_in r payload; front = front_of r }))

-- The largest sequence that a payload with so many front octets carries.
abbrev pub most_sequence : ℕ → ℕ
most_sequence front = cond (eqb front 0) 0 15

-- The refusals of a content, for writing: in the reader's order, then 15 for a sequence beyond its bits.
abbrev pub write_refusals : Record → ℕ → ℕ → List ℕ → List Test
write_refusals r sequence coding body =
    voiceless r.syntax gives TypeNotAllowed
    ∷ body_refusals r coding body
    ++ ltb (most_sequence (front_of r)) sequence gives ValueOutOfRange
    ∷ []

-- The octets of a voice payload.
abbrev pub front_octets : Record → ℕ → ℕ → List ℕ
front_octets r sequence coding = take (front_of r) ((sequence * 16 + coding) ∷ [])

unfoldable pub voice_made : Record → ℕ → ℕ → List ℕ → Made
voice_made r sequence coding body =
    in_order (write_refusals r sequence coding body) unmade (made (front_octets r sequence coding ++ body))
