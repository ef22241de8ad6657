-- Silence descriptors (document 01, "Payload types": SID). "Under pcm and g727, two octets: sequence in bits 8 to 5, six
-- reserved bits (written 0, ignored on reading), six bits of noise level". "Under acelp, g728, g7231: empty".
use Rattle.std.specs.Prelude.{ℕ, ◌*◌, ◌/◌, List, [], ◌∷◌, Bool, true, false, cond, not, ltb, eqb, length, get_or, Result, Ok, Err}
use Rattle.refusal.specs.declared.Refusal.{Refusal}
use Rattle.refusal.specs.declared.Refusal.TheVariants.{TypeNotAllowed, LengthWrong, ValueOutOfRange}
use Rattle.refusal.specs.Order.{Test, ◌gives◌, in_order}
use Rattle.octets.specs.Made.{Made, made, unmade}
use Rattle.levels.specs.declared.Beyond.{Beyond}
use Rattle.levels.specs.Level.{level_of, code_of}
use Rattle.record.specs.declared.syntax.Syntax.{Syntax}
use Rattle.record.specs.declared.syntax.Syntax.TheVariants.{Acelp, Pcm, G727, G728, G7231, Data, Fax}
use Rattle.voice.specs.Voice.{voiceless}
use Rattle.sid.specs.declared.Sid.{Sid}
use Rattle.sid.specs.declared.Sid.TheVariants.{Noise, Plain}

abbrev pub sid_octets : Syntax → ℕ
sid_octets Acelp = 0
sid_octets Pcm = 2
sid_octets G727 = 2
sid_octets G728 = 0
sid_octets G7231 = 0
sid_octets Data = 0
sid_octets Fax = 0

-- the descriptor in a payload of as many octets
abbrev pub sid_in : Syntax → List ℕ → Sid
sid_in syntax payload =
    cond (eqb (sid_octets syntax) 0) Plain (Noise (record { 0 = get_or payload 0 0 / 16 }) (level_of (get_or payload 1 0)))

-- The refusals of a payload, in document 01's order.
abbrev pub read_refusals : Syntax → List ℕ → List Test
read_refusals syntax payload =
    voiceless syntax gives TypeNotAllowed
    ∷ not (eqb (length payload) (sid_octets syntax)) gives LengthWrong
    ∷ []

-- What a payload tells.
unfoldable pub sid_read : Syntax → List ℕ → Result Sid Refusal
sid_read syntax payload = in_order (read_refusals syntax payload) Err (Ok (sid_in syntax payload))

-- a noise level above 0 or below -63, and the magnitude of any other
abbrev pub out_of_range : Result ℕ Beyond → Bool
out_of_range (Ok magnitude) = false
out_of_range (Err beyond) = true

abbrev pub magnitude_in : Result ℕ Beyond → ℕ
magnitude_in (Ok magnitude) = magnitude
magnitude_in (Err beyond) = 0

-- The refusals of a descriptor, for writing: 13 without noise where two octets are due, 15 for a value that would not be written.
abbrev pub value_refusals : Syntax → Sid → List Test
value_refusals syntax Plain = not (eqb (sid_octets syntax) 0) gives LengthWrong ∷ []
value_refusals syntax (Noise sequence level) =
    eqb (sid_octets syntax) 0 gives ValueOutOfRange
    ∷ ltb 15 sequence.0 gives ValueOutOfRange
    ∷ out_of_range (code_of 63 level) gives ValueOutOfRange
    ∷ []

abbrev pub write_refusals : Syntax → Sid → List Test
write_refusals syntax sid = voiceless syntax gives TypeNotAllowed ∷ value_refusals syntax sid

-- The octets of a descriptor.
abbrev pub octets_for : Sid → List ℕ
octets_for Plain = []
octets_for (Noise sequence level) = (sequence.0 * 16) ∷ magnitude_in (code_of 63 level) ∷ []

unfoldable pub sid_made : Syntax → Sid → Made
sid_made syntax sid = in_order (write_refusals syntax sid) unmade (made (octets_for sid))
