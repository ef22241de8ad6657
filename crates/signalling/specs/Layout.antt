-- Signalling payloads (document 01, "Payload types": signalling; FRF.11, Figure B-1). Sixteen octets: "AIS bit and 7-bit
-- sequence, then 30 samples, oldest first, two to an octet, the earlier in the low half, bits D C B A from high to low."
use Rattle.std.specs.Prelude.{ℕ, zero, suc, ◌+◌, ◌*◌, ◌/◌, ◌%◌, List, [], ◌∷◌, Bool, true, false, not, cond, ltb, eqb, length, get_or, drop, Result, Ok, Err}
use Rattle.refusal.specs.Order.{◌gives◌, in_order}
use Rattle.refusal.specs.declared.Refusal.{Refusal}
use Rattle.refusal.specs.declared.Refusal.TheVariants.{LengthWrong, ValueOutOfRange}
use Rattle.octets.specs.Made.{Made, made, unmade}
use Rattle.signalling.specs.declared.layout.Signalling.{Signalling}

-- A sample is allowed: four bits.
abbrev pub allowed : ℕ → Bool
allowed sample = ltb sample 16

-- ---- Reading

-- "AIS bit and 7-bit sequence"
abbrev pub alarm_in : List ℕ → Bool
alarm_in p = eqb (get_or p 0 0 / 128) 1

abbrev pub sequence_in : List ℕ → ℕ
sequence_in p = get_or p 0 0 % 128

-- the samples of some octets, "the earlier in the low half"
unfoldable pub halves : List ℕ → List ℕ
halves [] = []
halves (o ∷ os) = (o % 16) ∷ (o / 16) ∷ halves os

abbrev pub signalling_in : List ℕ → Signalling
signalling_in p = record { alarm = alarm_in p; sequence = record { 0 = sequence_in p }; samples = halves (drop 1 p) }

unfoldable pub signalling_read : List ℕ → Result Signalling Refusal
signalling_read p = cond (eqb (length p) 16) (Ok (signalling_in p)) (Err LengthWrong)

-- ---- Writing

-- Every sample of n, from place i on, is allowed.
unfoldable pub all_allowed : ℕ → ℕ → List ℕ → Bool
all_allowed zero i samples = true
all_allowed (suc n) i samples = cond (allowed (get_or samples i 0)) (all_allowed n (suc i) samples) false

abbrev pub first_octet : Signalling → ℕ
first_octet s = cond s.alarm (128 + s.sequence.0) s.sequence.0

-- "two to an octet": n octets, from the pair i on
abbrev pub pair_at : List ℕ → ℕ → ℕ
pair_at samples i = get_or samples (i + i) 0 + get_or samples (i + i + 1) 0 * 16

unfoldable pub pairs : ℕ → ℕ → List ℕ → List ℕ
pairs zero i samples = []
pairs (suc n) i samples = pair_at samples i ∷ pairs n (suc i) samples

unfoldable pub signalling_made : Signalling → Made
signalling_made s =
    in_order
    (ltb 127 s.sequence.0 gives ValueOutOfRange
    ∷ not (all_allowed 30 0 s.samples) gives ValueOutOfRange
    ∷ [])
    unmade
    (made (first_octet s ∷ pairs 15 0 s.samples))
