-- Worked examples, on the definitions: steps and goings on, worked by hand.
use Rattle.std.proofs.Common.{◌≡◌, ℕ, List, [], ◌∷◌, refl, arith}
use Rattle.counts.specs.Round.{onward, step}
use Rattle.counts.proofs.Laws.{digit-laws, signalling-laws, voice-laws, data-laws}

-- of three counts: the step from the first to the second, from there to the third, and from the first to the third
abbrev steps : ℕ → ℕ → ℕ → ℕ → List ℕ
steps k a b c = step k a b ∷ step k b c ∷ step k a c ∷ []

-- Two steps that stay below the modulus together, that reach it and that pass it. A number beyond the width, 200 in 7 bits,
-- counts as 72.
pub steps-worked :
    steps 4 14 1 9 ∷ steps 7 126 1 126 ∷ steps 4 9 3 1 ∷ steps 8 250 4 3 ∷ steps 13 8190 3 8191 ∷ steps 7 200 72 4 ∷ []
    ≡ (3 ∷ 8 ∷ 11 ∷ []) ∷ (3 ∷ 125 ∷ 0 ∷ []) ∷ (10 ∷ 14 ∷ 8 ∷ []) ∷ (10 ∷ 255 ∷ 9 ∷ []) ∷ (5 ∷ 8188 ∷ 1 ∷ []) ∷ (0 ∷ 60 ∷ 60 ∷ []) ∷ []
steps-worked = refl

-- In 8 bits 250 on by 10 is 4, and 4 on by 255 is 3; so is 250 on by 265. In 7 bits 200 on by 60 is 4, since 260 is twice round;
-- in 13 bits 8190 on by 5 is 3.
pub on-worked : onward 8 250 10 ∷ onward 8 4 255 ∷ onward 8 250 265 ∷ onward 7 200 60 ∷ onward 13 8190 5 ∷ [] ≡ 4 ∷ 3 ∷ 3 ∷ 4 ∷ 3 ∷ []
on-worked = refl

-- The law of arriving asks for a count below the modulus. There are such counts at each of the four widths.
pub arrived :
    (onward 8 250 (step 8 250 4) ≡ 4)
    × (onward 7 200 (step 7 200 4) ≡ 4)
    × (onward 4 14 (step 4 14 9) ≡ 9)
    × (onward 13 8190 (step 13 8190 3) ≡ 3)
arrived = (
  digit-laws.arrives_there 250 4 (omega arith),
  signalling-laws.arrives_there 200 4 (omega arith),
  voice-laws.arrives_there 14 9 (omega arith),
  data-laws.arrives_there 8190 3 (omega arith),
)

-- So is the law of counts behind met: one behind is a step of 255 and of 127; 128 behind in 8 bits is 128, 64 in 7 bits is 64.
pub behind-met : (step 8 5 4 ≡ 255) × (step 7 5 4 ≡ 127) × (step 8 2 130 ≡ 128) × (step 7 4 68 ≡ 64)
behind-met = (
  digit-laws.behind 4 1 (omega arith) (omega arith),
  signalling-laws.behind 4 1 (omega arith) (omega arith),
  digit-laws.behind 130 128 (omega arith) (omega arith),
  signalling-laws.behind 68 64 (omega arith) (omega arith),
)
