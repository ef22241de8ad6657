-- Worked examples, on the definitions.
use mathlib.Core.Path.{◌≡◌, refl}
use mathlib.Core.List.{[], ◌∷◌}
use mathlib.Core.Bool.{true, false}
use Rattle.std.specs.declared.result.Result.TheVariants.{Ok, Err}
use Rattle.refusal.specs.declared.Refusal.TheVariants.{LengthWrong, ReservedCode, ValueOutOfRange}
use Rattle.octets.specs.Made.{made, unmade}
use Rattle.data.specs.Data.{data_read, data_made}

-- document 01, example 11, read (written: crates/bench)
pub example-11 : data_read (193 ∷ 44 ∷ 170 ∷ []) ≡ Ok (record { begins = true; ends = true; sequence = record { 0 = 300 } })
unfolding data_read
example-11 = refl

-- 2000 is 13, 200000 is 14
pub short : data_read (32 ∷ 0 ∷ []) ≡ Err LengthWrong
unfolding data_read
short = refl

pub third-bit : data_read (32 ∷ 0 ∷ 0 ∷ []) ≡ Err ReservedCode
unfolding data_read
third-bit = refl

-- 8,191 is the last sequence; without a body 13 comes before 15
pub last-sequence : data_made false true 8191 (0 ∷ []) ≡ made (95 ∷ 255 ∷ 0 ∷ [])
unfolding data_made
last-sequence = refl

pub beyond : data_made false true 8192 (0 ∷ []) ≡ unmade ValueOutOfRange
unfolding data_made
beyond = refl

pub no_body : data_made false true 8192 [] ≡ unmade LengthWrong
unfolding data_made
no_body = refl
