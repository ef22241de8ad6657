-- Levels in dBm0 (document 01, "Payload types": SID and digits): a magnitude in the octet, a signed number in the hand.
use Rattle.std.specs.Prelude.{ℕ, zero, suc, ◌%◌, cond, leb, ℤ, pos, negsuc, neg_ℤ, Result, Ok, Err}
use Rattle.levels.specs.declared.Beyond.{Beyond}
use Rattle.levels.specs.declared.Beyond.TheVariants.{Above, Below}

-- "six bits of noise level, handed out as 0 to -63 dBm0"
abbrev pub magnitude_in : ℕ → ℕ
magnitude_in octet = octet % 64

abbrev pub level_of : ℕ → ℤ
level_of octet = neg_ℤ (pos (magnitude_in octet))

-- "0 to -31 as its magnitude", where 31 is the most; a level above zero and one below the least have no code of their own.
abbrev pub code_of : ℕ → ℤ → Result ℕ Beyond
code_of most (pos zero) = Ok 0
code_of most (pos (suc n)) = Err Above
code_of most (negsuc n) = cond (leb (suc n) most) (Ok (suc n)) (Err Below)
