-- Octets that a line states in lower-case hex, two characters an octet (crates/hexline/specs/Hex.antt).
use Rattle.std.specs.Prelude.{ℕ, ◌+◌, ◌-◌, ◌*◌, List, [], ◌∷◌, Bool, cond, ◌&&◌, ltb, leb, eqb, ℤ, pos, negsuc, length, Option, Some, None}
use Rattle.refusal.specs.Order.{◌or◌}
use Rattle.hexline.specs.Hex.{hex_value, is_other}

-- the value of a hex character; none of any other
abbrev pub digit : ℕ → Option ℕ
digit c = cond (is_other c) None (Some (hex_value c))

-- the octets of the pairs of hex characters that a text starts with
unfoldable pub leading : List ℕ → List ℕ
leading [] = []
leading (c ∷ []) = []
leading (c ∷ d ∷ rest) = cond (is_other c or is_other d) [] ((hex_value c * 16 + hex_value d) ∷ leading rest)

-- whether room for so many octets takes them, and nothing else stands in the text
abbrev pub sound_in : ℕ → List ℕ → Bool
sound_in room text = leb (length (leading text)) room && eqb (length (leading text) * 2) (length text)

-- how many octets they are then
abbrev pub decoded : ℕ → List ℕ → Option ℕ
decoded room text = cond (sound_in room text) (Some (length (leading text))) None

-- an octet as a signed number: from 128 on it stands for 256 less
abbrev pub signed_of : ℕ → ℤ
signed_of octet = cond (ltb octet 128) (pos octet) (negsuc (255 - octet))
