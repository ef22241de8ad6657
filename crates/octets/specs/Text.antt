-- Octets as text: words, and the end of a line.
use Rattle.std.specs.Prelude.{ℕ, zero, suc, List, [], ◌∷◌, Bool, true, false, cond, eqb}
use Prim.Native.Char.{code}
use Prim.Native.String.{String, len, char_at}

-- the octets of n characters of a word from a place on
abbrev pub ascii_from : ℕ → ℕ → String → List ℕ
ascii_from zero at word = []
ascii_from (suc n) at word = code (char_at word at) ∷ ascii_from n (suc at) word

-- The octets of a word, one a character.
abbrev pub ascii : String → List ℕ
ascii word = ascii_from (len word) 0 word

abbrev pub lf : ℕ
lf = 10

-- whether a text starts with these octets
unfoldable pub starts : List ℕ → List ℕ → Bool
starts s [] = true
starts [] (w ∷ ws) = false
starts (x ∷ xs) (w ∷ ws) = cond (eqb x w) (starts xs ws) false

-- whether an LF comes
unfoldable pub has_lf : List ℕ → Bool
has_lf [] = false
has_lf (x ∷ xs) = cond (eqb x lf) true (has_lf xs)
