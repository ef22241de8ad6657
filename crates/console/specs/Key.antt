-- The key of a line: its characters up to the first `=`, with that.
use Rattle.std.specs.Prelude.{ℕ, ◌+◌, List, [], ◌∷◌, cond, eqb}

-- how many; all, where there is no `=`
unfoldable pub key_size : List ℕ → ℕ
key_size [] = 0
key_size (x ∷ xs) = cond (eqb x 61) 1 (1 + key_size xs)
