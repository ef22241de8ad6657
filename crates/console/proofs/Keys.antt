-- The end of a key, by where its first `=` stands.
use Prim.Native.Nat.{ℕ, ◌+◌, ◌≤◌}
use mathlib.Core.Path.{◌≡◌, refl}
use mathlib.Core.List.{List, [], ◌∷◌}
use mathlib.Core.Bool.{Bool, true, false, cond}
use lib.Dec.{eqb, ltb}
use lib.ListN.{length}
use Rattle.std.proofs.Common.{arith}
use Rattle.std.proofs.lemmas.Bool.Decides.{nat_tests}
use Rattle.std.specs.List.{position_or_len}
use Rattle.console.specs.Key.{key_size}

abbrev place : List ℕ → ℕ
place s = position_or_len (λ c. eqb c 61) s

pub ends : (s : List ℕ) → key_size s ≡ cond (ltb (place s) (length s)) (place s + 1) (length s)
unfolding key_size
ends [] = refl
ends (x ∷ xs) = grind (arith, nat_tests, ends xs)

-- a key is a part of its line
pub within : (text : List ℕ) → key_size text ≤ length text
unfolding key_size
within [] = omega arith
within (c ∷ cs) = go (eqb c 61) (within cs)
  where
    go : (b : Bool) → key_size cs ≤ length cs → cond b 1 (1 + key_size cs) ≤ length (c ∷ cs)
    go true rest = omega arith
    go false rest = omega arith
