-- A bound on every entry of a table, from one test that is computed over it.
use Prim.Native.Nat.{ℕ, zero, suc, ◌≤◌, zero-le}
use mathlib.Core.Bool.{Bool, true, false, ◌&&◌}
use mathlib.Core.List.{List, [], ◌∷◌}
use lib.Dec.{T, leb, leb→le}
use lib.ListN.{get_or}

abbrev pub at_most : ℕ → List ℕ → Bool
at_most bound [] = true
at_most bound (x ∷ xs) = leb x bound && at_most bound xs

left : (a b : Bool) → T (a && b) → T a
left true b t = tt
left false b t = t

right : (a b : Bool) → T (a && b) → T b
right true b t = t
right false b t = absurd t

pub entries : (bound : ℕ) (xs : List ℕ) → T (at_most bound xs) → (i : ℕ) → get_or xs i 0 ≤ bound
entries bound [] t i = zero-le
entries bound (x ∷ xs) t zero = leb→le x bound (left (leb x bound) (at_most bound xs) t)
entries bound (x ∷ xs) t (suc i) = entries bound xs (right (leb x bound) (at_most bound xs) t) i
