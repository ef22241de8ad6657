-- What is kept of a line has no LF.
use Prim.Native.Nat.{ℕ, zero, suc}
use mathlib.Core.Path.{◌≡◌, refl}
use mathlib.Core.List.{List, [], ◌∷◌}
use mathlib.Core.Bool.{Bool, true, false, cond}
use borrow.Author.Tests.{ne_eqb}
use lib.Dec.{eqb}
use lib.ListN.{take, set}
use Rattle.octets.specs.Text.{has_lf}

pub none : (room : List ℕ) → has_lf (take 0 room) ≡ false
unfolding has_lf
none room = refl

-- one character more
pub one_more : (room : List ℕ) (n c : ℕ) → (c ≡ 10 → ⊥) → has_lf (take n room) ≡ false → has_lf (take (suc n) (set room n c)) ≡ false
unfolding has_lf
one_more [] n c other before = refl
one_more (x ∷ xs) zero c other before = simp (ne_eqb c 10 other)
one_more (x ∷ xs) (suc n) c other before = go (eqb x 10) before (one_more xs n c other)
  where
    go :
        (t : Bool)
        → cond t true (has_lf (take n xs)) ≡ false
        → (has_lf (take n xs) ≡ false → has_lf (take (suc n) (set xs n c)) ≡ false)
        → cond t true (has_lf (take (suc n) (set xs n c))) ≡ false
    go true before rest = before
    go false before rest = rest before
