-- What the definitions of words and lines give, in the terms of the code that reads them.
use Prim.Native.Nat.{ℕ, ◌<◌, ◌≤◌}
use mathlib.Core.Path.{◌≡◌, refl, sym, ap, ◌∙◌}
use mathlib.Core.List.{List, [], ◌∷◌, ◌++◌}
use mathlib.Core.Bool.{Bool, true, false, cond}
use native.Mathlib.Omega.{arith}
use borrow.Author.Tests.{eq-eqb, ne_eqb, eqb-true}
use lib.Dec.{eqb}
use lib.Pointwise.{pointwise}
use Rattle.std.specs.Prelude.{nat_eq, ◌&&◌, ◌||◌}
use Rattle.std.specs.List.{list_any}
use lib.ListN.{length, take, drop, length-append}
use Rattle.octets.specs.Text.{starts, has_lf}

-- two constructors are never equal
pub true-not-false : true ≡ false → ⊥
true-not-false e = let z : ◌≡◌ {A = ℕ} 0 1 = cc in omega arith

-- the library's answers, in the terms of the definitions
eqb-sym : (a b : ℕ) → eqb a b ≡ eqb b a
eqb-sym a b = go (eqb b a) refl
  where
    go : (t : Bool) → eqb b a ≡ t → eqb a b ≡ t
    go true e = eq-eqb a b (sym (eqb-true b a e))
    go false e = ne_eqb a b (λ same. true-not-false (sym (eq-eqb b a (sym same)) ∙ e))

pub starts-by : (s w : List ℕ) → pointwise nat_eq w (take (length w) s) ≡ starts s w
unfolding starts
starts-by [] [] = refl
starts-by (x ∷ xs) [] = refl
starts-by [] (w ∷ ws) = refl
starts-by (x ∷ xs) (w ∷ ws) = rw (eqb-sym w x) (go (eqb x w) (starts-by xs ws))
  where
    go : (t : Bool) → pointwise nat_eq ws (take (length ws) xs) ≡ starts xs ws → (t && pointwise nat_eq ws (take (length ws) xs)) ≡ cond t (starts xs ws) false
    go true rest = rest
    go false rest = refl

pub lf-by : (s : List ℕ) → list_any (λ y. nat_eq y 10) s ≡ has_lf s
unfolding has_lf
lf-by [] = refl
lf-by (x ∷ xs) = go (eqb x 10) (lf-by xs)
  where
    go : (t : Bool) → list_any (λ y. nat_eq y 10) xs ≡ has_lf xs → (t || list_any (λ y. nat_eq y 10) xs) ≡ cond t true (has_lf xs)
    go true rest = refl
    go false rest = rest

pub both : (t u : Bool) → cond t u false ≡ true → (t ≡ true) × (u ≡ true)
both true u e = (refl, e)
both false u e = absurd (true-not-false (sym e))

-- a text that starts with a word is that word, and what follows
pub starts-whole : (s w : List ℕ) → starts s w ≡ true → s ≡ w ++ drop (length w) s
unfolding starts
starts-whole s [] e = refl
starts-whole [] (w ∷ ws) e = absurd (true-not-false (sym e))
starts-whole (x ∷ xs) (w ∷ ws) e =
    let h = both (eqb x w) (starts xs ws) e in
    let rest = starts-whole xs ws h.1 in
    let same = eqb-true x w h.0 in
    rw same (ap (λ (l : List ℕ). w ∷ l) rest)

pub starts-length : (s w : List ℕ) → starts s w ≡ true → length w ≤ length s
starts-length s w e = omega (arith, ap length (starts-whole s w e) ∙ length-append w (drop (length w) s))

not-true : (t : Bool) → (t ≡ true → ⊥) → t ≡ false
not-true true h = absurd (h refl)
not-true false h = refl

-- a text that is shorter than a word does not start with it
pub short : (s w : List ℕ) → length s < length w → starts s w ≡ false
short s w h = not-true (starts s w) (λ e. omega (arith, starts-length s w e))
