-- Looking for an LF by blocks.
use Prim.Native.Nat.{ℕ, zero, suc, ◌+◌, ◌-◌, ◌<◌}
use mathlib.Core.Path.{◌≡◌, refl, sym, ap, ◌∙◌}
use mathlib.Core.List.{List, [], ◌∷◌, ◌++◌}
use mathlib.Core.Bool.{Bool, true, false, cond}
use native.Mathlib.Omega.{arith}
use native.Mathlib.Numerals.{add-one}
use lib.Dec.{eqb}
use lib.ListN.{length, take, drop}
use lib.Seq.{take-add}
use Rattle.refusal.specs.Order.{◌or◌}
use Rattle.octets.specs.Text.{has_lf}
use Rattle.octets.proofs.Texts as texts
use Rattle.recording.specs.Pieces.{line_size}

pub has-append : (xs ys : List ℕ) → has_lf (xs ++ ys) ≡ (has_lf xs or has_lf ys)
unfolding has_lf
has-append [] ys = refl
has-append (x ∷ xs) ys = go (eqb x 10) (has-append xs ys)
  where
    go : (t : Bool) → has_lf (xs ++ ys) ≡ (has_lf xs or has_lf ys) → cond t true (has_lf (xs ++ ys)) ≡ (cond t true (has_lf xs) or has_lf ys)
    go true e = refl
    go false e = e

-- a block behind octets without an LF
pub behind :
    (s : List ℕ) (at size : ℕ) (t : Bool)
    → has_lf (take at s) ≡ false
    → has_lf (take (at + size - at) (drop at s)) ≡ t
    → has_lf (take (at + size) s) ≡ t
behind s at size t none block =
    let long : at + size - at ≡ size = omega arith in
    rw (take-add at size s) (has-append (take at s) (take size (drop at s)) ∙ simp none (rw long at block))

-- the LF behind octets without one ends the line
pub ends :
    (s : List ℕ) (i : ℕ)
    → i < length s
    → has_lf (take i s) ≡ false
    → has_lf (take (i + 1) s) ≡ true
    → (line_size s ≡ i + 1) × (has_lf s ≡ true)
unfolding has_lf line_size
ends [] i h none one = absurd (omega arith)
ends (x ∷ xs) zero h none one = go (eqb x 10) one
  where
    go : (t : Bool) → cond t true (has_lf (take 0 xs)) ≡ true → (cond t 1 (suc (line_size xs)) ≡ 1) × (cond t true (has_lf xs) ≡ true)
    go true e = (refl, refl)
    go false e = absurd (texts.true-not-false (sym e))
ends (x ∷ xs) (suc i) h none one = go (eqb x 10) none (rw (add-one (suc i)) at one) (ends xs i (omega arith))
  where
    go :
        (t : Bool)
        → cond t true (has_lf (take i xs)) ≡ false
        → cond t true (has_lf (take (suc i) xs)) ≡ true
        → (has_lf (take i xs) ≡ false → has_lf (take (i + 1) xs) ≡ true → (line_size xs ≡ i + 1) × (has_lf xs ≡ true))
        → (cond t 1 (suc (line_size xs)) ≡ suc i + 1) × (cond t true (has_lf xs) ≡ true)
    go true e f rest = absurd (texts.true-not-false e)
    go false e f rest =
        let r = rest e (rw (add-one i) f) in
        (omega (arith, r.0), r.1)

-- without one, the line is all there is
pub no_end : (s : List ℕ) → has_lf s ≡ false → line_size s ≡ length s
unfolding has_lf line_size
no_end [] e = refl
no_end (x ∷ xs) e = go (eqb x 10) e (no_end xs)
  where
    go :
        (t : Bool)
        → cond t true (has_lf xs) ≡ false
        → (has_lf xs ≡ false → line_size xs ≡ length xs)
        → cond t 1 (suc (line_size xs)) ≡ suc (length xs)
    go true e rest = absurd (texts.true-not-false e)
    go false e rest = ap suc (rest e)
