-- The first octets of an input decide where its text ends.
use Prim.Native.Nat.{ℕ, zero, suc, ◌+◌, ◌<◌, ◌≤◌}
use mathlib.Core.Path.{◌≡◌, refl, ap, ◌∙◌}
use mathlib.Core.List.{List, [], ◌∷◌}
use mathlib.Core.Bool.{Bool, true, false, cond, ◌&&◌}
use mathlib.Core.Logic.{⊎_elim}
use native.Mathlib.Omega.{arith}
use lib.Dec.{eqb}
use lib.ListN.{take}
use lib.Seq.{take-nil}
use Rattle.octets.proofs.Order.{lt-or-le}
use Rattle.octets.specs.Text.{starts}
use Rattle.hexline.specs.Line.{frame_key}
use Rattle.recording.specs.Pieces.{text_from}
use Rattle.recording.proofs.LineStart as line

-- one octet, of which the test says whether a frame line starts there
step_same : (t : Bool) (m a b : ℕ) → cond t 0 (suc a) + 6 ≤ suc m → (a + 6 ≤ m → b ≡ a) → cond t 0 (suc b) ≡ cond t 0 (suc a)
step_same true m a b h ih = refl
step_same false m a b h ih = ap suc (ih (omega arith))

step-late : (t : Bool) (m a b : ℕ) → 6 ≤ suc m → suc m < cond t 0 (suc a) + 6 → (m < a + 6 → m < b + 6) → suc m < cond t 0 (suc b) + 6
step-late true m a b room h ih = omega arith
step-late false m a b room h ih = omega (arith, ih (omega arith))

-- the test on the first octets
test-same :
    (begins : Bool) (x : ℕ) (xs : List ℕ) (m b : ℕ)
    → 6 ≤ suc m
    → cond (begins && starts (x ∷ take m xs) frame_key) 0 (suc b) ≡ cond (begins && starts (x ∷ xs) frame_key) 0 (suc b)
test-same begins x xs m b room =
    ap (λ (t : Bool). cond (begins && t) 0 (suc b)) (line.starts-take (suc m) (x ∷ xs) frame_key room)

pub same_end : (begins : Bool) (s : List ℕ) (n : ℕ) → text_from begins s + 6 ≤ n → text_from begins (take n s) ≡ text_from begins s
unfolding text_from
same_end begins [] n h = ap (text_from begins) (take-nil n)
same_end begins (x ∷ xs) zero h = absurd (omega arith)
same_end begins (x ∷ xs) (suc m) h =
    test-same begins x xs m (text_from (eqb x 10) (take m xs)) (omega arith)
    ∙ step_same (begins && starts (x ∷ xs) frame_key) m (text_from (eqb x 10) xs) (text_from (eqb x 10) (take m xs)) h
    (λ room. same_end (eqb x 10) xs m room)

pub late_end : (begins : Bool) (s : List ℕ) (n : ℕ) → n < text_from begins s + 6 → n < text_from begins (take n s) + 6
unfolding text_from
late_end begins [] n h = rw (take-nil n) h
late_end begins (x ∷ xs) zero h = omega arith
late_end begins (x ∷ xs) (suc m) h =
    ⊎_elim (λ (few : suc m < 6). omega arith)
    (λ (room : 6 ≤ suc m).
    rw (test-same begins x xs m (text_from (eqb x 10) (take m xs)) room)
    (step-late (begins && starts (x ∷ xs) frame_key) m (text_from (eqb x 10) xs) (text_from (eqb x 10) (take m xs)) room h
    (λ more. late_end (eqb x 10) xs m more)))
    (lt-or-le (suc m) 6)
