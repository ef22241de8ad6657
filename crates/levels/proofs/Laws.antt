-- The claims of specs/Claims.antt.
use Prim.Native.Nat.{ℕ, zero, suc, ◌≤◌, ◌<◌}
use mathlib.Core.Path.{◌≡◌, refl, sym, ap, ◌∙◌}
use native.Mathlib.Nat.{mod-eq_of_lt}
use native.Mathlib.Omega.{arith}
use Rattle.std.proofs.lemmas.Bool.Decides.{nat_tests}
use borrow.Author.Tests.{le-leb}
use lib.IntN.{ℤ, pos, negsuc, neg_ℤ}
use lib.Signed.{◌≤ℤ◌}
use Rattle.std.specs.declared.result.Result.TheVariants.{Ok}
use Rattle.levels.specs.Level.{magnitude_in, code_of}
use Rattle.levels.specs.Claims.{NeverAbove, CodeOfLevel, LevelOfCode}

down : (n : ℕ) → neg_ℤ (pos n) ≤ℤ pos 0
down zero = record { le = tt }
down (suc n) = record { le = tt }

pub never-above : NeverAbove
never-above octet = down (magnitude_in octet)

coded : (most n : ℕ) → n ≤ most → code_of most (neg_ℤ (pos n)) ≡ Ok n
coded most zero h = refl
coded most (suc n) h = simp (le-leb (suc n) most h)

pub code-of-level : CodeOfLevel
code-of-level most n small h =
    let below : n < 64 = omega arith in
    ap (λ (k : ℕ). code_of most (neg_ℤ (pos k))) (mod-eq_of_lt below) ∙ coded most n h

back : (most n : ℕ) (level : ℤ) → code_of most level ≡ Ok n → (neg_ℤ (pos n) ≡ level) × (n ≤ most)
back most n (pos zero) e = let is : 0 ≡ n = cc in (ap (λ (k : ℕ). neg_ℤ (pos k)) (sym is), omega arith)
back most n (pos (suc m)) e = absurd cc
back most n (negsuc m) e = (grind (arith, nat_tests), grind (arith, nat_tests))

pub level-of-code : LevelOfCode
level-of-code most n level small e =
    let b = back most n level e in
    let below : n < 64 = omega (arith, b.1) in
    (ap (λ (k : ℕ). neg_ℤ (pos k)) (mod-eq_of_lt below) ∙ b.0, b.1)
