-- Samples looked at one by one.
use Prim.Native.Nat.{ℕ, zero, suc, ◌+◌, ◌<◌}
use mathlib.Core.Path.{◌≡◌, refl, sym, ◌∙◌}
use mathlib.Core.List.{List}
use mathlib.Core.Bool.{Bool, true, false, cond}
use native.Mathlib.Nat.{not-suc-le-zero, le_of_suc-le-suc, add-zero}
use native.Mathlib.Omega.{arith}
use lib.ListN.{length, get_or, drop, drop_of_length-le}
use lib.Seq.{drop-cons}
use Rattle.std.specs.Prelude.{◌&&◌}
use Rattle.std.specs.List.{list_all}
use Rattle.octets.proofs.Order.{clash, either}
use Rattle.signalling.specs.Layout.{allowed, all_allowed}

-- Samples looked at one by one: of n samples, after i turns what is left to be looked at decides.
pub record Looks (test : ℕ → Bool) (look : ℕ → ℕ → Bool) : Type 0 where
  pub none : (i : ℕ) → look 0 i ≡ true
  pub more : (n i : ℕ) → look (suc n) i ≡ cond (test i) (look n (suc i)) false

pub allowed-looks : (samples : List ℕ) → Looks (λ (i : ℕ). allowed (get_or samples i 0)) (λ (n i : ℕ). all_allowed n i samples)
unfolding all_allowed
allowed-looks samples = record { none = λ i. refl; more = λ n i. refl }

-- the answer of the library's `all` is that of looking one by one
pub listed :
    (test : ℕ → Bool) (samples : List ℕ) (look : ℕ → ℕ → Bool)
    → Looks (λ (i : ℕ). test (get_or samples i 0)) look
    → (n i : ℕ)
    → i + n ≡ length samples
    → list_all test (drop i samples) ≡ look n i
listed test samples look looks zero i whole = rw (drop_of_length-le samples {i = i} (omega arith)) (sym (looks.none i))
listed test samples look looks (suc n) i whole =
    let rest : list_all test (drop (suc i) samples) ≡ look n (suc i) = listed test samples look looks n (suc i) (omega arith) in
    let less : i < length samples = omega arith in
    rw (drop-cons samples i 0 less) (step (test (get_or samples i 0)) rest ∙ sym (looks.more n i))
  where
    step : (t : Bool) {a b : Bool} → a ≡ b → (t && a) ≡ cond t b false
    step true e = e
    step false e = refl

-- all pass exactly when each does
module _ {test : ℕ → Bool} {look : ℕ → ℕ → Bool} (looks : Looks test look) where
  first_passes : (n i : ℕ) → look (suc n) i ≡ true → test i ≡ true
  first_passes n i e = either (λ yes. yes) (λ no. clash (look (suc n) i) e (looks.more n i ∙ rw no)) (test i) refl

  others-pass : (n i : ℕ) → look (suc n) i ≡ true → look n (suc i) ≡ true
  others-pass n i e = sym (looks.more n i ∙ rw (first_passes n i e)) ∙ e

  pub each-passes : (n i : ℕ) → look n i ≡ true → (j : ℕ) → j < n → test (i + j) ≡ true
  each-passes zero i e j h = absurd (not-suc-le-zero h)
  each-passes (suc n) i e zero h = rw (add-zero i) (first_passes n i e)
  each-passes (suc n) i e (suc j) h =
      let next : i + suc j ≡ suc i + j = omega arith in
      rw next (each-passes n (suc i) (others-pass n i e) j (le_of_suc-le-suc h))

  pub all_pass : (n i : ℕ) → ((j : ℕ) → j < n → test (i + j) ≡ true) → look n i ≡ true
  all_pass zero i h = looks.none i
  all_pass (suc n) i h =
      let first : test i ≡ true = rw (add-zero i) at (h 0 (omega arith)) in
      looks.more n i ∙ rw first (all_pass n (suc i) (λ j less. let next : suc i + j ≡ i + suc j = omega arith in rw next (h (suc j) (omega arith))))
