-- Samples in the halves of octets: two to an octet, the earlier in the low half.
use Prim.Native.Nat.{ℕ, zero, suc, ◌+◌, ◌/◌, ◌%◌, ◌<◌, ◌≤◌}
use mathlib.Core.Path.{◌≡◌, refl, sym, ap, ◌∙◌}
use mathlib.Core.List.{List, [], ◌∷◌}
use native.Mathlib.Nat.{not-suc-le-zero, le_of_suc-le-suc}
use native.Mathlib.Omega.{arith}
use lib.ListN.{length, get_or, drop, set, replicate, length-drop}
use lib.Seq.{paste, paste-zero, get_or-drop}
use Rattle.octets.proofs.Writes as writes
use Rattle.signalling.specs.Layout.{halves}

pub length-halves : (l : List ℕ) → length (halves l) ≡ length l + length l
unfolding halves
length-halves [] = refl
length-halves (o ∷ os) = let more = length-halves os in omega arith

pub low_half : (l : List ℕ) (i : ℕ) → i < length l → get_or (halves l) (i + i) 0 ≡ get_or l i 0 % 16
unfolding halves
low_half [] i h = absurd (not-suc-le-zero h)
low_half (o ∷ os) zero h = refl
low_half (o ∷ os) (suc i) h =
    let two : suc i + suc i ≡ suc (suc (i + i)) = omega arith in
    rw two (low_half os i (le_of_suc-le-suc h))

pub high_half : (l : List ℕ) (i : ℕ) → i < length l → get_or (halves l) (i + i + 1) 0 ≡ get_or l i 0 / 16
unfolding halves
high_half [] i h = absurd (not-suc-le-zero h)
high_half (o ∷ os) zero h = refl
high_half (o ∷ os) (suc i) h =
    let two : suc i + suc i + 1 ≡ suc (suc (i + i + 1)) = omega arith in
    rw two (high_half os i (le_of_suc-le-suc h))

-- the samples of a payload, of which those of i octets are taken
module _ (payload : List ℕ) (sixteen : length payload ≡ 16) where
  abbrev pub target : List ℕ
  target = halves (drop 1 payload)

  abbrev pub filled : ℕ → List ℕ
  filled n = paste (replicate 30 0) 0 target n

  octets-left : length (drop 1 payload) ≡ 15
  octets-left = length-drop 1 payload ∙ rw sixteen

  many : length target ≡ 30
  many = length-halves (drop 1 payload) ∙ rw octets-left

  pub begins : replicate 30 0 ≡ filled 0
  begins = paste-zero (replicate 30 0) 0 target

  one_more : (samples : List ℕ) (k : ℕ) → k < 30 → samples ≡ filled k → set samples k (get_or target k 0) ≡ filled (k + 1)
  one_more samples k less is = writes.next-filled (replicate 30 0) target samples k (sym many) (omega (arith, many)) is (omega (arith, many))

  pub turn :
      (samples : List ℕ) (i : ℕ)
      → i < 15
      → samples ≡ filled (i + i)
      → set (set samples (i + i) (get_or payload (i + 1) 0 % 16)) (i + i + 1) (get_or payload (i + 1) 0 / 16)
      ≡ filled (i + 1 + (i + 1))
  turn samples i less is =
      let left = octets-left in
      let octet : get_or (drop 1 payload) i 0 ≡ get_or payload (i + 1) 0 = get_or-drop 1 payload i 0 ∙ ap (λ (k : ℕ). get_or payload k 0) (omega arith) in
      let low : get_or target (i + i) 0 ≡ get_or payload (i + 1) 0 % 16 = low_half (drop 1 payload) i (omega arith) ∙ ap (λ (k : ℕ). k % 16) octet in
      let high : get_or target (i + i + 1) 0 ≡ get_or payload (i + 1) 0 / 16 = high_half (drop 1 payload) i (omega arith) ∙ ap (λ (k : ℕ). k / 16) octet in
      let end : i + 1 + (i + 1) ≡ i + i + 1 + 1 = omega arith in
      let first = one_more samples (i + i) (omega arith) is in
      rw (← low, ← high, end, first) (one_more (filled (i + i + 1)) (i + i + 1) (omega arith) refl)

  pub done : (samples : List ℕ) (i : ℕ) → i ≤ 15 → 15 ≤ i → samples ≡ filled (i + i) → samples ≡ target
  done samples i most least is =
      writes.all_filled (replicate 30 0) target samples (i + i) (sym many) (omega (arith, many)) is (omega (arith, many))
