-- Thirty samples are three periods of ten.
use Prim.Native.Nat.{ℕ, ◌-◌, min}
use mathlib.Core.Path.{◌≡◌, refl, sym, ap, ◌∙◌}
use mathlib.Core.List.{List, [], ◌∷◌, ◌++◌, append-nil, append_assoc}
use native.Mathlib.Omega.{arith}
use lib.ListN.{length, take, drop, replicate, length-append, length-take, length-drop, take-append-drop}
use lib.Seq.{take_at, drop_at, take_all}
use Rattle.seized.specs.Receiver.{periods_of}
use Rattle.replay.specs.Rule.{carried_count, newest}
use Rattle.replay.proofs.Replay.{three}
use Rattle.replay.proofs.Steps.{by-step}
use Rattle.carried.specs.Signalling.{tens}

pub record Three (a b c : List ℕ) : Type 0 where
  pub one : length a ≡ 10
  pub two : length b ≡ 10
  pub last : length c ≡ 10

pub tens-of : (a b c : List ℕ) → Three a b c → tens (a ++ (b ++ c)) ≡ a ∷ b ∷ c ∷ []
tens-of a b c t =
    let both : length (a ++ b) ≡ 20 = length-append a b ∙ (let x : length a ≡ 10 = t.one in let y : length b ≡ 10 = t.two in omega arith) in
    three (take_at a (b ++ c) 10 t.one) (ap (take 10) (drop_at a (b ++ c) 10 t.one) ∙ take_at b c 10 t.two)
    (ap (λ (l : List ℕ). take 10 (drop 20 l)) (sym (append_assoc a b c))
    ∙ ap (take 10) (drop_at (a ++ b) c 20 both)
    ∙ take_all 10 c (let x : length c ≡ 10 = t.last in omega arith))

-- a list of thirty is three of ten
pub record Parts (samples : List ℕ) : Type 0 where
  pub a : List ℕ
  pub b : List ℕ
  pub c : List ℕ
  pub ten : Three a b c
  pub is : samples ≡ a ++ (b ++ c)

pub parts : (samples : List ℕ) → length samples ≡ 30 → Parts samples
parts samples thirty =
    let rest : List ℕ = drop 10 samples in
    let one : length (take 10 samples) ≡ 10 = length-take 10 samples ∙ ap (min 10) thirty in
    let left : length rest ≡ 20 = length-drop 10 samples ∙ ap (λ (n : ℕ). n - 10) thirty in
    let two : length (take 10 rest) ≡ 10 = length-take 10 rest ∙ ap (min 10) left in
    let three : length (drop 10 rest) ≡ 10 = length-drop 10 rest ∙ ap (λ (n : ℕ). n - 10) left in
    record {
      a = take 10 samples;
      b = take 10 rest;
      c = drop 10 rest;
      ten = record { one = one; two = two; last = three };
      is = sym (ap (λ (l : List ℕ). take 10 samples ++ l) (take-append-drop 10 rest) ∙ take-append-drop 10 samples);
    }

-- The carried places are the newest periods.
module _ (a b c : List ℕ) (t : Three a b c) where
  from_one : drop 10 (a ++ (b ++ c)) ≡ b ++ c
  from_one = drop_at a (b ++ c) 10 t.one

  from-two : drop 20 (a ++ (b ++ c)) ≡ c
  from-two =
      let both : length (a ++ b) ≡ 20 = length-append a b ∙ (let x : length a ≡ 10 = t.one in let y : length b ≡ 10 = t.two in omega arith) in
      ap (drop 20) (sym (append_assoc a b c)) ∙ drop_at (a ++ b) c 20 both

  pub newest-kept : (step : ℕ) → take (carried_count step) (tens (periods_of (a ++ (b ++ c)) step)) ≡ newest step (a ∷ b ∷ c ∷ [])
  newest-kept =
      by-step refl
      (ap (λ (l : List ℕ). take 1 (tens (l ++ replicate 20 0))) from-two
      ∙ ap (take 1) (tens-of c (replicate 10 0) (replicate 10 0) (record { one = t.last; two = refl; last = refl })))
      (ap (λ (l : List ℕ). take 2 (tens (l ++ replicate 10 0))) from_one
      ∙ ap (λ (l : List ℕ). take 2 (tens l)) (append_assoc b c (replicate 10 0))
      ∙ ap (take 2) (tens-of b c (replicate 10 0) (record { one = t.two; two = t.last; last = refl })))
      (λ step all none.
      rw (all, none) (ap (λ (l : List ℕ). take 3 (tens l)) (append-nil (a ++ (b ++ c))) ∙ ap (take 3) (tens-of a b c t)))
