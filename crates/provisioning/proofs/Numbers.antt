-- A number that was read: it stands in the text in decimal digits, before an LF.
use Prim.Native.Nat.{ℕ, ◌+◌, ◌-◌, ◌*◌, ◌/◌, ◌%◌, ◌<◌, ◌≤◌}
use mathlib.Core.Path.{◌≡◌, refl, subst}
use mathlib.Core.List.{List, ◌∷◌, ◌++◌}
use mathlib.Core.Logic.{⊎_elim}
use native.Mathlib.Omega.{arith}
use borrow.Author.Tests.{lt-ltb, le-ltb, leb-true, eqb-true, eqb-false}
use lib.Dec.{leb, eqb}
use lib.ListN.{length, get_or, drop, get_or-eq_default}
use lib.Seq.{drop-cons}
use Rattle.std.proofs.lemmas.Option.{none-some, same_Some, cond_some}
use Rattle.std.specs.declared.option.Option.{Option}
use Rattle.std.specs.declared.option.Option.TheVariants.{Some, None}
use Rattle.octets.proofs.Order.{lt-or-le, either}
use Rattle.record.proofs.Listed.{both}
use Rattle.value.specs.declared.Value.{Value}
use Rattle.value.specs.Value.{valued, digit_of, third_digit, second_digit, number_by, number_of}
use Rattle.provisioning.specs.Back.{decimal}

pub record Read (s : List ℕ) (v : Value) : Type 0 where
  pub within : v.size ≤ length s
  pub text : s ≡ decimal v.value ++ 10 ∷ drop v.size s

digit-is : (o d : ℕ) → digit_of o ≡ Some d → (d ≤ 9) × (o ≡ 48 + d)
unfolding digit_of
digit-is o d e =
    let h = cond_some _ (o - 48) d e in
    let range = both (leb 48 o) (leb o 57) h.0 in
    let low : 48 ≤ o = leb-true 48 o range.0 in
    let high : o ≤ 57 = leb-true o 57 range.1 in
    let is : o - 48 ≡ d = h.1 in
    (omega arith, omega arith)

there : (s : List ℕ) (k : ℕ) → get_or s k 0 ≡ 10 → k < length s
there s k e =
    ⊎_elim (λ h. h) (λ h. absurd (omega (arith, get_or-eq_default s 0 h))) (lt-or-le k (length s))

module _ (s : List ℕ) (a : ℕ) (is-a : digit_of (get_or s 0 0) ≡ Some a) where
  first : (a ≤ 9) × (get_or s 0 0 ≡ 48 + a)
  first = digit-is _ a is-a

  read_one : get_or s 1 0 ≡ 10 → Read s (valued a 2)
  unfolding decimal
  read_one e =
      let low : a < 10 = omega (arith, first.0) in
      let in1 : 1 < length s = there s 1 e in
      let in0 : 0 < length s = omega arith in
      let cut = drop-cons s 0 0 in0 in
      let cut1 = drop-cons s 1 0 in1 in
      let digit = first.1 in
      record { within = omega arith; text = simp (lt-ltb a 10 low) (cc) }

  module _ (lead : a ≡ 0 → ⊥) (b : ℕ) (is-b : digit_of (get_or s 1 0) ≡ Some b) where
    second : (b ≤ 9) × (get_or s 1 0 ≡ 48 + b)
    second = digit-is _ b is-b

    read-two : get_or s 2 0 ≡ 10 → Read s (valued (a * 10 + b) 3)
    unfolding decimal
    read-two e =
        let high : 10 ≤ a * 10 + b = omega arith in
        let low : a * 10 + b < 100 = omega (arith, first.0, second.0) in
        let p : (a * 10 + b) / 10 ≡ a = omega (arith, second.0) in
        let q : (a * 10 + b) % 10 ≡ b = omega (arith, second.0) in
        let in2 : 2 < length s = there s 2 e in
        let in1 : 1 < length s = omega arith in
        let in0 : 0 < length s = omega arith in
        let cut = drop-cons s 0 0 in0 in
        let cut1 = drop-cons s 1 0 in1 in
        let cut2 = drop-cons s 2 0 in2 in
        let digit = first.1 in
        let digit2 = second.1 in
        record {
          within = omega arith;
          text = simp (le-ltb (a * 10 + b) 10 high, lt-ltb (a * 10 + b) 100 low, p, q) (cc);
        }

    module _ (d : ℕ) (is-d : digit_of (get_or s 2 0) ≡ Some d) where
      read-three : get_or s 3 0 ≡ 10 → Read s (valued ((a * 10 + b) * 10 + d) 4)
      unfolding decimal
      read-three e =
          let n : ℕ = (a * 10 + b) * 10 + d in
          let third = digit-is _ d is-d in
          let high : 100 ≤ n = omega arith in
          let ten : 10 ≤ n = omega arith in
          let p : n / 100 ≡ a = omega (arith, second.0, third.0) in
          let q : n / 10 % 10 ≡ b = omega (arith, second.0, third.0) in
          let r : n % 10 ≡ d = omega (arith, third.0) in
          let in3 : 3 < length s = there s 3 e in
          let in2 : 2 < length s = omega arith in
          let in1 : 1 < length s = omega arith in
          let in0 : 0 < length s = omega arith in
          let cut = drop-cons s 0 0 in0 in
          let cut1 = drop-cons s 1 0 in1 in
          let cut2 = drop-cons s 2 0 in2 in
          let cut3 = drop-cons s 3 0 in3 in
          let digit = first.1 in
          let digit2 = second.1 in
          let digit3 = third.1 in
          record {
            within = omega arith;
            text = simp (le-ltb n 10 ten, le-ltb n 100 high, p, q, r) (cc);
          }

      third-back : (v : Value) → third_digit (a * 10 + b) (get_or s 2 0) (get_or s 3 0) ≡ Some v → Read s v
      unfolding third_digit
      third-back v e =
          let h = cond_some _ _ v (rw is-d at e) in
          subst (Read s) h.1 (read-three (eqb-true (get_or s 3 0) 10 h.0))

    second-back : (v : Value) → second_digit a (get_or s 1 0) (get_or s 2 0) (get_or s 3 0) ≡ Some v → Read s v
    unfolding second_digit third_digit
    second-back v e =
        let f = rw is-b at e in
        either {t = eqb (get_or s 2 0) 10} (λ h. subst (Read s) (same_Some _ v (simp h at f)) (read-two (eqb-true (get_or s 2 0) 10 h)))
        (λ h. by-third (digit_of (get_or s 2 0)) refl (simp h at f))
        (eqb (get_or s 2 0) 10) refl
      where
        by-third : (o : Option ℕ) → digit_of (get_or s 2 0) ≡ o → third_digit (a * 10 + b) (get_or s 2 0) (get_or s 3 0) ≡ Some v → Read s v
        by-third None is e = absurd (none-some v (rw is at e))
        by-third (Some d) is e = third-back d is v e

  first-back : (v : Value) → number_of s ≡ Some v → Read s v
  unfolding number_by second_digit
  first-back v e =
      let f = rw is-a at e in
      either {t = eqb (get_or s 1 0) 10} (λ h. subst (Read s) (same_Some _ v (simp h at f)) (read_one (eqb-true (get_or s 1 0) 10 h)))
      (λ long.
      either {t = eqb a 0} (λ zero. absurd (none-some v (simp (long, zero) at f)))
      (λ lead. by-second (eqb-false a 0 lead) (digit_of (get_or s 1 0)) refl (simp (long, lead) at f))
      (eqb a 0) refl)
      (eqb (get_or s 1 0) 10) refl
    where
      by-second :
          (a ≡ 0 → ⊥)
          → (o : Option ℕ)
          → digit_of (get_or s 1 0) ≡ o
          → second_digit a (get_or s 1 0) (get_or s 2 0) (get_or s 3 0) ≡ Some v
          → Read s v
      by-second lead None is e = absurd (none-some v (rw is at e))
      by-second lead (Some b) is e = second-back lead b is v e

pub read_back : (s : List ℕ) (v : Value) → number_of s ≡ Some v → Read s v
unfolding number_by
read_back s v e = by-first (digit_of (get_or s 0 0)) refl
  where
    by-first : (o : Option ℕ) → digit_of (get_or s 0 0) ≡ o → Read s v
    by-first None is = absurd (none-some v (rw is at e))
    by-first (Some a) is = first-back s a is v e
