-- The claims of specs/Claims.antt.
use Prim.Native.Nat.{ℕ, zero, suc, ◌+◌, ◌*◌, ◌/◌, ◌%◌, ◌<◌, ◌≤◌}
use mathlib.Core.Path.{◌≡◌, refl, sym, ap, ◌∙◌}
use mathlib.Core.List.{List, [], ◌∷◌}
use mathlib.Core.Bool.{Bool, true, false, cond}
use mathlib.Core.Logic.{⊎_elim}
use native.Mathlib.Nat.{zero-mul, one-mul}
use native.Mathlib.Omega.{arith}
use borrow.Author.Tests.{ltb-false, ne_eqb, eqb-false}
use lib.Dec.{ltb, eqb}
use lib.ListN.{length, drop}
use Rattle.std.specs.declared.result.Result.{Result}
use Rattle.std.specs.declared.result.Result.TheVariants.{Ok, Err}
use Rattle.refusal.specs.declared.Refusal.{Refusal}
use Rattle.octets.proofs.Order.{eq-or-ne, past}
use Rattle.octets.proofs.MadeBack.{same-made}
use Rattle.data.specs.declared.Fragment.{Fragment}
use Rattle.data.specs.Data.{begins_in, ends_in, third_bit, sequence_in, fragment_in, data_read, first_octet, second_octet}
use Rattle.data.specs.Claims.{MadeReadsBack, ReadIsMade}
use Rattle.data.proofs.DataCases as cases

-- a bit as a number
record Bit (set : Bool) : Type 0 where
  n : ℕ
  small : n ≤ 1
  at : (place : ℕ) → cond set place 0 ≡ n * place
  is : eqb n 1 ≡ set

bit : (set : Bool) → Bit set
bit true = record { n = 1; small = omega arith; at = λ place. sym (one-mul place); is = refl }
bit false = record { n = 0; small = omega arith; at = λ place. sym (zero-mul place); is = refl }

-- the fields of a payload that is made, where the sequence has 13 bits
record Fields (begins ends : Bool) (s : ℕ) (rest : List ℕ) : Type 0 where
  third : third_bit (first_octet begins ends s ∷ rest) ≡ false
  low : first_octet begins ends s % 32 ≡ s / 256
  b : begins_in (first_octet begins ends s ∷ rest) ≡ begins
  e : ends_in (first_octet begins ends s ∷ rest) ≡ ends

fields : (begins ends : Bool) (s : ℕ) (rest : List ℕ) → s ≤ 8191 → Fields begins ends s rest
fields begins ends s rest h =
    let x = bit begins in
    let y = bit ends in
    let first : ℕ = first_octet begins ends s in
    let is : first ≡ x.n * 128 + y.n * 64 + s / 256 = omega (arith, x.at 128, y.at 64) in
    let one : first / 128 ≡ x.n = omega (arith, y.small) in
    let two : first / 64 % 2 ≡ y.n = omega (arith, y.small) in
    record {
      third = ne_eqb (first / 32 % 2) 1 (λ z. omega (arith, y.small));
      low = omega arith;
      b = ap (λ (n : ℕ). eqb n 1) one ∙ x.is;
      e = ap (λ (n : ℕ). eqb n 1) two ∙ y.is;
    }

some-length : (body : List ℕ) → (length body ≡ 0 → ⊥) → 3 ≤ suc (suc (length body))
some-length body h = ⊎_elim (λ z. absurd (h z)) (λ z. omega arith) (eq-or-ne (length body) 0)

pub made-reads-back : MadeReadsBack
made-reads-back begins ends sequence body octets m =
    let s : ℕ = sequence.0 in
    let f = cases.fitting begins ends s body octets m in
    let is : octets ≡ first_octet begins ends s ∷ second_octet s ∷ body = same-made _ _ _ m (cases.made-right begins ends s body f.0 f.1) in
    let told = fields begins ends s (second_octet s ∷ body) f.1 in
    let whole : s / 256 * 256 + s % 256 ≡ s = omega arith in (
      rw is (cases.right _ (some-length body f.0) told.third ∙ simp (told.b, told.e, told.low, whole)),
      ap (drop 2) is,
    )

never : (r : Refusal) (f : Fragment) → ◌≡◌ {A = Result Fragment Refusal} (Err r) (Ok f) → ⊥
never r f e = cc

told : (f g : Fragment) → ◌≡◌ {A = Result Fragment Refusal} (Ok f) (Ok g) → f ≡ g
told f g e = cc

-- what holds of a payload that was read
record Was (p : List ℕ) (f : Fragment) : Type 0 where
  whole : 3 ≤ length p
  clear : third_bit p ≡ false
  is : fragment_in p ≡ f

was : (p : List ℕ) (f : Fragment) → data_read p ≡ Ok f → Was p f
unfolding data_read
was p f is =
    let whole = past (ltb (length p) 3) _ _ _ (never _ f) is in
    let clear = past (third_bit p) _ _ _ (never _ f) whole.1 in
    record { whole = ltb-false (length p) 3 whole.0; clear = clear.0; is = told _ _ clear.1 }

-- the bits of an octet
pieces : (x : ℕ) → x / 128 * 128 + x / 64 % 2 * 64 + x / 32 % 2 * 32 + x % 32 ≡ x
pieces x = omega arith

without : (a b t d x : ℕ) → t ≡ 0 → a * 128 + b * 64 + t * 32 + d ≡ x → a * 128 + b * 64 + d ≡ x
without a b t d x z e = omega arith

-- a bit, from its test
tested : (n place : ℕ) → n < 2 → cond (eqb n 1) place 0 ≡ n * place
tested zero place h = sym (zero-mul place)
tested (suc zero) place h = sym (one-mul place)
tested (suc (suc n)) place h = absurd (omega arith)

cleared : (x : ℕ) → eqb (x / 32 % 2) 1 ≡ false → x / 32 % 2 ≡ 0
cleared x h = ⊎_elim (λ z. absurd (eqb-false (x / 32 % 2) 1 h z)) (λ z. omega arith) (eq-or-ne (x / 32 % 2) 1)

-- an octet with a clear third bit is made of its fields
octet-again :
    (first second : ℕ) (body : List ℕ)
    → first < 256
    → second < 256
    → first / 32 % 2 ≡ 0
    → first_octet (begins_in (first ∷ body)) (ends_in (first ∷ body)) (first % 32 * 256 + second) ≡ first
octet-again first second body h k c =
    let high : (first % 32 * 256 + second) / 256 ≡ first % 32 = omega arith in
    simp (tested (first / 128) 128 (omega arith), tested (first / 64 % 2) 64 (omega arith), high)
    (without (first / 128) (first / 64 % 2) (first / 32 % 2) (first % 32) first c (pieces first))

pub read-is-made : ReadIsMade
read-is-made [] b e s small is = absurd (omega (arith, (was [] _ is).whole))
read-is-made (x ∷ []) b e s small is = absurd (omega (arith, (was (x ∷ []) _ is).whole))
read-is-made (first ∷ second ∷ body) b e s small is =
    let p : List ℕ = first ∷ second ∷ body in
    let w = was p _ is in
    let h : first < 256 = small 0 in
    let k : second < 256 = small 1 in
    let whole : 3 ≤ length p = w.whole in
    let some : length body ≡ 0 → ⊥ = λ z. omega arith in
    let t = first % 32 * 256 + second in
    let range : t ≤ 8191 = omega arith in
    let again = octet-again first second (second ∷ body) h k (cleared first w.clear) in
    let low : t % 256 ≡ second = omega arith in
    let begins : begins_in p ≡ b = ap (λ (f : Fragment). f.begins) w.is in
    let ends : ends_in p ≡ e = ap (λ (f : Fragment). f.ends) w.is in
    let sequence : sequence_in p ≡ s = ap (λ (f : Fragment). f.sequence) w.is in
    rw (← begins, ← ends, ← sequence) (cases.made-right (begins_in p) (ends_in p) t body some range ∙ simp (again, low))
