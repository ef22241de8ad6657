-- The laws of specs/Laws.antt, proved once over the width, and cited for the five counts.
use Rattle.std.proofs.Common.{◌≡◌, ℕ, suc, ◌+◌, ◌-◌, ◌*◌, ◌/◌, ◌%◌, ◌^◌, ◌<◌, ◌≤◌, ◌↔◌, sym, ap, ◌∙◌, add-zero, mod-lt, mod-eq_of_lt, add_comm, zero-add, arith, pow_pos}
use native.Mathlib.Nat.{mod-mod, mod-add-mod, add-mod-mod, div-add-mod, add-mul-mod_self_left, zero-mod, add-mod_right}
use lib.Pow.{mod-mod-pow}
use Rattle.counts.specs.Round.{onward, step}
use Rattle.counts.specs.Laws.{Laws}

-- what stands between a count and the modulus, added to the count, goes once round
round-again : (m : ℕ) → 0 < m → (a b : ℕ) → (a + (b + (m - a % m))) % m ≡ b % m
round-again m pos a b =
    let whole : m * (a / m) + a % m ≡ a = div-add-mod a m in
    let less : a % m < m = mod-lt a pos in
    let turns : a + (b + (m - a % m)) ≡ b + m * suc (a / m) = omega arith in
    ap (λ (n : ℕ). n % m) turns ∙ add-mul-mod_self_left b m (suc (a / m))

module _ (k : ℕ) where
  arrives : (a b : ℕ) → onward k a (step k a b) ≡ b % 2 ^ k
  arrives a b = add-mod-mod a (b + (2 ^ k - a % 2 ^ k)) (2 ^ k) ∙ round-again (2 ^ k) (pow_pos k) a b

  -- a number that goes from a to b is the step round the width, whatever way it was found
  step-only : (n a b : ℕ) → (n + a) % 2 ^ k ≡ b % 2 ^ k → n % 2 ^ k ≡ step k a b
  step-only n a b e =
      let m : ℕ = 2 ^ k in
      let rest : ℕ = m - a % m in
      let sum : n + a + rest ≡ a + (n + rest) = omega arith in
      sym (round-again m (pow_pos k) a n)
      ∙ ap (λ (x : ℕ). x % m) (sym sum)
      ∙ sym (mod-add-mod (n + a) m rest)
      ∙ ap (λ (x : ℕ). (x + rest) % m) e
      ∙ mod-add-mod b m rest

  -- a difference round 2 ^ 16, masked, is the step
  pub step-masked : k < 16 → (n last new : ℕ) → (n + last) % 2 ^ 16 ≡ new → n % 2 ^ k ≡ step k last new
  step-masked narrow n last new e =
      let parts : 16 - k + k ≡ 16 = omega arith in
      step-only n last new
      (sym (mod-mod-pow (n + last) (16 - k) k) ∙ ap (λ (j : ℕ). (n + last) % 2 ^ j % 2 ^ k) parts ∙ ap (λ (m : ℕ). m % 2 ^ k) e)

  steps : (a d : ℕ) → d < 2 ^ k → step k (a % 2 ^ k) ((a + d) % 2 ^ k) ≡ d
  steps a d less =
      let round : (d + a % 2 ^ k) % 2 ^ k ≡ (a + d) % 2 ^ k % 2 ^ k =
      add-mod-mod d a (2 ^ k) ∙ ap (λ (n : ℕ). n % 2 ^ k) (add_comm d a) ∙ sym (mod-mod (a + d) (2 ^ k))
      in
      sym (step-only d (a % 2 ^ k) ((a + d) % 2 ^ k) round) ∙ mod-eq_of_lt less

  behind : (a d : ℕ) → 0 < d → d ≤ 2 ^ k → step k ((a + d) % 2 ^ k) (a % 2 ^ k) ≡ 2 ^ k - d
  behind a d some most =
      let rest : ℕ = 2 ^ k - d in
      let less : rest < 2 ^ k = omega arith in
      let once : a + d + rest ≡ a + 2 ^ k = omega arith in
      ap (step k ((a + d) % 2 ^ k)) (sym (add-mod_right a (2 ^ k)) ∙ ap (λ (n : ℕ). n % 2 ^ k) (sym once))
      ∙ steps (a + d) rest less

  zero_when_equal : (a b : ℕ) → step k a b ≡ 0 ↔ a % 2 ^ k ≡ b % 2 ^ k
  zero_when_equal a b = (
    λ e. ap (λ (n : ℕ). n % 2 ^ k) (sym (add-zero a)) ∙ ap (onward k a) (sym e) ∙ arrives a b,
    λ e. sym (step-only 0 a b (ap (λ (n : ℕ). n % 2 ^ k) (zero-add a) ∙ e)) ∙ zero-mod (2 ^ k),
  )

  adds : (c a b : ℕ) → onward k (onward k c a) b ≡ onward k c (a + b)
  adds c a b =
      let sum : c + a + b ≡ c + (a + b) = omega arith in
      mod-add-mod (c + a) (2 ^ k) b ∙ ap (λ (n : ℕ). n % 2 ^ k) sum

  -- the two steps together go from the first count to the third
  joins : (a b c : ℕ) → (step k a b + step k b c) % 2 ^ k ≡ step k a c
  joins a b c =
      let m : ℕ = 2 ^ k in
      let swap : step k a b + step k b c + a ≡ a + (step k a b + step k b c) = omega arith in
      step-only (step k a b + step k b c) a c
      (ap (λ (n : ℕ). n % m) swap
      ∙ sym (adds a (step k a b) (step k b c))
      ∙ ap (λ (n : ℕ). onward k n (step k b c)) (arrives a b)
      ∙ mod-add-mod b m (step k b c)
      ∙ arrives b c)

  pub laws : Laws k
  laws =
      record {
        goes_on = λ a n. mod-add-mod a (2 ^ k) n;
        below = λ a b. mod-lt (b + (2 ^ k - a % 2 ^ k)) (pow_pos k);
        steps = steps;
        behind = behind;
        arrives = arrives;
        zero_when_equal = zero_when_equal;
        adds = adds;
        joins = joins;
        arrives_there = λ a b less. arrives a b ∙ mod-eq_of_lt less;
      }

pub digit-laws : Laws 8
digit-laws = laws 8

pub signalling-laws : Laws 7
signalling-laws = laws 7

pub voice-laws : Laws 4
voice-laws = laws 4

pub data-laws : Laws 13
data-laws = laws 13

pub fax-laws : Laws 4
fax-laws = laws 4
