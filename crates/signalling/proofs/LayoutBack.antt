-- Signalling payloads, written and read: the claims of specs/Claims.antt, and what the code stores.
use Prim.Native.Nat.{ℕ, zero, suc, ◌+◌, ◌*◌, ◌/◌, ◌%◌, ◌<◌, ◌≤◌}
use mathlib.Core.Path.{◌≡◌, refl, sym, ap, ap₂, subst, ◌∙◌}
use mathlib.Core.List.{List, [], ◌∷◌}
use mathlib.Core.Bool.{Bool, true, false, not, cond}
use mathlib.Core.Logic.{⊎_elim}
use native.Mathlib.Nat.{zero-add, not-suc-le-zero, le_of_suc-le-suc, add-zero}
use native.Mathlib.Omega.{arith}
use borrow.Author.Tests.{lt-ltb, ltb-true, ltb-false, eq-eqb, ne_eqb, not-false}
use lib.Dec.{ltb, eqb}
use lib.ListN.{length, get_or, set, take, drop, replicate}
use lib.Seq.{paste, drop-cons, ext_get_or, take_all}
use Rattle.std.specs.declared.result.Result.{Result}
use Rattle.std.specs.declared.result.Result.TheVariants.{Ok, Err}
use Rattle.refusal.specs.declared.Refusal.{Refusal}
use Rattle.octets.proofs.Writes as writes
use Rattle.octets.proofs.Order.{eq-or-ne, past}
use Rattle.octets.proofs.MadeBack.{octets-made, same-made, never-made}
use Rattle.octets.specs.Octets.{Octets}
use Rattle.octets.specs.Made.{made, fit_of}
use Rattle.signalling.specs.declared.layout.Signalling.{Signalling}
use Rattle.signalling.specs.Layout.{halves, signalling_in, all_allowed, pair_at, pairs, first_octet, signalling_made}
use Rattle.signalling.specs.Claims.{SignallingReadsBack, SignallingMadeAgain}
use Rattle.signalling.proofs.LayoutCases as cases
use Rattle.signalling.proofs.Halves as halves_of
use Rattle.signalling.proofs.Samples.{allowed-looks, each-passes, all_pass}

pub record Fitting (s : Signalling) : Type 0 where
  pub within : s.sequence.0 ≤ 127
  pub fair : all_allowed 30 0 s.samples ≡ true

pub fitting : (s : Signalling) (octets : List ℕ) → signalling_made s ≡ made octets → Fitting s
unfolding signalling_made
fitting s octets e =
    let sequence = past (ltb 127 s.sequence.0) _ _ _ (never-made _ _ octets refl) e in
    let samples = past (not (all_allowed 30 0 s.samples)) _ _ _ (never-made _ _ octets refl) sequence.1 in
    record { within = ltb-false 127 s.sequence.0 sequence.0; fair = not-false _ samples.0 }

pub fits : (s : Signalling) (n : ℕ) → fit_of (signalling_made s) ≡ Ok n → Fitting s
fits s n e = let m = octets-made (signalling_made s) n e in fitting s m.0 m.1

pub made-octets : (s : Signalling) → Fitting s → signalling_made s ≡ made (first_octet s ∷ pairs 15 0 s.samples)
made-octets s f = cases.all_right s f.within f.fair

pub length_pairs : (n k : ℕ) (samples : List ℕ) → length (pairs n k samples) ≡ n
unfolding pairs
length_pairs zero k samples = refl
length_pairs (suc n) k samples = ap suc (length_pairs n (suc k) samples)

pair-at : (n k : ℕ) (samples : List ℕ) (j : ℕ) → j < n → get_or (pairs n k samples) j 0 ≡ pair_at samples (k + j)
unfolding pairs
pair-at zero k samples j h = absurd (not-suc-le-zero h)
pair-at (suc n) k samples zero h = rw (add-zero k)
pair-at (suc n) k samples (suc j) h =
    let same : suc k + j ≡ k + suc j = omega arith in
    pair-at n (suc k) samples j (le_of_suc-le-suc h) ∙ ap (pair_at samples) same

-- the octets of the pairs, of which i stand
module _ (samples octets : List ℕ) (i : ℕ) (is : octets ≡ paste (replicate 15 0) 0 (pairs 15 0 samples) i) where
  pub pair-stored : i < 15 → set octets i (pair_at samples i) ≡ paste (replicate 15 0) 0 (pairs 15 0 samples) (i + 1)
  pair-stored less =
      let many = length_pairs 15 0 samples in
      ap (set octets i) (sym (pair-at 15 0 samples i less ∙ ap (pair_at samples) (zero-add i)))
      ∙ writes.next-filled (replicate 15 0) (pairs 15 0 samples) octets i (sym many) (omega arith) is (omega arith)

  pub all-paired : i ≤ 15 → 15 ≤ i → octets ≡ pairs 15 0 samples
  all-paired most least =
      let many = length_pairs 15 0 samples in
      writes.all_filled (replicate 15 0) (pairs 15 0 samples) octets i (sym many) (omega arith) is (omega arith)

pub all_small : (samples : List ℕ) → all_allowed 30 0 samples ≡ true → (j : ℕ) → j < 30 → get_or samples j 0 < 16
all_small samples fair j h = rw (zero-add j) at (ltb-true (get_or samples (0 + j) 0) 16 (each-passes (allowed-looks samples) 30 0 fair j h))

module _ (samples : List ℕ) (small : (j : ℕ) → j < 30 → get_or samples j 0 < 16) where
  -- two samples of each pair come back
  pairs-halves : (n k : ℕ) → k + n ≤ 15 → length samples ≡ 30 → halves (pairs n k samples) ≡ take (n + n) (drop (k + k) samples)
  unfolding pairs halves
  pairs-halves zero k h whole = refl
  pairs-halves (suc n) k h whole =
      let low : get_or samples (k + k) 0 < 16 = small (k + k) (omega arith) in
      let high : get_or samples (k + k + 1) 0 < 16 = small (k + k + 1) (omega arith) in
      let first : pair_at samples k % 16 ≡ get_or samples (k + k) 0 = omega arith in
      let second : pair_at samples k / 16 ≡ get_or samples (k + k + 1) 0 = omega arith in
      let next : k + k + 1 ≡ suc (k + k) = omega arith in
      let two : suc n + suc n ≡ suc (suc (n + n)) = omega arith in
      let on : suc k + suc k ≡ suc (suc (k + k)) = omega arith in
      let rest : halves (pairs n (suc k) samples) ≡ take (n + n) (drop (suc k + suc k) samples) = pairs-halves n (suc k) (omega arith) whole in
      ap₂ (λ (x : ℕ) (l : List ℕ). x ∷ l) first
      (ap₂ (λ (x : ℕ) (l : List ℕ). x ∷ l) (second ∙ ap (λ (j : ℕ). get_or samples j 0) next) (rest ∙ ap (λ (j : ℕ). take (n + n) (drop j samples)) on))
      ∙ sym
      (ap (λ (j : ℕ). take j (drop (k + k) samples)) two
      ∙ ap (take (suc (suc (n + n)))) (drop-cons samples (k + k) 0 (omega arith))
      ∙ ap (λ (l : List ℕ). get_or samples (k + k) 0 ∷ take (suc (n + n)) l) (drop-cons samples (suc (k + k)) 0 (omega arith)))

alarm-back : (alarm : Bool) (sequence : ℕ) → sequence ≤ 127
    → let o = cond alarm (128 + sequence) sequence in
    (eqb (o / 128) 1 ≡ alarm) × (o % 128 ≡ sequence)
alarm-back true sequence h = let one : (128 + sequence) / 128 ≡ 1 = omega arith in (rw one, omega arith)
alarm-back false sequence h = let none : sequence / 128 ≡ 0 = omega arith in (rw none, omega arith)

pub signalling-reads-back : SignallingReadsBack
signalling-reads-back s octets whole e =
    let f = fitting s octets e in
    let first = alarm-back s.alarm s.sequence.0 f.within in
    let samples : halves (pairs 15 0 s.samples) ≡ s.samples =
    pairs-halves s.samples (all_small s.samples f.fair) 15 0 (omega arith) whole ∙ take_all 30 s.samples (omega arith)
    in
    rw (same-made _ octets (first_octet s ∷ pairs 15 0 s.samples) e (made-octets s f))
    (cases.right (first_octet s ∷ pairs 15 0 s.samples) (ap suc (length_pairs 15 0 s.samples)) ∙ rw (first.0, first.1, samples))

-- halves of octets are allowed
half-small : (l : List ℕ) → Octets l → (j : ℕ) → get_or (halves l) j 0 < 16
unfolding halves
half-small [] o j = omega arith
half-small (x ∷ l) o zero = omega arith
half-small (x ∷ l) o (suc zero) = let h : x < 256 = o 0 in omega arith
half-small (x ∷ l) o (suc (suc j)) = half-small l (λ i. o (suc i)) j

small-allowed : (n i : ℕ) (samples : List ℕ) → ((j : ℕ) → get_or samples j 0 < 16) → all_allowed n i samples ≡ true
small-allowed n i samples h = all_pass (allowed-looks samples) n i (λ j less. lt-ltb (get_or samples (i + j) 0) 16 (h (i + j)))

halves_pairs : (l : List ℕ) → length l ≡ 15 → pairs 15 0 (halves l) ≡ l
halves_pairs l whole =
    let many = length_pairs 15 0 (halves l) in
    ext_get_or 0 (pairs 15 0 (halves l)) l (many ∙ sym whole)
    (λ i h.
    let less : i < length l = omega arith in
    pair-at 15 0 (halves l) i (omega arith)
    ∙ ap (pair_at (halves l)) (zero-add i)
    ∙ ap₂ (λ (x y : ℕ). x + y * 16) (halves_of.low_half l i less) (halves_of.high_half l i less)
    ∙ omega arith)

never : {A : Type 0} (r : Result Signalling Refusal) (x : Refusal) (y : Signalling) → r ≡ Err x → r ≡ Ok y → A
never r x y p q = cc

same-read : (r : Result Signalling Refusal) (x y : Signalling) → r ≡ Ok x → r ≡ Ok y → x ≡ y
same-read r x y p q = cc

-- the first octet again
first-again : (x : ℕ) → x < 256 → cond (eqb (x / 128) 1) (128 + x % 128) (x % 128) ≡ x
first-again x h =
    ⊎_elim (λ (one : x / 128 ≡ 1). simp (eq-eqb (x / 128) 1 one) (omega arith))
    (λ (none : x / 128 ≡ 1 → ⊥). simp (ne_eqb (x / 128) 1 none) (low x h none))
    (eq-or-ne (x / 128) 1)
  where
    low : (x : ℕ) → x < 256 → (x / 128 ≡ 1 → ⊥) → x % 128 ≡ x
    low x h none = ⊎_elim (λ (z : x / 128 ≡ 0). omega arith) (λ nz. absurd (none (omega arith))) (eq-or-ne (x / 128) 0)

again : (octets : List ℕ) → Octets octets → length octets ≡ 16
    → (length (halves (drop 1 octets)) ≡ 30) × (signalling_made (signalling_in octets) ≡ made octets)
again [] o whole = absurd (omega arith)
again (x ∷ l) o whole =
    let rest : length l ≡ 15 = omega arith in
    let f : Fitting (signalling_in (x ∷ l)) = record { within = omega arith; fair = small-allowed 30 0 (halves l) (half-small l (λ i. o (suc i))) } in (
      halves_of.length-halves l ∙ rw rest,
      made-octets (signalling_in (x ∷ l)) f ∙ ap₂ (λ (a : ℕ) (b : List ℕ). made (a ∷ b)) (first-again x (o 0)) (halves_pairs l rest),
    )

pub signalling-made-again : SignallingMadeAgain
signalling-made-again s octets o e =
    ⊎_elim
    (λ whole.
    let is = same-read _ _ s (cases.right octets whole) e in
    subst (λ (x : Signalling). (length x.samples ≡ 30) × (signalling_made x ≡ made octets)) is (again octets o whole))
    (λ wrong. never _ _ s (cases.wrong octets wrong) e)
    (eq-or-ne (length octets) 16)
