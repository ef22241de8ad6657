-- What a number of the table means, case by case, and that a legal record comes back from its number.
use Prim.Native.Nat.{ℕ, zero, suc, ◌+◌, ◌*◌, ◌/◌, ◌%◌, ◌<◌, ◌≤◌}
use mathlib.Core.Path.{◌≡◌, refl, sym, ap, ◌∙◌}
use mathlib.Core.Bool.{Bool, true, false, cond, ◌&&◌}
use mathlib.Core.Logic.{◌⊎◌, inl, inr, ⊎_elim}
use mathlib.Core.List.{List}
use native.Mathlib.Nat.{le_trans}
use native.Mathlib.Omega.{arith}
use borrow.Author.Tests.{le-ltb, ltb-true, ltb-false, eq-eqb, ne_eqb, leb-true}
use lib.Dec.{leb, ltb, eqb}
use lib.ListN.{get_or}
use Rattle.std.specs.Bool.{then_some}
use Rattle.octets.proofs.Order.{eq-or-ne, picked}
use Rattle.record.specs.declared.syntax.Syntax.{Syntax}
use Rattle.record.specs.declared.syntax.Syntax.TheVariants.{Acelp, Pcm, G727, G728, G7231, Data, Fax}
use Rattle.record.specs.declared.syntax.Record.{Record}
use Rattle.record.specs.Record.{most_m, m_listed, seq_listed, legal, place, syntax_at, packed, with_pair, unpacked, meaning, found_at}
use Rattle.record.proofs.Listed.{most-small, both}
use Rattle.std.specs.declared.option.Option.{Option}
use Rattle.std.specs.declared.option.Option.TheVariants.{Some, None}

pub place-range : (x : Syntax) → (1 ≤ place x) × (place x ≤ 7)
place-range Acelp = (omega arith, omega arith)
place-range Pcm = (omega arith, omega arith)
place-range G727 = (omega arith, omega arith)
place-range G728 = (omega arith, omega arith)
place-range G7231 = (omega arith, omega arith)
place-range Data = (omega arith, omega arith)
place-range Fax = (omega arith, omega arith)

pub bit-small : (set : Bool) → cond set 1 0 ≤ 1
bit-small true = omega arith
bit-small false = omega arith

-- a bit, as a test and back
pub low_bit : (b : ℕ) → b ≤ 1 → cond (eqb b 1) 1 0 ≡ b
low_bit b h = ⊎_elim (λ e. simp (eq-eqb b 1 e) (sym e)) (λ ne. simp (ne_eqb b 1 ne) (omega arith)) (eq-or-ne b 1)

pub place-back : (x : Syntax) → syntax_at (place x) ≡ x
unfolding syntax_at
place-back Acelp = refl
place-back Pcm = refl
place-back G727 = refl
place-back G728 = refl
place-back G7231 = refl
place-back Data = refl
place-back Fax = refl

place-forth : (at : ℕ) → (at ≡ 0 → ⊥) → at ≤ 7 → place (syntax_at at) ≡ at
unfolding syntax_at
place-forth zero some most = absurd (some refl)
place-forth (suc zero) some most = refl
place-forth (suc (suc zero)) some most = refl
place-forth (suc (suc (suc zero))) some most = refl
place-forth (suc (suc (suc (suc zero)))) some most = refl
place-forth (suc (suc (suc (suc (suc zero))))) some most = refl
place-forth (suc (suc (suc (suc (suc (suc zero)))))) some most = refl
place-forth (suc (suc (suc (suc (suc (suc (suc zero))))))) some most = refl
place-forth (suc (suc (suc (suc (suc (suc (suc (suc at)))))))) some most = absurd (omega arith)

chosen : (b : Bool) (r : Record) → cond b (Some r) None ≡ then_some b r
chosen true r = refl
chosen false r = refl

abbrev pub meant : ℕ → Option Syntax → Option Record
meant n (Some syntax) = then_some (legal (with_pair syntax n)) (with_pair syntax n)
meant n None = None

one-not : (a b : Bool) → (a && b) ≡ false → (a ≡ false) ⊎ (b ≡ false)
one-not true b e = inr e
one-not false b e = inl refl

module _ (n : ℕ) where
  unlike : (packed (unpacked n) ≡ n → ⊥) → meaning n ≡ None
  unfolding meaning
  unlike h = simp (ne_eqb (packed (unpacked n)) n h)

  pub none_at_zero : n < 32 → meaning n ≡ None
  unfolding packed
  none_at_zero h = unlike (λ e. omega (arith, place-range (syntax_at (n / 32))))

  none-beyond : 255 < n → meaning n ≡ None
  unfolding packed
  none-beyond h =
      unlike (λ e. omega (arith, place-range (syntax_at (n / 32)), bit-small (eqb (n % 2) 1)))

  module _ (some : 32 ≤ n) (listed : n ≤ 255) where
    packs : packed (unpacked n) ≡ n
    unfolding packed
    packs =
        let high : place (syntax_at (n / 32)) ≡ n / 32 = place-forth (n / 32) (λ z. omega arith) (omega arith) in
        let low : cond (eqb (n % 2) 1) 1 0 ≡ n % 2 = low_bit (n % 2) (omega arith) in
        rw (high, low) (omega arith)

    by-pair : meaning n ≡ then_some (legal (unpacked n)) (unpacked n)
    unfolding meaning
    by-pair = simp (eq-eqb (packed (unpacked n)) n packs) (chosen (legal (unpacked n)) (unpacked n))

  -- by what stands at the place of the syntax, and then by the pair
  pub meaning_by :
      (standing : Option Syntax)
      → standing ≡ cond (ltb 0 (n / 32) && ltb (n / 32) 8) (Some (syntax_at (n / 32))) None
      → meaning n ≡ meant n standing
  meaning_by standing e =
      rw e
      (picked (λ x. meaning n ≡ meant n x) (ltb 0 (n / 32) && ltb (n / 32) 8) _ _
      (λ t.
      let tests = both (ltb 0 (n / 32)) (ltb (n / 32) 8) t in
      let low : 0 < n / 32 = ltb-true 0 (n / 32) tests.0 in
      let high : n / 32 < 8 = ltb-true (n / 32) 8 tests.1 in
      by-pair (omega arith) (omega arith))
      (λ t.
      ⊎_elim (λ z. let low : n / 32 ≤ 0 = ltb-false 0 (n / 32) z in none_at_zero (omega arith))
      (λ z. let high : 8 ≤ n / 32 = ltb-false (n / 32) 8 z in none-beyond (omega arith))
      (one-not (ltb 0 (n / 32)) (ltb (n / 32) 8) t)))

-- a legal record comes back from its number
pub m-small : (r : Record) → legal r ≡ true → r.m ≤ 12
m-small r e =
    let m = (both (m_listed r.syntax r.m) (seq_listed r.syntax r.seq) e).0 in
    let to = leb-true r.m (most_m r.syntax) (both (leb 1 r.m) (leb r.m (most_m r.syntax)) m).1 in
    le_trans to (most-small r.syntax)

pub bit-of : (set : Bool) → eqb (cond set 1 0) 1 ≡ set
bit-of true = refl
bit-of false = refl

module _ (r : Record) (is : legal r ≡ true) where
  unpacks : unpacked (packed r) ≡ r
  unfolding packed
  unpacks =
      let p : ℕ = place r.syntax in
      let b : ℕ = cond r.seq 1 0 in
      let n : ℕ = p * 32 + r.m * 2 + b in
      let small : r.m ≤ 12 = m-small r is in
      let bit : b ≤ 1 = bit-small r.seq in
      let high : n / 32 ≡ p = omega arith in
      let middle : n / 2 % 16 ≡ r.m = omega arith in
      let low : n % 2 ≡ b = omega arith in
      let one : syntax_at (n / 32) ≡ r.syntax = ap syntax_at high ∙ place-back r.syntax in
      let three : eqb (n % 2) 1 ≡ r.seq = ap (λ (x : ℕ). eqb x 1) low ∙ bit-of r.seq in
      λ i. record { syntax = one i; m = middle i; seq = three i }

  pub back : meaning (packed r) ≡ Some r
  unfolding meaning
  back =
      let same : packed (unpacked (packed r)) ≡ packed r = ap packed unpacks in
      let lawful : legal (unpacked (packed r)) ≡ true = ap legal unpacks ∙ is in
      simp (eq-eqb (packed (unpacked (packed r))) (packed r) same, lawful) (ap Some unpacks)

-- what is provisioned on a CID
module _ (table : List ℕ) (cid : ℕ) where
  pub on-cid : 4 ≤ cid → found_at table cid ≡ meaning (get_or table cid 0)
  unfolding found_at
  on-cid h = simp (le-ltb cid 4 h)
