-- The values of hex characters, one by one and in pairs, in the terms of the code.
use Rattle.std.proofs.Common.{◌≡◌, ℕ, zero, suc, ◌+◌, ◌-◌, ◌*◌, ◌/◌, ◌%◌, ◌<◌, ◌≤◌, Bool, true, false, cond, ◌⊎◌, List, [], ◌∷◌, ◌++◌, length, get_or, take, sym, refl, ap, ◌∙◌, inl, inr, ⊎_elim, add-one, arith, take-suc, ltb-false, le-ltb, lt-ltb}
use lib.Bits.{bit_and, bit_or, and_block, and_mask}
use Rattle.refusal.specs.Order.{◌or◌}
use Rattle.octets.proofs.Order.{lt-or-le}
use Rattle.octets.proofs.Texts as texts
use Rattle.hexline.specs.Hex.{hex_value, is_other, any_other, paired}

-- a character, by the range in which it stands
module _ (c : ℕ) where
  low : c < 48 → hex_value c ≡ 16
  unfolding hex_value
  low h = simp (lt-ltb c 48 h)

  pub digit : 48 ≤ c → c < 58 → hex_value c ≡ c - 48
  unfolding hex_value
  digit m h = simp (le-ltb c 48 m, lt-ltb c 58 h)

  between : 58 ≤ c → c < 97 → hex_value c ≡ 16
  unfolding hex_value
  between m h =
      let n : 48 ≤ c = omega arith in
      simp (le-ltb c 48 n, le-ltb c 58 m, lt-ltb c 97 h)

  pub letter : 97 ≤ c → c < 103 → hex_value c ≡ c - 87
  unfolding hex_value
  letter m h =
      let n : 48 ≤ c = omega arith in
      let o : 58 ≤ c = omega arith in
      simp (le-ltb c 48 n, le-ltb c 58 o, le-ltb c 97 m, lt-ltb c 103 h)

  high : 103 ≤ c → hex_value c ≡ 16
  unfolding hex_value
  high m =
      let n : 48 ≤ c = omega arith in
      let o : 58 ≤ c = omega arith in
      let p : 97 ≤ c = omega arith in
      simp (le-ltb c 48 n, le-ltb c 58 o, le-ltb c 97 p, le-ltb c 103 m)

  is-hex : hex_value c ≤ 15 → is_other c ≡ false
  is-hex h = le-ltb 15 (hex_value c) h

  pub hex-digit : 48 ≤ c → c < 58 → is_other c ≡ false
  hex-digit m h = is-hex (omega (arith, digit m h))

  pub hex-letter : 97 ≤ c → c < 103 → is_other c ≡ false
  hex-letter m h = is-hex (omega (arith, letter m h))

  other-by : hex_value c ≡ 16 → is_other c ≡ true
  other-by e = lt-ltb 15 (hex_value c) (omega arith)

  pub other : (48 ≤ c → c < 58 → ⊥) → (97 ≤ c → c < 103 → ⊥) → is_other c ≡ true
  other d l =
      ⊎_elim (λ (h : c < 48). other-by (low h))
      (λ (m : 48 ≤ c).
      ⊎_elim (λ (h : c < 58). absurd (d m h))
      (λ (n : 58 ≤ c).
      ⊎_elim (λ (h : c < 97). other-by (between n h))
      (λ (o : 97 ≤ c).
      ⊎_elim (λ (h : c < 103). absurd (l o h)) (λ (p : 103 ≤ c). other-by (high p))
      (lt-or-le c 103))
      (lt-or-le c 97))
      (lt-or-le c 58))
      (lt-or-le c 48)

  -- the character of a value
  place : hex_value c ≤ 15 → ((hex_value c < 10) × (c ≡ 48 + hex_value c)) ⊎ ((10 ≤ hex_value c) × (c ≡ 87 + hex_value c))
  place v =
      ⊎_elim (λ (h : c < 48). absurd (omega (arith, low h)))
      (λ (m : 48 ≤ c).
      ⊎_elim (λ (h : c < 58). inl (omega (arith, digit m h), omega (arith, digit m h)))
      (λ (n : 58 ≤ c).
      ⊎_elim (λ (h : c < 97). absurd (omega (arith, between n h)))
      (λ (o : 97 ≤ c).
      ⊎_elim (λ (h : c < 103). inr (omega (arith, letter o h), omega (arith, letter o h))) (λ (p : 103 ≤ c). absurd (omega (arith, high p)))
      (lt-or-le c 103))
      (lt-or-le c 97))
      (lt-or-le c 58))
      (lt-or-le c 48)

-- how far a hex character stands from `0`: bit 4 tells a letter
distance : (c : ℕ) → hex_value c ≤ 15 → (48 ≤ c) × ((c < 103) × (hex_value c + (c - 48) / 16 % 2 * 39 ≡ c - 48))
distance c v =
    ⊎_elim (λ p. (omega (arith, p.1), (omega (arith, p.0, p.1), omega (arith, p.0, p.1))))
    (λ p. (omega (arith, p.1), (omega (arith, p.1), omega (arith, p.0, p.1))))
    (place c v)

-- two hex characters as one number, the first in its low half
pub halves : (c d : ℕ) {both : ℕ} → both ≡ d * 256 + c → hex_value c ≤ 15 → (both % 256 ≡ c) × (both / 256 ≡ d)
halves c d is first = (omega (arith, (distance c first).1.0), omega (arith, (distance c first).1.0))

module _ (both : ℕ) (first : hex_value (both % 256) ≤ 15) (second : hex_value (both / 256) ≤ 15) where
  abbrev c : ℕ
  c = both % 256

  abbrev d : ℕ
  d = both / 256

  letters : bit_and ((both - 12336) / 16) 257 ≡ (d - 48) / 16 % 2 * 256 + (c - 48) / 16 % 2
  letters =
      let p = distance c first in
      let q = distance d second in
      let low = (d - 48) % 16 * 16 + (c - 48) / 16 in
      let apart : (both - 12336) / 16 ≡ (d - 48) / 16 * 256 + low = omega (arith, p.0, p.1.0, q.0, q.1.0) in
      let block : bit_and ((d - 48) / 16 * 256 + low) 257 ≡ bit_and ((d - 48) / 16) 1 * 256 + bit_and low 1 =
      and_block 8 ((d - 48) / 16) 1 low 1 (omega (arith, p.1.0)) (omega arith) in
      let one : bit_and ((d - 48) / 16) 1 ≡ (d - 48) / 16 % 2 = and_mask ((d - 48) / 16) 1 in
      let other : bit_and low 1 ≡ low % 2 = and_mask low 1 in
      rw apart (omega (arith, block, one, other))

  pub values :
      (12336 ≤ both) × (
      (bit_and ((both - 12336) / 16) 257 * 39 ≤ both - 12336)
      × (both - 12336 - bit_and ((both - 12336) / 16) 257 * 39 ≡ hex_value (both / 256) * 256 + hex_value (both % 256))
      )
  values =
      let p = distance c first in
      let q = distance d second in (
        omega (arith, p.0, q.0),
        (omega (arith, letters, p.0, p.1.1, q.0, q.1.1), omega (arith, letters, p.0, p.1.1, q.0, q.1.1)),
      )

-- two values in one number as one octet
pub joined : {high low both : ℕ} → both ≡ low * 256 + high → high ≤ 15 → low ≤ 15 → (both * 16 + both / 256) % 256 ≡ high * 16 + low
joined {high} {low} {both} is h l =
    let part : both / 256 ≡ low = omega arith in
    let whole : both * 16 + both / 256 ≡ low * 16 * 256 + (high * 16 + low) = omega (arith, part) in
    rw whole (omega arith)

-- whether another character is among the first ones
other-more : (chars : List ℕ) (c : ℕ) → any_other (chars ++ c ∷ []) ≡ (any_other chars or is_other c)
unfolding any_other
other-more [] c = go (is_other c)
  where
    go : (t : Bool) → (t or false) ≡ t
    go true = refl
    go false = refl
other-more (x ∷ xs) c = go (is_other x) (other-more xs c)
  where
    go : (t : Bool) → any_other (xs ++ c ∷ []) ≡ (any_other xs or is_other c) → (t or any_other (xs ++ c ∷ [])) ≡ ((t or any_other xs) or is_other c)
    go true e = refl
    go false e = e

join : (t u : Bool) → bit_or (cond t 1 0) (cond u 1 0) ≡ cond (t or u) 1 0
join true true = refl
join true false = refl
join false true = refl
join false false = refl

pub flaws-more :
    (chars : List ℕ) (i flaws one : ℕ)
    → i < length chars
    → flaws ≡ cond (any_other (take i chars)) 1 0
    → one ≡ cond (is_other (get_or chars i 0)) 1 0
    → bit_or flaws one ≡ cond (any_other (take (i + 1) chars)) 1 0
flaws-more chars i flaws one h f o =
    rw (f, o, add-one i, take-suc chars i 0 h)
    (join (any_other (take i chars)) (is_other (get_or chars i 0)) ∙ ap (λ (t : Bool). cond t 1 0) (sym (other-more (take i chars) (get_or chars i 0))))

-- without one, each is a hex character
pub each : (chars : List ℕ) (i : ℕ) → any_other chars ≡ false → i < length chars → hex_value (get_or chars i 0) ≤ 15
unfolding any_other
each [] i e h = absurd (omega arith)
each (c ∷ cs) i e h = go (is_other c) refl e i h (each cs)
  where
    go :
        (t : Bool)
        → is_other c ≡ t
        → (t or any_other cs) ≡ false
        → (j : ℕ)
        → j < suc (length cs)
        → ((k : ℕ) → any_other cs ≡ false → k < length cs → hex_value (get_or cs k 0) ≤ 15)
        → hex_value (get_or (c ∷ cs) j 0) ≤ 15
    go true p e j h rest = absurd (texts.true-not-false e)
    go false p e zero h rest = ltb-false 15 (hex_value c) p
    go false p e (suc j) h rest = rest j e (omega arith)

-- the octets of pairs
pub pairs-size : (chars : List ℕ) → length (paired chars) ≡ length chars / 2
unfolding paired
pairs-size [] = refl
pairs-size (c ∷ []) = refl
pairs-size (c ∷ d ∷ rest) = omega (arith, pairs-size rest)

pub pair-at :
    (chars : List ℕ) (i : ℕ)
    → i * 2 + 1 < length chars
    → get_or (paired chars) i 0 ≡ hex_value (get_or chars (i * 2) 0) * 16 + hex_value (get_or chars (i * 2 + 1) 0)
unfolding paired
pair-at [] i h = absurd (omega arith)
pair-at (c ∷ []) i h = absurd (omega arith)
pair-at (c ∷ d ∷ rest) zero h = refl
pair-at (c ∷ d ∷ rest) (suc i) h =
    let first : suc i * 2 ≡ suc (suc (i * 2)) = omega arith in
    let second : suc i * 2 + 1 ≡ suc (suc (i * 2 + 1)) = omega arith in
    rw (second, first) (pair-at rest i (omega arith))
