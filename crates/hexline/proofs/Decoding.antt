-- The loop of `decode`: the octets that stand are those of the pairs passed.
use Rattle.std.proofs.Common.{◌≡◌, ℕ, ◌+◌, ◌*◌, ◌/◌, ◌%◌, ◌<◌, ◌≤◌, false, List, length, get_or, set, sym, ap, ◌∙◌, arith}
use lib.Seq.{paste}
use Rattle.octets.specs.Room.{written}
use Rattle.octets.proofs.Writes as writes
use Rattle.hexline.specs.Hex.{hex_value, any_other, paired}
use Rattle.hexline.proofs.Characters as characters

-- after i octets
pub record Going (chars frame₀ frame : List ℕ) (n i : ℕ) : Type 0 where
  pub half : n ≡ length chars / 2
  pub within : i ≤ n
  pub is : frame ≡ paste frame₀ 0 (paired chars) i

module _ {chars frame₀ frame : List ℕ} {n i : ℕ} (going : Going chars frame₀ frame n i) (hex : any_other chars ≡ false)
    (fits : length chars / 2 ≤ length frame₀) where
  size : length (paired chars) ≡ n
  size = characters.pairs-size chars ∙ sym going.half

  -- one pair
  module _ (more : i < n) {both : ℕ} (is : both ≡ get_or chars (i * 2 + 1) 0 * 256 + get_or chars (i * 2) 0) where
    there : i * 2 + 1 < length chars
    there = omega (arith, going.half)

    low : hex_value (get_or chars (i * 2) 0) ≤ 15
    low = characters.each chars (i * 2) hex (omega (arith, there))

    halves : (both % 256 ≡ get_or chars (i * 2) 0) × (both / 256 ≡ get_or chars (i * 2 + 1) 0)
    halves = characters.halves (get_or chars (i * 2) 0) (get_or chars (i * 2 + 1) 0) is low

    pub first : hex_value (both % 256) ≤ 15
    first = rw halves.0 low

    pub second : hex_value (both / 256) ≤ 15
    second = rw halves.1 (characters.each chars (i * 2 + 1) hex there)

    pub turn : {octet : ℕ} → octet ≡ hex_value (both % 256) * 16 + hex_value (both / 256) → Going chars frame₀ (set frame i octet) n (i + 1)
    turn told =
        let place : 0 + i ≡ i = omega arith in
        let next =
        writes.turn frame₀ (paired chars) frame 0 i (omega (arith, size, going.half)) (omega (arith, size, going.within)) going.is (omega (arith, size))
        in
        record {
          half = going.half;
          within = omega arith;
          is =
              rw (told, halves.0, halves.1, sym (characters.pair-at chars i there)) (ap (λ (k : ℕ). set frame k (get_or (paired chars) i 0)) (sym place) ∙ next);
        }

  pub done : n ≤ i → frame ≡ written frame₀ 0 (paired chars)
  done all =
      writes.done frame₀ (paired chars) frame 0 i (omega (arith, size, going.half)) (omega (arith, size, going.within)) going.is (omega (arith, size))
