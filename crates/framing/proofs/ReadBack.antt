-- A header that was written reads back: `header_at` at a place from which a header stands.
use Prim.Native.Nat.{ℕ, ◌+◌, ◌-◌, ◌*◌, ◌/◌, ◌%◌, ◌<◌, ◌≤◌}
use mathlib.Core.Path.{◌≡◌, sym, ap, ◌∙◌}
use mathlib.Core.List.{List, ◌++◌}
use mathlib.Core.Bool.{Bool, true, false, cond}
use mathlib.Core.Logic.{◌⊎◌, ⊎_elim}
use native.Mathlib.Omega.{arith}
use lib.Dec.{eqb}
use lib.ListN.{length, drop, length-drop}
use Rattle.std.specs.declared.result.Result.TheVariants.{Ok}
use Rattle.std.specs.declared.option.Option.TheVariants.{Some}
use Rattle.header.specs.Header.{ei, li, low_bits, spare, payload_type, size, octet1, octet1a, octet1b, cid_of, told, header_at}
use Rattle.joining.specs.Joining.{li_for, header_with}
use Rattle.header.proofs.HeaderCases as cases

-- octet 1a of a header, 0 without it
abbrev pub extension : ℕ → ℕ → ℕ → ℕ
extension e cid ptype = cond (eqb e 0) 0 (cid / 64 * 64 + ptype)

-- a header whose EI says enough: 0 only where octet 1a would be 0
pub record Enough (e cid ptype : ℕ) : Type 0 where
  pub bit : (e ≡ 0) ⊎ (e ≡ 1)
  pub whole : extension e cid ptype ≡ cid / 64 * 64 + ptype
  pub free : 4 ≤ cid
  pub four_bits : ptype ≤ 15

-- octet 1a has no spare bit set
1a-clear : (cid ptype : ℕ) → ptype ≤ 15 → spare (cid / 64 * 64 + ptype) ≡ 0
1a-clear cid ptype four_bits = omega arith

-- the octets of a header with what follows it
module _ (e cid ptype len : ℕ) (rest : List ℕ) (bit : (e ≡ 0) ⊎ (e ≡ 1)) where
  abbrev first : Bool → ℕ
  first last = e * 128 + li_for last * 64 + cid % 64

  ei-back : (last : Bool) → ei (first last) ≡ e
  ei-back true = omega arith
  ei-back false = omega arith

  li-back : (last : Bool) → li (first last) ≡ li_for last
  li-back true = omega arith
  li-back false = omega arith

  low-back : (last : Bool) → low_bits (first last) ≡ cid % 64
  low-back true = omega arith
  low-back false = omega arith

  1a-back : (last : Bool) → octet1a (header_with e cid ptype last len ++ rest) ≡ extension e cid ptype
  1a-back last = rw (ei-back last) (⊎_elim (λ z. rw z) (λ z. rw z) bit)

  1b-back : octet1b (header_with e cid ptype false len ++ rest) ≡ len
  1b-back = rw (ei-back false, li-back false) (⊎_elim (λ z. rw z) (λ z. rw z) bit)

  length_back : (last : Bool) → length (header_with e cid ptype last len ++ rest) ≡ 1 + e + li_for last + length rest
  length_back true = ⊎_elim (λ z. rw z (omega arith)) (λ z. rw z (omega arith)) bit
  length_back false = ⊎_elim (λ z. rw z (omega arith)) (λ z. rw z (omega arith)) bit

module _ (F : List ℕ) (at e cid ptype len : ℕ) (rest : List ℕ) (enough : Enough e cid ptype) where
  -- the header that is read, from its octets' numbers
  told_back :
      (last : Bool)
      → drop at F ≡ header_with e cid ptype last len ++ rest
      → header_at F at
      ≡ told at (e * 128 + li_for last * 64 + cid % 64) (cid / 64 * 64 + ptype) (octet1b (header_with e cid ptype last len ++ rest))
      (1 + e + li_for last + length rest)
  told_back last stands =
      let many : length F - at ≡ 1 + e + li_for last + length rest =
      sym (length-drop at F) ∙ ap length stands ∙ length_back e cid ptype len rest enough.bit last
      in
      let f : List ℕ = header_with e cid ptype last len ++ rest in
      let ext : octet1a f ≡ cid / 64 * 64 + ptype = 1a-back e cid ptype len rest enough.bit last ∙ enough.whole in
      let n : length f ≡ 1 + e + li_for last + length rest = length_back e cid ptype len rest enough.bit last in
      cases.there F at (omega arith)
      ∙ rw stands (ap (λ (x : ℕ). told at (octet1 f) x (octet1b f) (length f)) ext ∙ ap (λ (x : ℕ). told at (octet1 f) (cid / 64 * 64 + ptype) (octet1b f) x) n)

  pub last-back :
      drop at F ≡ header_with e cid ptype true len ++ rest
      → header_at F at ≡ Ok (Some (record { cid = cid; ptype = ptype; start = at + (1 + e + 0); len = length rest; last = true }))
  last-back stands =
      let free : 4 ≤ cid = enough.free in
      let four_bits : ptype ≤ 15 = enough.four_bits in
      let o : ℕ = e * 128 + 0 * 64 + cid % 64 in
      let a : ℕ = cid / 64 * 64 + ptype in
      let cid-is : cid_of o a ≡ cid = omega arith in
      let type-is : payload_type a ≡ ptype = omega arith in
      let ei-is : ei o ≡ e = ei-back e cid ptype len rest enough.bit true in
      let li-is : li o ≡ 0 = li-back e cid ptype len rest enough.bit true in
      let start_is : at + size o ≡ at + (1 + e + 0) = omega arith in
      let len_is : (1 + e + 0 + length rest) - size o ≡ length rest = omega arith in
      told_back true stands
      ∙ cases.last_one at o a _ (1 + e + 0 + length rest) (omega arith) (omega arith) (1a-clear cid ptype four_bits) li-is
      ∙ rw (cid-is, type-is, start_is, len_is)

  pub more-back :
      len < length rest
      → drop at F ≡ header_with e cid ptype false len ++ rest
      → header_at F at ≡ Ok (Some (record { cid = cid; ptype = ptype; start = at + (1 + e + 1); len = len; last = false }))
  more-back less stands =
      let free : 4 ≤ cid = enough.free in
      let four_bits : ptype ≤ 15 = enough.four_bits in
      let o : ℕ = e * 128 + 1 * 64 + cid % 64 in
      let a : ℕ = cid / 64 * 64 + ptype in
      let n : ℕ = 1 + e + 1 + length rest in
      let len_is : octet1b (header_with e cid ptype false len ++ rest) ≡ len = 1b-back e cid ptype len rest enough.bit in
      let cid-is : cid_of o a ≡ cid = omega arith in
      let type-is : payload_type a ≡ ptype = omega arith in
      let ei-is : ei o ≡ e = ei-back e cid ptype len rest enough.bit false in
      let li-is : li o ≡ 1 = li-back e cid ptype len rest enough.bit false in
      let start_is : at + size o ≡ at + (1 + e + 1) = omega arith in
      told_back false stands
      ∙ ap (λ (x : ℕ). told at o a x n) len_is
      ∙ cases.another at o a len n (omega arith) (omega arith) (1a-clear cid ptype four_bits) (λ z. omega arith) (omega arith) (λ z. omega arith)
      ∙ rw (cid-is, type-is, start_is)
