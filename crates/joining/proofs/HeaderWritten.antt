-- A header in its shortest form: which octets it has, how many, and what stands in the room once they are stored.
use Prim.Native.Nat.{ℕ, ◌+◌, ◌-◌, ◌*◌, ◌/◌, ◌%◌, ◌<◌, ◌≤◌}
use mathlib.Core.Path.{◌≡◌, sym, ap, ◌∙◌}
use mathlib.Core.List.{List, [], ◌∷◌}
use mathlib.Core.Bool.{Bool, true, false}
use mathlib.Core.Logic.{◌⊎◌, inl, inr, ⊎_elim}
use native.Mathlib.Nat.{zero-add}
use native.Mathlib.Omega.{arith}
use borrow.Author.Tests.{lt-ltb, le-ltb, eq-eqb, ne_eqb}
use lib.ListN.{length}
use lib.Seq.{sets, sets-eq}
use Rattle.octets.proofs.Order.{lt-or-le, eq-or-ne}
use Rattle.octets.specs.Room.{left_by}
use Rattle.joining.specs.Joining.{ei_for, li_for, header_with, shortest_header, header_size, header_put}
use Rattle.refusal.specs.declared.Refusal.TheVariants.{CidReserved, ValueOutOfRange, RoomTooSmall}
use Rattle.std.specs.declared.result.Result.TheVariants.{Ok, Err}

module _ (cid ptype : ℕ) where
  -- EI is left out where octet 1a would be 0, and set otherwise
  pub ei-out : cid / 64 * 64 + ptype ≡ 0 → ei_for cid ptype ≡ 0
  ei-out e =
      let low : cid ≤ 63 = omega arith in
      let none : ptype ≡ 0 = omega arith in
      simp (le-ltb 63 cid low, eq-eqb ptype 0 none)

  pub ei-set : (cid / 64 * 64 + ptype ≡ 0 → ⊥) → ei_for cid ptype ≡ 1
  ei-set ne =
      ⊎_elim (λ high. simp (lt-ltb 63 cid high))
      (λ low. simp (le-ltb 63 cid low, ne_eqb ptype 0 (λ e. ne (omega arith))))
      (lt-or-le 63 cid)

  pub ei-one-of : (ei_for cid ptype ≡ 0) ⊎ (ei_for cid ptype ≡ 1)
  ei-one-of = ⊎_elim (λ e. inl (ei-out e)) (λ ne. inr (ei-set ne)) (eq-or-ne (cid / 64 * 64 + ptype) 0)

-- the four shapes of a header
module _ (cid ptype : ℕ) (last : Bool) (len : ℕ) where
  pub alone : cid / 64 * 64 + ptype ≡ 0 → last ≡ true → shortest_header cid ptype last len ≡ cid % 64 ∷ []
  unfolding shortest_header
  alone e l = simp (ei-out cid ptype e, l, zero-add)

  pub with-1b : cid / 64 * 64 + ptype ≡ 0 → last ≡ false → shortest_header cid ptype last len ≡ (64 + cid % 64) ∷ len ∷ []
  unfolding shortest_header
  with-1b e l = simp (ei-out cid ptype e, l)

  pub with-1a :
      (cid / 64 * 64 + ptype ≡ 0 → ⊥) → last ≡ true → shortest_header cid ptype last len ≡ (128 + cid % 64) ∷ (cid / 64 * 64 + ptype) ∷ []
  unfolding shortest_header
  with-1a ne l = simp (ei-set cid ptype ne, l)

  pub with-both :
      (cid / 64 * 64 + ptype ≡ 0 → ⊥)
      → last ≡ false
      → shortest_header cid ptype last len ≡ (192 + cid % 64) ∷ (cid / 64 * 64 + ptype) ∷ len ∷ []
  unfolding shortest_header
  with-both ne l = simp (ei-set cid ptype ne, l)

pub with_size : (ei cid ptype : ℕ) (last : Bool) (len : ℕ) → (ei ≡ 0) ⊎ (ei ≡ 1) → length (header_with ei cid ptype last len) ≡ 1 + ei + li_for last
with_size ei cid ptype true len w = ⊎_elim (λ e. rw e) (λ e. rw e) w
with_size ei cid ptype false len w = ⊎_elim (λ e. rw e) (λ e. rw e) w

pub size_is : (cid ptype : ℕ) (last : Bool) (len : ℕ) → length (shortest_header cid ptype last len) ≡ header_size cid ptype last
unfolding shortest_header header_size
size_is cid ptype last len = with_size (ei_for cid ptype) cid ptype last len (ei-one-of cid ptype)

module _ (left at cid ptype : ℕ) (last : Bool) where
  pub reserved : cid < 4 → Err CidReserved ≡ header_put left at cid ptype last
  unfolding header_put
  reserved h = simp (lt-ltb cid 4 h)

  module _ (free : 4 ≤ cid) where
    pub beyond : 15 < ptype → Err ValueOutOfRange ≡ header_put left at cid ptype last
    unfolding header_put
    beyond h = simp (le-ltb cid 4 free, lt-ltb 15 ptype h)

    module _ (four_bits : ptype ≤ 15) where
      pub small : left < header_size cid ptype last → Err RoomTooSmall ≡ header_put left at cid ptype last
      unfolding header_put
      small h = simp (le-ltb cid 4 free, le-ltb 15 ptype four_bits, lt-ltb left (header_size cid ptype last) h)

      pub taken : header_size cid ptype last ≤ left → Ok (at + header_size cid ptype last) ≡ header_put left at cid ptype last
      unfolding header_put
      taken h = simp (le-ltb cid 4 free, le-ltb 15 ptype four_bits, le-ltb left (header_size cid ptype last) h)

-- there is always octet 1
pub some-room : (cid ptype : ℕ) (last : Bool) → 1 ≤ header_size cid ptype last
unfolding header_size
some-room cid ptype last = omega arith

-- what holds once all tests are passed, of a header that is these octets
pub record Stored (room octets : List ℕ) (at cid ptype : ℕ) (last : Bool) (len : ℕ) : Type 0 where
  pub within : at + length octets ≤ length room
  pub answer : Ok (at + length octets) ≡ header_put (length room - at) at cid ptype last
  pub holds : sets room at octets ≡ left_by (Ok (at + length octets)) room at (shortest_header cid ptype last len)

module _ (room : List ℕ) (at cid ptype : ℕ) (last : Bool) (len : ℕ) (free : 4 ≤ cid) (four_bits : ptype ≤ 15)
    (here : at ≤ length room) (fits : header_size cid ptype last ≤ length room - at) where
  pub stored : (octets : List ℕ) → shortest_header cid ptype last len ≡ octets → Stored room octets at cid ptype last len
  stored octets is =
      let size : header_size cid ptype last ≡ length octets = sym (size_is cid ptype last len) ∙ ap length is in
      let inside : at + length octets ≤ length room = omega arith in
      record {
        within = inside;
        answer = rw (← size) (taken (length room - at) at cid ptype last free four_bits fits);
        holds = rw is (sets-eq octets room at inside);
      }
