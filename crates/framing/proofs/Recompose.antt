-- A header that was read is made up again of what it told: the octets from its place on are a header with its EI, the
-- payload and what follows.
use Prim.Native.Nat.{ℕ, ◌+◌, ◌-◌, ◌*◌, ◌/◌, ◌%◌, ◌<◌, ◌≤◌}
use mathlib.Core.Path.{◌≡◌, refl, sym, ap, ap₂, subst, ◌∙◌}
use mathlib.Core.List.{List, [], ◌∷◌, ◌++◌}
use mathlib.Core.Bool.{true, false, cond}
use mathlib.Core.Logic.{◌⊎◌, inl, inr, ⊎_elim}
use native.Mathlib.Nat.{add-zero}
use native.Mathlib.Omega.{arith}
use borrow.Author.Tests.{eq-eqb, ne_eqb}
use lib.Dec.{T, eqb}
use lib.ListN.{length, get_or, take, drop, length-drop, take-append-drop}
use lib.Seq.{drop-drop, get_or-drop}
use Rattle.octets.proofs.Order.{eq-or-ne}
use Rattle.header.specs.declared.SubFrame.{SubFrame}
use Rattle.std.specs.declared.result.Result.TheVariants.{Ok}
use Rattle.std.specs.declared.option.Option.TheVariants.{Some}
use Rattle.header.specs.Header.{ei, li, spare, payload_type, size, octet1, octet1a, octet1b, cid_of, header_at, end_of}
use Rattle.joining.specs.Joining.{ei_for, header_with}
use Rattle.joining.proofs.HeaderWritten.{ei-out}
use Rattle.header.proofs.HeaderInverse as inverse
use Rattle.octets.specs.Octets.{Octets}

-- the first one to three octets of a list, one by one
heads :
    (f : List ℕ) (e m : ℕ)
    → (e ≡ 0) ⊎ (e ≡ 1)
    → (m ≡ 0) ⊎ (m ≡ 1)
    → 1 + e + m ≤ length f
    → take (1 + e + m) f
    ≡ get_or f 0 0 ∷ (cond (eqb e 0) [] (get_or f 1 0 ∷ []) ++ cond (eqb m 0) [] (get_or f (e + m) 0 ∷ []))
heads [] e m p q h = absurd (omega arith)
heads (x ∷ []) e m p q h =
    let e0 : e ≡ 0 = omega arith in
    let m0 : m ≡ 0 = omega arith in
    rw (e0, m0)
heads (x ∷ y ∷ []) e m p q h =
    ⊎_elim (λ (e0 : e ≡ 0). ⊎_elim (λ (m0 : m ≡ 0). rw (e0, m0)) (λ (m1 : m ≡ 1). rw (e0, m1)) q)
    (λ (e1 : e ≡ 1). ⊎_elim (λ (m0 : m ≡ 0). rw (e1, m0)) (λ (m1 : m ≡ 1). absurd (omega arith)) q)
    p
heads (x ∷ y ∷ z ∷ f) e m p q h =
    ⊎_elim (λ (e0 : e ≡ 0). ⊎_elim (λ (m0 : m ≡ 0). rw (e0, m0)) (λ (m1 : m ≡ 1). rw (e0, m1)) q)
    (λ (e1 : e ≡ 1). ⊎_elim (λ (m0 : m ≡ 0). rw (e1, m0)) (λ (m1 : m ≡ 1). rw (e1, m1)) q)
    p

-- an octet that is there only under EI is compared only there
where-set : (e x y : ℕ) → ((e ≡ 0 → ⊥) → x ≡ y) → cond (eqb e 0) [] (x ∷ []) ≡ cond (eqb e 0) [] (y ∷ [])
where-set e x y same =
    ⊎_elim (λ none. rw none) (λ set. simp (ne_eqb e 0 set) (ap (λ (k : ℕ). k ∷ []) (same set))) (eq-or-ne e 0)

-- a place and a length part a list
parts : (s : List ℕ) (start len : ℕ) → drop start s ≡ take len (drop start s) ++ drop (start + len) s
parts s start len = sym (take-append-drop len (drop start s)) ∙ ap (λ (l : List ℕ). take len (drop start s) ++ l) (drop-drop len start s)

-- octet 1 and octet 1a, made up of their fields
first-octet : (o a : ℕ) → o < 256 → o ≡ ei o * 128 + li o * 64 + cid_of o a % 64
first-octet o a octet = omega arith

second-octet : (o a : ℕ) → spare a ≡ 0 → a ≡ cid_of o a / 64 * 64 + payload_type a
second-octet o a clear = omega arith

bit-of : (n : ℕ) → n < 2 → (n ≡ 0) ⊎ (n ≡ 1)
bit-of n less = ⊎_elim (λ z. inl z) (λ nz. inr (omega arith)) (eq-or-ne n 0)

module _ (s : List ℕ) (octets : Octets s) (at : ℕ) (sub : SubFrame) (read : header_at s at ≡ Ok (Some sub)) where
  abbrev f : List ℕ
  f = drop at s

  abbrev o : ℕ
  o = octet1 f

  abbrev a : ℕ
  a = octet1a f

  octet : (i : ℕ) → get_or f i 0 < 256
  octet i = rw (get_or-drop at s i 0) (octets (at + i))

  pub first_is : o ≡ get_or s at 0
  first_is = get_or-drop at s 0 0 ∙ ap (λ (k : ℕ). get_or s k 0) (add-zero at)

  pub ei-bit : (ei o ≡ 0) ⊎ (ei o ≡ 1)
  ei-bit = bit-of (ei o) (omega (arith, octet 0))

  -- the octets of the header
  header-part :
      size o ≤ length f
      → spare a ≡ 0
      → take (size o) f
      ≡ (ei o * 128 + li o * 64 + cid_of o a % 64)
      ∷ (cond (eqb (ei o) 0) [] ((cid_of o a / 64 * 64 + payload_type a) ∷ []) ++ cond (eqb (li o) 0) [] (octet1b f ∷ []))
  header-part whole clear =
      let ext : (ei o ≡ 0 → ⊥) → get_or f 1 0 ≡ cid_of o a / 64 * 64 + payload_type a =
      λ set. sym (simp (ne_eqb (ei o) 0 set)) ∙ second-octet o a clear
      in
      heads f (ei o) (li o) ei-bit (bit-of (li o) (omega arith)) whole
      ∙ ap₂ (λ (x : ℕ) (l : List ℕ). x ∷ (l ++ cond (eqb (li o) 0) [] (octet1b f ∷ []))) (first-octet o a (octet 0))
      (where-set (ei o) (get_or f 1 0) (cid_of o a / 64 * 64 + payload_type a) ext)

  made_up : (header : List ℕ) (len : ℕ) → take (size o) f ≡ header → drop at s ≡ header ++ (take len (drop (at + size o) s) ++ drop (at + size o + len) s)
  made_up header len is =
      sym (take-append-drop (size o) f)
      ∙ ap₂ (λ (x y : List ℕ). x ++ y) is (drop-drop (size o) at s ∙ parts s (at + size o) len)

  li-set : (li o ≡ 0 → ⊥) → li o ≡ 1
  li-set set = ⊎_elim (λ none. absurd (set none)) (λ one. one) (bit-of (li o) (omega arith))

  pub recompose :
      drop at s
      ≡ header_with (ei o) sub.cid sub.ptype sub.last sub.len
      ++ (take sub.len (drop sub.start s) ++ drop (end_of sub) s)
  recompose =
      let told = inverse.read-inverse s at sub read in
      let P : SubFrame → Type 0 =
      λ x. drop at s ≡ header_with (ei o) x.cid x.ptype x.last x.len ++ (take x.len (drop x.start s) ++ drop (end_of x) s)
      in
      ⊎_elim
      (λ w.
      subst P w.1
      (made_up (header_with (ei o) (cid_of o a) (payload_type a) true (length f - size o)) (length f - size o)
      (header-part told.whole told.clear ∙ rw w.0)))
      (λ w.
      subst P w.2
      (made_up (header_with (ei o) (cid_of o a) (payload_type a) false (octet1b f)) (octet1b f)
      (header-part told.whole told.clear ∙ rw (li-set w.0))))
      told.is

  -- the fields of the sub-frame, whichever case told them
  told-cid : (sub.cid ≡ cid_of o a) × (sub.ptype ≡ payload_type a)
  told-cid =
      let told = inverse.read-inverse s at sub read in
      ⊎_elim (λ w. (ap (λ (x : SubFrame). x.cid) (sym w.1), ap (λ (x : SubFrame). x.ptype) (sym w.1)))
      (λ w. (ap (λ (x : SubFrame). x.cid) (sym w.2), ap (λ (x : SubFrame). x.ptype) (sym w.2)))
      told.is

  pub cid-free : 4 ≤ sub.cid
  cid-free = rw told-cid.0 (inverse.read-inverse s at sub read).free

  a-octet : a < 256
  a-octet =
      ⊎_elim (λ none. simp (eq-eqb (ei o) 0 none) (omega arith)) (λ set. simp (ne_eqb (ei o) 0 set) (octet 1)) (eq-or-ne (ei o) 0)

  pub cid-small : sub.cid ≤ 255
  cid-small = rw told-cid.0 (omega (arith, a-octet))

  pub type-small : sub.ptype ≤ 15
  type-small = rw told-cid.1 (omega arith)

  -- an EI of 0 leaves no need of octet 1a
  pub ei-needed : ei o ≡ 0 → ei_for sub.cid sub.ptype ≡ 0
  ei-needed none =
      let zero-1a : a ≡ 0 = simp (eq-eqb (ei o) 0 none) in
      ei-out sub.cid sub.ptype (rw (told-cid.0, told-cid.1, zero-1a) (omega arith))

  -- the last payload is all that remains; any other ends before the field does, and its length is an octet
  differ : {A : Type 0} (x y : SubFrame) → x ≡ y → x.last ≡ true → y.last ≡ false → A
  differ x y e t n = let z : true ≡ false = cc in absurd (subst T z tt)

  pub last-ends : sub.last ≡ true → end_of sub ≡ length s
  last-ends last =
      let told = inverse.read-inverse s at sub read in
      let inside : at < length s = inverse.here s at sub read in
      let whole : size o ≤ length s - at = rw length-drop at told.whole in
      ⊎_elim (λ w. omega (arith, simp length-drop at (ap end_of w.1))) (λ w. differ _ _ (sym w.2) last refl) told.is

  pub more-on : sub.last ≡ false → end_of sub < length s
  more-on more =
      let told = inverse.read-inverse s at sub read in
      let inside : at < length s = inverse.here s at sub read in
      let whole : size o ≤ length s - at = rw length-drop at told.whole in
      ⊎_elim (λ w. differ _ _ w.1 refl more) (λ w. omega (arith, simp length-drop at w.1, ap end_of w.2)) told.is

  pub more-short : sub.last ≡ false → sub.len ≤ 255
  more-short more =
      let told = inverse.read-inverse s at sub read in
      ⊎_elim (λ w. differ _ _ w.1 refl more)
      (λ w. omega (arith, octet (ei o + li o), ap (λ (x : SubFrame). x.len) w.2))
      told.is
