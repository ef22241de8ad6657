-- A header by the octets that the code reads: octet 1 and 1a, and the place behind them.
use Prim.Native.Nat.{ℕ, ◌+◌, ◌-◌, ◌%◌, ◌<◌, ◌≤◌}
use mathlib.Core.Path.{◌≡◌, refl, sym, ap, subst, ◌∙◌}
use mathlib.Core.List.{List}
use mathlib.Core.Bool.{true, false, cond}
use native.Mathlib.Nat.{add-zero}
use native.Mathlib.Omega.{arith}
use borrow.Author.Tests.{lt-ltb, le-ltb, eq-eqb, ne_eqb}
use lib.Dec.{eqb}
use lib.ListN.{length, get_or, drop, length-drop}
use lib.Seq.{get_or-drop}
use Rattle.header.specs.declared.SubFrame.{SubFrame}
use Rattle.std.specs.declared.result.Result.TheVariants.{Ok, Err}
use Rattle.std.specs.declared.option.Option.TheVariants.{Some}
use Rattle.refusal.specs.declared.Refusal.{Refusal}
use Rattle.refusal.specs.declared.Refusal.TheVariants.{HeaderCut, LengthPastField, LastWithLength}
use Rattle.header.specs.Header.{ei, li, payload_type, size, octet1, cid_of, sub_of, told, header_at, unused, sub_at}
use Rattle.header.specs.Private.{unless_reserved}
use Rattle.header.proofs.HeaderCases as cases

-- What was read of the header at `at`: a is octet 1a, 0 without it, and what is behind these octets begins at `next`.
pub record Way (s : List ℕ) (at a next : ℕ) : Type 0 where
  pub extension : a ≡ cond (eqb (ei (get_or s at 0)) 0) 0 (get_or s (at + 1) 0)
  pub behind : next ≡ at + 1 + ei (get_or s at 0)

module _ (s : List ℕ) (at : ℕ) where
  pub without-1a : {a next : ℕ} → get_or s at 0 ≤ 127 → a ≡ 0 → next ≡ at + 1 → Way s at a next
  without-1a low none behind =
      let short : ei (get_or s at 0) ≡ 0 = omega arith in
      record { extension = none ∙ rw short; behind = omega arith }

  pub with-1a : {a next : ℕ} → 127 < get_or s at 0 → get_or s at 0 < 256 → a ≡ get_or s (at + 1) 0 → next ≡ at + 2 → Way s at a next
  with-1a high octet there behind =
      let long : ei (get_or s at 0) ≡ 1 = omega arith in
      record { extension = there ∙ rw long; behind = omega arith }

  -- the frame has no octet there
  pub none-there : length s ≤ at → unused ≡ sub_at s at
  unfolding sub_at
  none-there h = simp (le-ltb at (length s) h)

  -- octet 1a is missing
  pub no-1a : 127 < get_or s at 0 → at < length s → length s ≤ at + 1 → Err HeaderCut ≡ header_at s at
  no-1a high here short = sym (cases.there s at here ∙ cases.cut _ _ _ _ _ (simp (get_or-drop, length-drop, add-zero) (omega arith)))

-- the CID that these octets tell
pub record Begun (s : List ℕ) (at a next cid : ℕ) : Type 0 where
  pub here : at < length s
  pub way : Way s at a next
  pub cid-is : cid ≡ cid_of (get_or s at 0) a

module _ {s : List ℕ} {at a next cid : ℕ} (r : Begun s at a next cid) where
  abbrev o : ℕ
  o = get_or s at 0

  abbrev b : ℕ
  b = get_or s (at + (ei o + li o)) 0

  abbrev n : ℕ
  n = length s - at

  first : octet1 (drop at s) ≡ o
  first = get_or-drop at s 0 0 ∙ ap (λ (k : ℕ). get_or s k 0) (add-zero at)

  told_is : header_at s at ≡ told at o a b n
  told_is = cases.there s at r.here ∙ simp (first, get_or-drop, length-drop, ← r.way.extension)

  sub_is : sub_at s at ≡ sub_of at o a b n
  unfolding sub_at
  sub_is = simp (lt-ltb at (length s) r.here, first, get_or-drop, length-drop, ← r.way.extension)

  one : (li o ≡ 0 → ⊥) → li o ≡ 1
  one more = let few : li o < 2 = omega arith in omega (arith, few, more)

  -- octet 1b stands behind them
  length-octet : li o ≡ 1 → b ≡ get_or s next 0
  length-octet set = ap (λ (k : ℕ). get_or s k 0) (omega (arith, r.way.behind))

  -- the sub-frame, where LI is 0 and where it is 1
  abbrev final-sub : SubFrame
  final-sub = record { cid = cid; ptype = a % 16; start = next; len = length s - next; last = true }

  abbrev more-sub : SubFrame
  more-sub = record { cid = cid; ptype = a % 16; start = next + 1; len = get_or s next 0; last = false }

  final-is : li o ≡ 0 → final-sub ≡ record { cid = cid_of o a; ptype = payload_type a; start = at + size o; len = n - size o; last = true }
  final-is final =
      let start_is : next ≡ at + size o = omega (arith, r.way.behind) in
      let len_is : length s - next ≡ n - size o = omega (arith, r.way.behind) in
      rw (r.cid-is, len_is, start_is)

  more-is : (li o ≡ 0 → ⊥) → more-sub ≡ record { cid = cid_of o a; ptype = payload_type a; start = at + size o; len = b; last = false }
  more-is more =
      let start_is : next + 1 ≡ at + size o = omega (arith, r.way.behind, one more) in
      rw (r.cid-is, start_is, length-octet (one more))

  -- what `sub_at` answers
  pub at_last :
      {len : ℕ}
      → li o ≡ 0
      → len ≡ length s - next
      → ◌≡◌ {A = SubFrame} (record { cid = cid; ptype = a % 16; start = next; len = len; last = true }) (sub_at s at)
  at_last final len_is = rw len_is (final-is final ∙ sym (sub_is ∙ simp (eq-eqb (li o) 0 final)))

  pub at_more :
      {len : ℕ}
      → (li o ≡ 0 → ⊥)
      → len ≡ get_or s next 0
      → ◌≡◌ {A = SubFrame} (record { cid = cid; ptype = a % 16; start = next + 1; len = len; last = false }) (sub_at s at)
  at_more more len_is = rw len_is (more-is more ∙ sym (sub_is ∙ simp (ne_eqb (li o) 0 more)))

  -- what `header_at` answers
  pub cut : (li o ≡ 0 → ⊥) → length s - next ≡ 0 → Err HeaderCut ≡ header_at s at
  cut more none = sym (told_is ∙ cases.cut at o a b n (omega (arith, r.way.behind, one more)))

  last-whole : next ≤ length s → li o ≡ 0 → size o ≤ n
  last-whole within final = omega (arith, r.way.behind, r.here)

  refuses : size o ≤ n → (refusal : Refusal) (x : SubFrame) → x.cid ≡ cid → unless_reserved a x ≡ Err refusal → Err refusal ≡ header_at s at
  refuses whole refusal x same e = sym (told_is ∙ cases.refuses at o a b n whole refusal x (same ∙ r.cid-is) e)

  passes : (x y : SubFrame) → x.cid ≡ cid → unless_reserved a x ≡ Ok y → cases.Free (cid_of o a) a × (y ≡ x)
  passes x y same e =
      let p = cases.passes a x y e in
      (subst (λ (k : ℕ). cases.Free k a) (same ∙ r.cid-is) p.0, p.1)

  pub last-refused :
      next ≤ length s → li o ≡ 0 → (refusal : Refusal) → unless_reserved a final-sub ≡ Err refusal → Err refusal ≡ header_at s at
  last-refused within final refusal = refuses (last-whole within final) refusal final-sub refl

  pub last_one : next ≤ length s → li o ≡ 0 → (sub : SubFrame) → unless_reserved a final-sub ≡ Ok sub → Ok (Some sub) ≡ header_at s at
  last_one within final sub e =
      let p = passes final-sub sub refl e in
      rw (p.1, final-is final) (sym (told_is ∙ cases.last_one at o a b n (last-whole within final) p.0.free p.0.clear final))

  module _ (more : li o ≡ 0 → ⊥) (some : length s - next ≡ 0 → ⊥) where
    whole : size o ≤ n
    whole = omega (arith, r.way.behind, r.here, one more, some)

    abbrev len : ℕ
    len = get_or s next 0

    is : b ≡ len
    is = length-octet (one more)

    rest-is : n - size o ≡ length s - next - 1
    rest-is = omega (arith, r.way.behind, one more)

    pub more-refused : (refusal : Refusal) → unless_reserved a more-sub ≡ Err refusal → Err refusal ≡ header_at s at
    more-refused refusal = refuses whole refusal more-sub refl

    module _ (sub : SubFrame) (e : unless_reserved a more-sub ≡ Ok sub) where
      pub past : length s - next - 1 < len → Err LengthPastField ≡ header_at s at
      past h =
          let f = (passes more-sub sub refl e).0 in
          sym (told_is ∙ cases.past at o a b n whole f.free f.clear more (omega (arith, is, rest-is)))

      pub ends : len ≤ length s - next - 1 → length s - next - 1 ≤ len → Err LastWithLength ≡ header_at s at
      ends h g =
          let f = (passes more-sub sub refl e).0 in
          sym (told_is ∙ cases.ends at o a b n whole f.free f.clear more (omega (arith, is, rest-is)) (omega (arith, is, rest-is)))

      pub another : len < length s - next - 1 → Ok (Some sub) ≡ header_at s at
      another h =
          let p = passes more-sub sub refl e in
          rw (p.1, more-is more)
          (sym (told_is ∙ cases.another at o a b n whole p.0.free p.0.clear more (omega (arith, is, rest-is)) (λ z. omega (arith, is, rest-is, z))))
