-- What `told` gives in each of its cases, and `header_at` of it.
use Prim.Native.Nat.{ℕ, ◌+◌, ◌-◌, ◌<◌, ◌≤◌}
use mathlib.Core.Path.{◌≡◌, refl}
use mathlib.Core.List.{List}
use mathlib.Core.Bool.{Bool, true, false, cond}
use native.Mathlib.Omega.{arith}
use borrow.Author.Tests.{lt-ltb, le-ltb, eq-eqb, ne_eqb}
use lib.Dec.{ltb}
use lib.ListN.{length, drop}
use Rattle.std.proofs.lemmas.Bool.{ltb-false}
use Rattle.std.specs.declared.result.Result.{Result}
use Rattle.std.specs.declared.result.Result.TheVariants.{Ok, Err}
use Rattle.std.specs.declared.option.Option.TheVariants.{Some, None}
use Rattle.refusal.specs.declared.Refusal.{Refusal}
use Rattle.refusal.specs.declared.Refusal.TheVariants.{HeaderCut, CidReserved, SpareBitSet, LengthPastField, LastWithLength}
use Rattle.header.specs.declared.SubFrame.{SubFrame}
use Rattle.header.specs.Header.{li, spare, payload_type, size, octet1, octet1a, octet1b, cid_of, told, header_at}
use Rattle.header.specs.Private.{unless_reserved}
use Rattle.std.specs.declared.option.Option.{Option}

-- past the test for a reserved CID and a spare bit
pub record Free (cid a : ℕ) : Type 0 where
  pub free : 4 ≤ cid
  pub clear : spare a ≡ 0

pub passes : (a : ℕ) (x y : SubFrame) → unless_reserved a x ≡ Ok y → Free x.cid a × (y ≡ x)
passes a x y e = go (ltb x.cid 4) (ltb 0 (spare a)) refl refl e
  where
    go :
        (t u : Bool)
        → ltb x.cid 4 ≡ t
        → ltb 0 (spare a) ≡ u
        → ◌≡◌ {A = Result SubFrame Refusal} (cond t (Err CidReserved) (cond u (Err SpareBitSet) (Ok x))) (Ok y)
        → Free x.cid a × (y ≡ x)
    go true u p q h = cc
    go false true p q h = cc
    go false false p q h = (record { free = omega (arith, ltb-false x.cid 4 p); clear = omega (arith, ltb-false 0 (spare a) q) }, cc)

module _ (at o a b n : ℕ) where
  pub cut : n < size o → told at o a b n ≡ Err HeaderCut
  unfolding told
  cut h = simp (lt-ltb n (size o) h)

  module _ (whole : size o ≤ n) where
    -- what refuses a sub-frame for its CID or a spare bit refuses the header
    pub refuses : (r : Refusal) (x : SubFrame) → x.cid ≡ cid_of o a → unless_reserved a x ≡ Err r → told at o a b n ≡ Err r
    unfolding told
    refuses r x same e = rw (le-ltb n (size o) whole, ← same) (go _ (ltb x.cid 4) (ltb 0 (spare a)) e)
      where
        go :
            (h : Result (Option SubFrame) Refusal) (t u : Bool)
            → ◌≡◌ {A = Result SubFrame Refusal} (cond t (Err CidReserved) (cond u (Err SpareBitSet) (Ok x))) (Err r)
            → cond t (Err CidReserved) (cond u (Err SpareBitSet) h) ≡ Err r
        go h true u p = cc
        go h false true p = cc
        go h false false p = cc

    pub reserved : cid_of o a < 4 → told at o a b n ≡ Err CidReserved
    unfolding told
    reserved h = simp (le-ltb n (size o) whole, lt-ltb (cid_of o a) 4 h)

    module _ (free : 4 ≤ cid_of o a) where
      pub spare-set : (spare a ≡ 0 → ⊥) → told at o a b n ≡ Err SpareBitSet
      unfolding told
      spare-set h =
          let set : 0 < spare a = omega (arith, h) in
          simp (le-ltb n (size o) whole, le-ltb (cid_of o a) 4 free, lt-ltb 0 (spare a) set)

      module _ (clear : spare a ≡ 0) where
        none-set : ltb 0 (spare a) ≡ false
        none-set = le-ltb 0 (spare a) (omega arith)

        pub last_one :
            li o ≡ 0
            → told at o a b n ≡ Ok (Some (record { cid = cid_of o a; ptype = payload_type a; start = at + size o; len = n - size o; last = true }))
        unfolding told
        last_one h = simp (le-ltb n (size o) whole, le-ltb (cid_of o a) 4 free, none-set, eq-eqb (li o) 0 h)

        module _ (more : li o ≡ 0 → ⊥) where
          pub past : n - size o < b → told at o a b n ≡ Err LengthPastField
          unfolding told
          past h =
              simp (
                le-ltb n (size o) whole,
                le-ltb (cid_of o a) 4 free,
                none-set,
                ne_eqb (li o) 0 more,
                lt-ltb (n - size o) b h,
              )

          module _ (within : b ≤ n - size o) where
            pub ends : n - size o ≡ b → told at o a b n ≡ Err LastWithLength
            unfolding told
            ends h =
                simp (
                  le-ltb n (size o) whole,
                  le-ltb (cid_of o a) 4 free,
                  none-set,
                  ne_eqb (li o) 0 more,
                  le-ltb (n - size o) b within,
                  eq-eqb (n - size o) b h,
                )

            pub another :
                (n - size o ≡ b → ⊥)
                → told at o a b n ≡ Ok (Some (record { cid = cid_of o a; ptype = payload_type a; start = at + size o; len = b; last = false }))
            unfolding told
            another h =
                simp (
                  le-ltb n (size o) whole,
                  le-ltb (cid_of o a) 4 free,
                  none-set,
                  ne_eqb (li o) 0 more,
                  le-ltb (n - size o) b within,
                  ne_eqb (n - size o) b h,
                )

module _ (s : List ℕ) (at : ℕ) where
  pub nothing : length s ≤ at → header_at s at ≡ Ok None
  unfolding header_at
  nothing h = simp (le-ltb at (length s) h)

  pub there :
      at < length s
      → header_at s at ≡ told at (octet1 (drop at s)) (octet1a (drop at s)) (octet1b (drop at s)) (length (drop at s))
  unfolding header_at
  there here = simp (lt-ltb at (length s) here)
