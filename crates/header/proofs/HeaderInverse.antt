-- What holds of a header that was read, from the sub-frame that it told.
use Prim.Native.Nat.{ℕ, ◌+◌, ◌-◌, ◌<◌, ◌≤◌}
use mathlib.Core.Path.{◌≡◌, refl, sym, ap, subst, ◌∙◌}
use mathlib.Core.List.{List}
use mathlib.Core.Bool.{true, false}
use mathlib.Core.Logic.{◌⊎◌, inl, inr, ⊎_elim}
use native.Mathlib.Omega.{arith}
use borrow.Author.Tests.{lt-ltb, eq-eqb, ne_eqb}
use lib.ListN.{length, drop, length-drop}
use Rattle.octets.proofs.Order.{lt-or-le, eq-or-ne}
use Rattle.std.specs.declared.result.Result.TheVariants.{Ok, Err}
use Rattle.std.specs.declared.option.Option.TheVariants.{Some}
use Rattle.refusal.specs.declared.Refusal.{Refusal}
use Rattle.header.specs.declared.SubFrame.{SubFrame}
use Rattle.header.specs.Header.{li, spare, payload_type, size, octet1, octet1a, octet1b, cid_of, told, header_at, sub_at, SubAtTells, end_of}
use Rattle.header.proofs.HeaderCases as cases
use Rattle.std.specs.declared.result.Result.{Result}
use Rattle.std.specs.declared.option.Option.{Option}

pub record Told (at o a b n : ℕ) (sub : SubFrame) : Type 0 where
  pub whole : size o ≤ n
  pub free : 4 ≤ cid_of o a
  pub clear : spare a ≡ 0
  pub is :
      ((li o ≡ 0)
      × (record { cid = cid_of o a; ptype = payload_type a; start = at + size o; len = n - size o; last = true } ≡ sub))
      ⊎ ((li o ≡ 0 → ⊥)
      × (b < n - size o)
      × (record { cid = cid_of o a; ptype = payload_type a; start = at + size o; len = b; last = false } ≡ sub))

abbrev pub IsRefused : Result (Option SubFrame) Refusal → Type 0
IsRefused h = (refusal : Refusal) × (h ≡ Err refusal)

-- a header is refused, or tells a sub-frame
pub decided : (at o a b n : ℕ) → IsRefused (told at o a b n) ⊎ ((sub : SubFrame) × (told at o a b n ≡ Ok (Some sub)) × Told at o a b n sub)
decided at o a b n =
    ⊎_elim
    (λ short. inl (_, cases.cut at o a b n short))
    (λ whole.
    ⊎_elim
    (λ small. inl (_, cases.reserved at o a b n whole small))
    (λ free.
    ⊎_elim
    (λ clear.
    ⊎_elim
    (λ final.
    let e = cases.last_one at o a b n whole free clear final in
    inr (_, e, record { whole = whole; free = free; clear = clear; is = inl (final, refl) }))
    (λ more.
    ⊎_elim
    (λ past. inl (_, cases.past at o a b n whole free clear more past))
    (λ within.
    ⊎_elim
    (λ ends. inl (_, cases.ends at o a b n whole free clear more within ends))
    (λ goes.
    let e = cases.another at o a b n whole free clear more within goes in
    inr (_, e, record { whole = whole; free = free; clear = clear; is = inr (more, omega arith, refl) }))
    (eq-or-ne (n - size o) b))
    (lt-or-le (n - size o) b))
    (eq-or-ne (li o) 0))
    (λ set. inl (_, cases.spare-set at o a b n whole free set))
    (eq-or-ne (spare a) 0))
    (lt-or-le (cid_of o a) 4))
    (lt-or-le n (size o))

told-inverse : (at o a b n : ℕ) (sub : SubFrame) → told at o a b n ≡ Ok (Some sub) → Told at o a b n sub
told-inverse at o a b n sub e =
    ⊎_elim (λ r. cc (r.1, e)) (λ w. let same : w.0 ≡ sub = cc (w.1, e) in subst (Told at o a b n) same w.2) (decided at o a b n)

module _ (s : List ℕ) (at : ℕ) (sub : SubFrame) (e : header_at s at ≡ Ok (Some sub)) where
  pub here : at < length s
  here = ⊎_elim (λ h. h) (λ h. cc (cases.nothing s at h, e)) (lt-or-le at (length s))

  pub read-inverse : Told at (octet1 (drop at s)) (octet1a (drop at s)) (octet1b (drop at s)) (length (drop at s)) sub
  read-inverse = told-inverse _ _ _ _ _ sub (sym (cases.there s at here) ∙ e)

  -- the payload lies within the frame
  pub ends-within : end_of sub ≤ length s
  ends-within =
      let whole : size (octet1 (drop at s)) ≤ length s - at = rw length-drop at read-inverse.whole in
      let inside : at < length s = here in
      ⊎_elim (λ w. omega (arith, simp length-drop at (ap end_of w.1)))
      (λ w. omega (arith, simp length-drop at w.1, ap end_of w.2))
      read-inverse.is

pub sub-at-tells : SubAtTells
unfolding sub_at
sub-at-tells s at sub e =
    let told = read-inverse s at sub e in
    let inside = lt-ltb at (length s) (here s at sub e) in
    ⊎_elim (λ w. simp (inside, eq-eqb (li (octet1 (drop at s))) 0 w.0) w.1)
    (λ w. simp (inside, ne_eqb (li (octet1 (drop at s))) 0 w.0) w.2)
    told.is
