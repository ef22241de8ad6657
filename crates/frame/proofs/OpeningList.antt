-- The loop of `open`: what stands in the answer's places, and which sub-frames are still to come.
use Prim.Native.Nat.{ℕ, suc, ◌+◌, ◌-◌, ◌<◌, ◌≤◌}
use mathlib.Core.Path.{◌≡◌, refl, sym, ap, subst, ◌∙◌}
use mathlib.Core.List.{List, [], ◌∷◌, ◌++◌, append-nil}
use native.Mathlib.Omega.{arith}
use lib.ListN.{length, replicate, set, length-append}
use lib.Seq.{set_at, append_snoc}
use Rattle.header.specs.declared.SubFrame.{SubFrame}
use Rattle.std.specs.declared.result.Result.TheVariants.{Ok, Err}
use Rattle.std.specs.declared.option.Option.TheVariants.{Some}
use Rattle.frame.specs.declared.Checked.{Checked}
use Rattle.frame.specs.declared.Refused.{Refused}
use Rattle.header.specs.Header.{header_at, unused, sub_at, end_of}
use Rattle.frame.specs.Opening.{most_sub_frames, opening, checked, answer}
use Rattle.header.proofs.HeaderInverse.{sub-at-tells}
use Rattle.frame.proofs.OpeningTurns.{sound-tells, refused-tells, Ahead, opens-ahead, opens-few}

-- After i turns the places hold i sub-frames and are unused beyond them, and the others begin at the present place.
pub record Listed (s : List ℕ) (subs : List SubFrame) (at i : ℕ) : Type 0 where
  pub found : List SubFrame
  pub rest : List SubFrame
  pub many : length found ≡ i
  pub whole : (opening s).subs ≡ found ++ rest
  pub stands : subs ≡ found ++ replicate (most_sub_frames - i) unused
  pub next : Ahead s at rest

pub begins : (s : List ℕ) → Listed s (replicate most_sub_frames unused) 0 0
begins s = record { found = []; rest = (opening s).subs; many = refl; whole = refl; stands = refl; next = opens-ahead s }

-- the header of the next, where there is one
told-next : (s : List ℕ) (at : ℕ) (rest : List SubFrame) → 0 < length rest → Ahead s at rest → header_at s at ≡ Ok (Some (sub_at s at))
told-next s at [] some next = absurd (omega arith)
told-next s at (sub ∷ rest) some next = next.0 ∙ ap (λ (x : SubFrame). Ok (Some x)) (sym (sub-at-tells s at sub next.0))

-- the rest behind it
pass-next :
    (s : List ℕ) (at : ℕ) (rest : List SubFrame) (sub : SubFrame)
    → 0 < length rest
    → Ahead s at rest
    → sub ≡ sub_at s at
    → (more : List SubFrame) × ((rest ≡ sub ∷ more) × Ahead s (end_of sub) more)
pass-next s at [] sub some next is = absurd (omega arith)
pass-next s at (x ∷ more) sub some next is =
    let same : x ≡ sub = sym (sub-at-tells s at x next.0) ∙ sym is in
    (more, (ap (λ (y : SubFrame). y ∷ more) same, subst (λ (y : SubFrame). Ahead s (end_of y) more) same next.1))

module _ {s : List ℕ} {subs : List SubFrame} {at i : ℕ} (listed : Listed s subs at i) where
  lengths : length (opening s).subs ≡ i + length listed.rest
  lengths = ap length listed.whole ∙ length-append listed.found listed.rest ∙ ap (λ (n : ℕ). n + length listed.rest) listed.many

  module _ (less : i < length (opening s).subs) where
    some : 0 < length listed.rest
    some = omega (arith, lengths)

    pub room : i < most_sub_frames
    room = omega (arith, opens-few s)

    pub told : header_at s at ≡ Ok (Some (sub_at s at))
    told = told-next s at listed.rest some listed.next

    pub turn : (sub : SubFrame) → sub ≡ sub_at s at → Listed s (set subs i sub) (end_of sub) (i + 1)
    turn sub is =
        let p = pass-next s at listed.rest sub some listed.next is in
        let one : most_sub_frames - i ≡ suc (most_sub_frames - (i + 1)) = omega (arith, room) in
        let unused-rest : List SubFrame = replicate (most_sub_frames - (i + 1)) unused in
        record {
          found = listed.found ++ sub ∷ [];
          rest = p.0;
          many = length-append listed.found (sub ∷ []) ∙ ap (λ (n : ℕ). n + 1) listed.many;
          whole = listed.whole ∙ ap (λ (l : List SubFrame). listed.found ++ l) p.1.0 ∙ sym (append_snoc listed.found sub p.0);
          stands =
              rw (listed.stands, one)
              (set_at listed.found unused unused-rest sub i listed.many ∙ sym (append_snoc listed.found sub unused-rest));
          next = p.1.1;
        }

  -- the answer, once each of the sub-frames that were checked stands in its place
  pub done :
      (found : Checked) → checked (opening s) ≡ Ok found → found.count ≤ i → Ok (record { at = found.at; count = found.count; subs = subs }) ≡ answer (opening s)
  done found e most =
      let tells = sound-tells (opening s) _ e in
      let at_is : found.at ≡ (opening s).at = ap (λ (c : Checked). c.at) tells.1 in
      let count_is : found.count ≡ length (opening s).subs = ap (λ (c : Checked). c.count) tells.1 in
      let none : listed.rest ≡ [] = nothing listed.rest (omega (arith, lengths)) in
      let all : (opening s).subs ≡ listed.found = listed.whole ∙ rw none (append-nil listed.found) in
      let end : i ≡ length (opening s).subs = omega (arith, lengths) in
      let places : subs ≡ (opening s).subs ++ replicate (most_sub_frames - length (opening s).subs) unused =
      listed.stands ∙ ap (λ (n : ℕ). listed.found ++ replicate (most_sub_frames - n) unused) end
      ∙ ap (λ (l : List SubFrame). l ++ replicate (most_sub_frames - length (opening s).subs) unused) (sym all)
      in
      rw (tells.0, at_is, count_is, places)
    where
      nothing : (l : List SubFrame) → length l ≡ 0 → l ≡ []
      nothing [] e = refl
      nothing (x ∷ l) e = absurd (omega arith)

-- and that of a refused frame
pub refused : (s : List ℕ) (r : Refused) → checked (opening s) ≡ Err r → Err r ≡ answer (opening s)
refused s r e =
    let tells = refused-tells (opening s) _ e in
    rw (tells.0, tells.1.0, tells.1.1)
