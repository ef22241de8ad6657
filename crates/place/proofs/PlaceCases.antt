-- What the tests on a place tell, 22, 23, 21, and what is known of a payload that has its place.
use Prim.Native.Nat.{ℕ, ◌+◌, ◌<◌, ◌≤◌}
use mathlib.Core.Path.{◌≡◌, refl, sym, ap, ◌∙◌}
use mathlib.Core.List.{List, [], ◌∷◌}
use mathlib.Core.Bool.{Bool, true, false}
use native.Mathlib.Omega.{arith}
use borrow.Author.Tests.{lt-ltb, le-ltb, ltb-false}
use lib.Dec.{ltb}
use Rattle.refusal.specs.Order.{Test, ◌gives◌}
use Rattle.octets.proofs.Order.{clash}
use Rattle.frame.specs.Opening.{most_octets, most_sub_frames}
use Rattle.joining.specs.Joining.{header_size}
use Rattle.place.specs.declared.Writer.{Writer}
use Rattle.place.specs.declared.Place.{Place}
use Rattle.place.specs.Place.{too_long, full, placed, place_at}
use Rattle.place.proofs.Tables.{passed}
use Rattle.refusal.specs.declared.Refusal.{Refusal}
use Rattle.std.specs.declared.result.Result.TheVariants.{Err}
use Rattle.refusal.specs.declared.Refusal.TheVariants.{RoomTooSmall, TooLongNotLast, FrameFull}

-- 23
module _ (w : Writer) (header len : ℕ) where
  pub many : most_sub_frames ≤ w.count → true ≡ full w (w.at + header + len)
  many h = simp (lt-ltb most_sub_frames (w.count + 1) (omega arith))

  module _ (more : w.count < most_sub_frames) where
    pub by-octets : ltb most_octets (w.at + header + len) ≡ full w (w.at + header + len)
    by-octets = simp (le-ltb most_sub_frames (w.count + 1) (omega arith))

    pub past : most_octets < w.at + header → true ≡ full w (w.at + header + len)
    past h = sym (lt-ltb most_octets (w.at + header + len) (omega arith)) ∙ by-octets

-- where a sub-frame may end
pub within : (w : Writer) (end : ℕ) → full w end ≡ false → (w.count + 1 ≤ most_sub_frames) × (end ≤ most_octets)
within w end e =
    let pass = passed (ltb most_sub_frames (w.count + 1) gives FrameFull ∷ []) (λ n. true) (ltb most_octets end) false (λ n. clash true refl) e in
    (ltb-false most_sub_frames (w.count + 1) pass.0.0, ltb-false most_octets end pass.1)

-- 22, 23, 21, with a header of so many octets
module _ (room : ℕ) (w : Writer) (last : Bool) (cid ptype len : ℕ) where
  pub long : too_long last len ≡ true → Err TooLongNotLast ≡ placed room w last cid ptype len
  unfolding placed
  long h = simp h

  module _ (short : too_long last len ≡ false) {header : ℕ} (is : header ≡ header_size cid ptype last) where
    pub passes : full w (w.at + header + len) ≡ true → Err FrameFull ≡ placed room w last cid ptype len
    unfolding placed
    passes h = simp (short, rw is at h)

    module _ (fits : full w (w.at + header + len) ≡ false) where
      pub small : room < w.at + header + len → Err RoomTooSmall ≡ placed room w last cid ptype len
      unfolding placed
      small h = simp (short, rw is at fits, lt-ltb room (w.at + header_size cid ptype last + len) (rw is at h))

      pub has-place :
          w.at + header + len ≤ room
          → place_at (w.at + header) len (record { at = w.at + header + len; count = w.count + 1; done = last })
          ≡ placed room w last cid ptype len
      unfolding placed
      has-place h = rw is (simp (short, rw is at fits, le-ltb room (w.at + header_size cid ptype last + len) (rw is at h)))

-- what is known of a payload that has its place
pub record Placed (room : ℕ) (w : Writer) (last : Bool) (cid ptype len start : ℕ) (next : Writer) : Type 0 where
  pub short : too_long last len ≡ false
  pub starts : start ≡ w.at + header_size cid ptype last
  pub goes_on : next ≡ record { at = start + len; count = w.count + 1; done = last }
  pub inside : start + len ≤ room
  pub within : start + len ≤ most_octets
  pub few : w.count + 1 ≤ most_sub_frames

pub never : {A : Type 0} (refusal : Refusal) (start len : ℕ) (next : Writer) → Err refusal ≡ place_at start len next → A
never refusal start len next e = let z : ◌≡◌ {A = ℕ} 0 1 = cc in absurd (omega arith)

same_place : (a b m n : ℕ) (v w : Writer) → place_at a m v ≡ place_at b n w → (a ≡ b) × (m ≡ n) × (v ≡ w)
same_place a b m n v w e =
    let same : ◌≡◌ {A = Place} (record { start = a; len = m; next = v }) (record { start = b; len = n; next = w }) = cc in
    (ap (λ (p : Place). p.start) same, ap (λ (p : Place). p.len) same, ap (λ (p : Place). p.next) same)

pub placed-back : (room : ℕ) (w : Writer) (last : Bool) (cid ptype len start many : ℕ) (next : Writer)
    → placed room w last cid ptype len ≡ place_at start many next
    → (len ≡ many) × Placed room w last cid ptype len start next
unfolding placed
placed-back room w last cid ptype len start many next is =
    let begins : ℕ = w.at + header_size cid ptype last in
    let tests : List Test = too_long last len gives TooLongNotLast ∷ full w (begins + len) gives FrameFull ∷ ltb room (begins + len) gives RoomTooSmall ∷ [] in
    let pass = passed tests Err (place_at begins len (record { at = begins + len; count = w.count + 1; done = last })) (place_at start many next) (λ n. never n start many next) is in
    let same = same_place _ _ _ _ _ _ pass.1 in
    let most = within w (begins + len) pass.0.1.0 in (
      same.1,
      record {
        short = pass.0.0;
        starts = sym same.0;
        goes_on = sym same.2 ∙ ap (λ (n : ℕ). record { at = n + len; count = w.count + 1; done = last }) same.0;
        inside = rw (← same.0) (ltb-false room (begins + len) pass.0.1.1.0);
        within = rw (← same.0) most.1;
        few = most.0;
      },
    )
