-- What is made, from how it fits.
use Prim.Native.Nat.{ℕ, ◌+◌, ◌<◌, ◌≤◌}
use mathlib.Core.Path.{◌≡◌, refl, sym, ap, ◌∙◌}
use mathlib.Core.List.{List, ◌++◌}
use mathlib.Core.Bool.{Bool, true, false}
use native.Mathlib.Omega.{arith}
use borrow.Author.Tests.{ltb-true, ltb-false}
use lib.Dec.{ltb}
use lib.ListN.{length}
use Rattle.octets.specs.Room.{put, written, left_by}
use Rattle.octets.specs.Made.{Made, made, unmade, fit_of, put_made, left_made}
use Rattle.octets.proofs.Writes.{too_small, room_for, put-behind}
use Rattle.refusal.specs.declared.Refusal.{Refusal}
use Rattle.std.specs.declared.result.Result.{Result}
use Rattle.refusal.specs.declared.Refusal.TheVariants.{RoomTooSmall}
use Rattle.std.specs.declared.result.Result.TheVariants.{Ok, Err}

never : {A : Type 0} (f : Result ℕ Refusal) (m : ℕ) (n : Refusal) → f ≡ Ok m → f ≡ Err n → A
never f m n p q = let z : ◌≡◌ {A = ℕ} 0 1 = cc in absurd (omega arith)

pub octets-made : (m : Made) (n : ℕ) → fit_of m ≡ Ok n → (octets : List ℕ) × (m ≡ made octets)
octets-made (made octets) n e = (octets, refl)
octets-made (unmade refusal) n e = never (Err refusal) n refusal e refl

pub unfit-unmade : (m : Made) (refusal : Refusal) → fit_of m ≡ Err refusal → m ≡ unmade refusal
unfit-unmade (made octets) refusal e = never (Ok _) _ refusal refl e
unfit-unmade (unmade n) refusal e = let same : n ≡ refusal = cc in ap unmade same

pub same_size : (f : Result ℕ Refusal) (m n : ℕ) → f ≡ Ok m → f ≡ Ok n → m ≡ n
same_size f m n p q = cc

pub made-size : (m : Made) (n : ℕ) (octets : List ℕ) → fit_of m ≡ Ok n → m ≡ made octets → n ≡ length octets
made-size m n octets e is = same_size (fit_of m) n (length octets) e (ap fit_of is)

pub same-made : (m : Made) (a b : List ℕ) → m ≡ made a → m ≡ made b → a ≡ b
same-made m a b p q = cc

pub never-made : {A : Type 0} (m : Made) (refusal : Refusal) (octets : List ℕ) → m ≡ unmade refusal → m ≡ made octets → A
never-made m refusal octets p q = let z : ◌≡◌ {A = ℕ} 0 1 = cc in absurd (omega arith)

-- a write of what is made, and a write that is refused, in the terms of a layout's contract
module _ (room : List ℕ) (at : ℕ) (m : Made) where
  pub written-made :
      (octets : List ℕ) (answer : Result ℕ Refusal) (holds : List ℕ)
      → m ≡ made octets
      → answer ≡ put room at octets
      → holds ≡ left_by answer room at octets
      → (answer ≡ put_made room at m) × (holds ≡ left_made room at m)
  written-made octets answer holds e p h = rw e (p, h ∙ ap (λ (a : Result ℕ Refusal). left_by a room at octets) p)

  pub not_written : (refusal : Refusal) → m ≡ unmade refusal → (Err refusal ≡ put_made room at m) × (room ≡ left_made room at m)
  not_written refusal e = rw e (refl, refl)

  pub unfit-not-written : (refusal : Refusal) → fit_of m ≡ Err refusal → (Err refusal ≡ put_made room at m) × (room ≡ left_made room at m)
  unfit-not-written refusal e = not_written refusal (unfit-unmade m refusal e)

  -- what is made has so many octets, and a test tells whether they exceed the room
  module _ (n : ℕ) (over : Bool) (fits : fit_of m ≡ Ok n) (test : over ≡ ltb (length room) (at + n)) where
    pub no_room : over ≡ true → (Err RoomTooSmall ≡ put_made room at m) × (room ≡ left_made room at m)
    no_room h =
        let o = octets-made m n fits in
        let much : length room < at + n = ltb-true (length room) (at + n) (sym test ∙ h) in
        let small = too_small room o.0 at (rw (made-size m n o.0 fits o.1) at much) in
        rw o.1 (small, ap (λ (a : Result ℕ Refusal). left_by a room at o.0) small)

    pub has_room : (octets : List ℕ) → m ≡ made octets → over ≡ false → at + length octets ≤ length room
    has_room octets e h =
        let enough : at + n ≤ length room = ltb-false (length room) (at + n) (sym test ∙ h) in
        rw (made-size m n octets fits e) at enough

  -- what is made stands in its place
  pub stands :
      (octets holds : List ℕ) (next : ℕ)
      → m ≡ made octets
      → at + length octets ≤ length room
      → next ≡ at + length octets
      → holds ≡ written room at octets
      → (Ok next ≡ put_made room at m) × (holds ≡ left_made room at m)
  stands octets holds next e fits n h =
      let taken = room_for room octets at fits in
      rw e (ap Ok n ∙ taken, h ∙ ap (λ (a : Result ℕ Refusal). left_by a room at octets) taken)

  -- its front stands in its place, and its body is put behind
  pub stands-behind :
      (head body : List ℕ) (answer : Result ℕ Refusal) (holds : List ℕ)
      → m ≡ made (head ++ body)
      → at + length (head ++ body) ≤ length room
      → answer ≡ put (written room at head) (at + length head) body
      → holds ≡ left_by answer (written room at head) (at + length head) body
      → (answer ≡ put_made room at m) × (holds ≡ left_made room at m)
  stands-behind head body answer holds e fits p h =
      let both = put-behind room head body at answer holds fits p h in
      written-made (head ++ body) answer holds e both.0 both.1
