-- What `data_read` and `data_made` give in each of their cases.
use Prim.Native.Nat.{ℕ, ◌≤◌}
use mathlib.Core.Path.{◌≡◌, refl}
use mathlib.Core.List.{List, ◌∷◌}
use mathlib.Core.Bool.{Bool, false}
use borrow.Author.Tests.{le-ltb, ltb-false, ne_eqb, eqb-false}
use lib.Dec.{ltb, eqb}
use lib.ListN.{length}
use Rattle.std.specs.declared.result.Result.TheVariants.{Ok}
use Rattle.octets.specs.Made.{made, fit_of}
use Rattle.octets.proofs.Order.{past}
use Rattle.octets.proofs.MadeBack.{octets-made, never-made}
use Rattle.data.specs.Data.{third_bit, fragment_in, data_read, first_octet, second_octet, data_made}

pub right : (p : List ℕ) → 3 ≤ length p → third_bit p ≡ false → data_read p ≡ Ok (fragment_in p)
unfolding data_read
right p whole h = simp (le-ltb (length p) 3 whole, h)

module _ (begins ends : Bool) (sequence : ℕ) (body : List ℕ) where
  pub made-right :
      (length body ≡ 0 → ⊥)
      → sequence ≤ 8191
      → data_made begins ends sequence body ≡ made (first_octet begins ends sequence ∷ second_octet sequence ∷ body)
  unfolding data_made
  made-right some h = simp (ne_eqb (length body) 0 some, le-ltb 8191 sequence h)

  -- what is made has a body, and a sequence of 13 bits
  pub fitting : (octets : List ℕ) → data_made begins ends sequence body ≡ made octets → (length body ≡ 0 → ⊥) × (sequence ≤ 8191)
  unfolding data_made
  fitting octets e =
      let some = past (eqb (length body) 0) _ _ _ (never-made _ _ octets refl) e in
      let range = past (ltb 8191 sequence) _ _ _ (never-made _ _ octets refl) some.1 in
      (eqb-false (length body) 0 some.0, ltb-false 8191 sequence range.0)

  pub fits : (n : ℕ) → fit_of (data_made begins ends sequence body) ≡ Ok n → (length body ≡ 0 → ⊥) × (sequence ≤ 8191)
  fits n e = let m = octets-made (data_made begins ends sequence body) n e in fitting m.0 m.1
