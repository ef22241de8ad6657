-- Where a reader begins, and where it goes on, case by case.
use Prim.Native.Nat.{ℕ, ◌+◌, ◌-◌, ◌<◌, ◌≤◌}
use mathlib.Core.Path.{◌≡◌, sym, ap, ◌∙◌}
use mathlib.Core.List.{List, []}
use native.Mathlib.Omega.{arith}
use borrow.Author.Tests.{lt-ltb, le-ltb}
use lib.ListN.{length, take, drop}
use Rattle.std.specs.declared.option.Option.TheVariants.{Some, None}
use Rattle.refusal.specs.declared.Refusal.{Refusal}
use Rattle.header.specs.declared.SubFrame.{SubFrame}
use Rattle.header.specs.Header.{header_at, end_of}
use Rattle.frame.specs.Opening.{opening}
use Rattle.reader.specs.Reading.{start_of, met, next_of, payload_of, payload_at}
use Rattle.std.specs.declared.result.Result.{Result}
use Rattle.std.specs.declared.option.Option.{Option}

module _ (s : List ℕ) where
  pub sound-start : (opening s).refused ≡ None → start_of s ≡ 0
  unfolding start_of
  sound-start h = rw h

  pub refused-start : (refusal : Refusal) → (opening s).refused ≡ Some refusal → start_of s ≡ length s
  unfolding start_of
  refused-start refusal h = rw h

  pub goes_on : (at : ℕ) (h : Result (Option SubFrame) Refusal) → header_at s at ≡ h → next_of s at ≡ met h at (length s)
  unfolding next_of
  goes_on at h e = ap (λ (x : Result (Option SubFrame) Refusal). met x at (length s)) e

-- the payload of a sub-frame of the frame s, which lies at a place: an empty one begins where s does
module _ (s : List ℕ) (place : ℕ × ℕ) (sub : SubFrame) where
  too_short : length s < end_of sub → (payload_of s sub ≡ []) × (payload_at s place sub ≡ place)
  unfolding payload_of payload_at
  too_short h = (simp (lt-ltb (length s) (end_of sub) h), simp (lt-ltb (length s) (end_of sub) h))

  pub whole :
      end_of sub ≤ length s
      → (payload_of s sub ≡ take sub.len (drop sub.start s)) × (payload_at s place sub ≡ (place.0, place.1 + sub.start))
  unfolding payload_of payload_at
  whole h = (simp (le-ltb (length s) (end_of sub) h), simp (le-ltb (length s) (end_of sub) h))

  pub no_part : length s < end_of sub → ([] ≡ payload_of s sub) × ((place.0, 0 + place.1) ≡ payload_at s place sub)
  no_part h =
      let o : 0 + place.1 ≡ place.1 = omega arith in
      (sym (too_short h).0, ap (λ (p : ℕ). (place.0, p)) o ∙ sym (too_short h).1)

  pub some-part :
      end_of sub ≤ length s
      → (take (end_of sub - sub.start) (drop sub.start s) ≡ payload_of s sub)
      × ((place.0, sub.start + place.1) ≡ payload_at s place sub)
  some-part h =
      let n : end_of sub - sub.start ≡ sub.len = omega arith in
      let o : sub.start + place.1 ≡ place.1 + sub.start = omega arith in (
        ap (λ (m : ℕ). take m (drop sub.start s)) n ∙ sym (whole h).0,
        ap (λ (p : ℕ). (place.0, p)) o ∙ sym (whole h).1,
      )
