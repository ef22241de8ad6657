-- The sub-frames of a frame that opens: each header stands where the sub-frame before it ends. They lie within the frame, and are
-- at most 64.
use Prim.Native.Nat.{ℕ, zero, suc, ◌+◌, ◌<◌, ◌≤◌}
use mathlib.Core.Path.{◌≡◌, refl, sym, ap, subst, ◌∙◌}
use mathlib.Core.List.{List, [], ◌∷◌}
use mathlib.Core.Bool.{Bool, true, false, cond}
use native.Mathlib.Omega.{arith}
use native.Mathlib.Numerals.{add-one}
use lib.Dec.{ltb, eqb}
use lib.ListN.{length, get_or, drop}
use lib.Seq.{drop-cons}
use Rattle.std.specs.Option.{option_map_or}
use Rattle.header.specs.declared.SubFrame.{SubFrame}
use Rattle.std.specs.declared.result.Result.TheVariants.{Ok, Err}
use Rattle.std.specs.declared.option.Option.{Option}
use Rattle.std.specs.declared.option.Option.TheVariants.{Some, None}
use Rattle.refusal.specs.declared.Refusal.{Refusal}
use Rattle.header.specs.Header.{header_at, sub_at, end_of}
use Rattle.frame.specs.Opening.{Opening, stopped, before, end_of_header, onwards, scan, scanned, opening}
use Rattle.header.proofs.HeaderInverse as inverse
use Rattle.refusal.specs.declared.Refusal.TheVariants.{FieldEmpty, FieldTooLong}
use Rattle.std.specs.declared.result.Result.{Result}

module _ (s : List ℕ) where
  abbrev pub Chain : ℕ → List SubFrame → Type 0
  Chain at [] = Unit {0}
  Chain at (x ∷ xs) = (header_at s at ≡ Ok (Some x)) × ((end_of x ≤ length s) × Chain (end_of x) xs)

  -- what is known of a scan from a place on
  pub record Fine (most at : ℕ) (o : Opening) : Type 0 where
    pub chain : Chain at o.subs
    pub few : length o.subs ≤ most
    pub place : o.at ≤ length s

  none : (most from : ℕ) (refused : Option Refusal) (at : ℕ) → at ≤ length s → Fine most from (stopped refused at)
  none most from refused at h = record { chain = tt; few = omega arith; place = h }

  header-fine :
      (most at : ℕ) (h : Result (Option SubFrame) Refusal) (rest : Opening)
      → at ≤ length s
      → header_at s at ≡ h
      → Fine most (end_of_header h) rest
      → Fine (suc most) at (onwards h at rest)
  header-fine most at (Ok (Some sub)) rest within e fine = go sub.last
    where
      ends : end_of sub ≤ length s
      ends = inverse.ends-within s at sub e

      go : (b : Bool) → Fine (suc most) at (before sub (cond b (stopped None (end_of sub)) rest))
      go true = record { chain = (e, (ends, tt)); few = omega arith; place = ends }
      go false = record { chain = (e, (ends, fine.chain)); few = omega (arith, fine.few); place = fine.place }
  header-fine most at (Err refusal) rest within e fine = none (suc most) at (Some refusal) at within
  header-fine most at (Ok None) rest within e fine = none (suc most) at None at within

  end-within : (at : ℕ) (h : Result (Option SubFrame) Refusal) → header_at s at ≡ h → end_of_header h ≤ length s
  end-within at (Ok (Some sub)) e = inverse.ends-within s at sub e
  end-within at (Err refusal) e = omega arith
  end-within at (Ok None) e = omega arith

  scan-fine : (room at : ℕ) → at ≤ length s → Fine room at (scan room s at)
  unfolding scan
  scan-fine zero at h = none zero at _ at h
  scan-fine (suc room) at h =
      let end : end_of_header (header_at s at) ≤ length s = end-within at (header_at s at) refl in
      header-fine room at (header_at s at) (scan room s (end_of_header (header_at s at))) h refl (scan-fine room (end_of_header (header_at s at)) end)

  scanned-fine : Fine 64 0 (scanned s)
  unfolding scanned
  scanned-fine = go (eqb (length s) 0) (ltb 1600 (length s))
    where
      go : (t u : Bool) → Fine 64 0 (cond t (stopped (Some FieldEmpty) 0) (cond u (stopped (Some FieldTooLong) 0) (scan 64 s 0)))
      go true u = none 64 0 _ 0 (omega arith)
      go false true = none 64 0 _ 0 (omega arith)
      go false false = scan-fine 64 0 (omega arith)

  pub opening-fine : Fine 64 0 (opening s)
  unfolding opening
  opening-fine = go (scanned s).refused
    where
      go : (r : Option Refusal) → Fine 64 0 (option_map_or (λ refusal. stopped (Some refusal) (scanned s).at) r (scanned s))
      go None = scanned-fine
      go (Some refusal) = none 64 0 _ _ scanned-fine.place

-- the sub-frame whose header is next, behind i others
module _ (s : List ℕ) (place i : ℕ) (subs : List SubFrame) (rest : Chain s place (drop i subs)) (sub : SubFrame) (is : sub ≡ sub_at s place)
    (more : i < length subs) where
  links :
      (header_at s place ≡ Ok (Some (get_or subs i sub))) × ((end_of (get_or subs i sub) ≤ length s) × Chain s (end_of (get_or subs i sub)) (drop (suc i) subs))
  links = rw (drop-cons subs i sub more) at rest

  pub this : sub ≡ get_or subs i sub
  this = is ∙ inverse.sub-at-tells s place (get_or subs i sub) links.0

  pub ends : end_of sub ≤ length s
  ends = omega (arith, ap end_of this, links.1.0)

  pub onward : Chain s (end_of sub) (drop (i + 1) subs)
  onward = rw (add-one i) (subst (λ (x : SubFrame). Chain s (end_of x) (drop (suc i) subs)) (sym this) links.1.1)
