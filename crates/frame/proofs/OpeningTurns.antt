-- Opening a frame: its cases, the loop of `scan_from`, and what is known of the sub-frames that a scan tells.
use Prim.Native.Nat.{ℕ, zero, suc, ◌+◌, ◌-◌, ◌<◌, ◌≤◌}
use mathlib.Core.Path.{◌≡◌, refl, sym, ap, subst, ◌∙◌}
use mathlib.Core.List.{List, [], ◌∷◌, ◌++◌, append-nil}
use mathlib.Core.Bool.{Bool, true, false, cond}
use mathlib.Core.Logic.{⊎_elim}
use native.Mathlib.Omega.{arith}
use borrow.Author.Tests.{lt-ltb, le-ltb, le-leb, lt-leb, eq-eqb, ne_eqb}
use lib.ListN.{length, length-append}
use lib.Seq.{append_snoc}
use Rattle.octets.proofs.Order.{lt-or-le, eq-or-ne}
use Rattle.octets.proofs.Texts.{true-not-false}
use Rattle.std.specs.Option.{option_map_or}
use Rattle.std.specs.Result.{MatchResult, IsErrAnd}
use Rattle.std.specs.declared.result.Result.{Result}
use Rattle.std.proofs.lemmas.Result.{err_from_is_err_and}
use Rattle.frame.specs.declared.Checked.{Checked}
use Rattle.header.specs.declared.SubFrame.{SubFrame}
use Rattle.std.specs.declared.result.Result.TheVariants.{Ok, Err}
use Rattle.std.specs.declared.option.Option.{Option}
use Rattle.std.specs.declared.option.Option.TheVariants.{Some, None}
use Rattle.refusal.specs.declared.Refusal.{Refusal}
use Rattle.frame.specs.declared.Refused.{Refused}
use Rattle.header.specs.Header.{header_at, end_of}
use Rattle.frame.specs.Opening.{most_octets, most_sub_frames, field_fits, Opening, stopped, before, end_of_header, onwards, scan, scanned, all_or_none, opening, unless_refused, checked}
use Rattle.refusal.specs.declared.Refusal.TheVariants.{FieldEmpty, FieldTooLong, TooManySubFrames}

-- what an answer says of the opening
module _ {A : Type 0} (o : Opening) (a : A) where
  abbrev with-refusal : Option Refusal → Opening
  with-refusal refused = record { refused = refused; at = o.at; subs = o.subs }

  pub sound-tells : {b : A} → unless_refused o a ≡ Ok b → (o.refused ≡ None) × (b ≡ a)
  sound-tells {b = b} e = go o.refused e
    where
      go : (r : Option Refusal) → unless_refused (with-refusal r) a ≡ Ok b → (r ≡ None) × (b ≡ a)
      go None h = (refl, cc)
      go (Some refusal) h = cc

  pub refused-tells : {r : Refused} → unless_refused o a ≡ Err r → (o.refused ≡ Some r.refusal) × ((r.at ≡ o.at) × (r.count ≡ length o.subs))
  refused-tells {r = r} e = go o.refused e
    where
      go : (x : Option Refusal) → unless_refused (with-refusal x) a ≡ Err r → (x ≡ Some r.refusal) × ((r.at ≡ o.at) × (r.count ≡ length o.subs))
      go None h = cc
      go (Some refusal) h = let is : record { refusal = refusal; at = o.at; count = length o.subs } ≡ r = cc in
          (ap (λ (x : Refused). Some x.refusal) is, (sym (ap (λ (x : Refused). x.at) is), sym (ap (λ (x : Refused). x.count) is)))

module _ (s : List ℕ) where
  pub empty : length s ≡ 0 → scanned s ≡ stopped (Some FieldEmpty) 0
  unfolding scanned
  empty h = simp (eq-eqb (length s) 0 h)

  module _ (some : length s ≡ 0 → ⊥) where
    pub long : most_octets < length s → scanned s ≡ stopped (Some FieldTooLong) 0
    unfolding scanned
    long h = simp (ne_eqb (length s) 0 some, lt-ltb most_octets (length s) h)

    pub scans : length s ≤ most_octets → scanned s ≡ scan most_sub_frames s 0
    unfolding scanned
    scans h = simp (ne_eqb (length s) 0 some, le-ltb most_octets (length s) h)

  -- what the length of the field decides
  pub fits-scans : field_fits (length s) ≡ true → scanned s ≡ scan most_sub_frames s 0
  fits-scans fits =
      ⊎_elim (λ none. absurd (true-not-false (sym fits ∙ simp (le-ltb 0 (length s) (omega (arith, none))))))
      (λ some.
      ⊎_elim (λ h. absurd (true-not-false (sym fits ∙ simp (lt-ltb 0 (length s) (omega (arith, some)), lt-leb (length s) most_octets h))))
      (scans some)
      (lt-or-le most_octets (length s)))
      (eq-or-ne (length s) 0)

  module _ (unfit : field_fits (length s) ≡ false) where
    pub unfit-long : (length s ≡ 0 → ⊥) → most_octets < length s
    unfit-long some =
        ⊎_elim (λ h. h)
        (λ h. absurd (true-not-false (sym (simp (lt-ltb 0 (length s) (omega (arith, some)), le-leb (length s) most_octets h)) ∙ unfit)))
        (lt-or-le most_octets (length s))

    pub unfit-refused : (scanned s).refused ≡ None → ⊥
    unfit-refused z = ⊎_elim (λ none. cc (empty none, z)) (λ some. cc (long some (unfit-long some), z)) (eq-or-ne (length s) 0)

  -- all of a sound scan is handed out, and no sub-frame of any other
  pub sound-is : (scanned s).refused ≡ None → opening s ≡ scanned s
  unfolding opening
  sound-is e = rw e

  pub refused-is : (refusal : Refusal) → (scanned s).refused ≡ Some refusal → opening s ≡ stopped (Some refusal) (scanned s).at
  unfolding opening
  refused-is refusal e = rw e

  pub same-refusal : (opening s).refused ≡ (scanned s).refused
  unfolding opening
  same-refusal = go (scanned s).refused refl
    where
      go : (r : Option Refusal) → (scanned s).refused ≡ r → (option_map_or (λ refusal. stopped (Some refusal) (scanned s).at) r (scanned s)).refused ≡ r
      go None e = e
      go (Some refusal) e = refl

  -- what `check` answers of a field that is empty or too long
  pub empty-checked : length s ≡ 0 → Err (record { refusal = FieldEmpty; at = 0; count = 0 }) ≡ checked (opening s)
  unfolding opening
  empty-checked h = rw (empty h)

  pub unfit-checked :
      (length s ≡ 0 → ⊥) → field_fits (length s) ≡ false → Err (record { refusal = FieldTooLong; at = 0; count = 0 }) ≡ checked (opening s)
  unfolding opening
  unfit-checked some unfit = rw (long some (unfit-long unfit some))

  -- and of any other, from what the scan told: of a refused frame no sub-frame is counted
  module _ (fits : field_fits (length s) ≡ true) (found m : Result Checked Refused) (is : found ≡ checked (scan most_sub_frames s 0))
      (told : MatchResult found (λ x. m ≡ Ok x) (λ e. IsErrAnd m (λ y. y ≡ record { refusal = e.refusal; at = e.at; count = 0 }))) where
    abbrev o : Opening
    o = scan most_sub_frames s 0

    pub fit-checked : m ≡ checked (opening s)
    unfolding opening
    fit-checked = rw (fits-scans fits) (go o.refused (rw is at told))
      where
        go :
            (r : Option Refusal)
            → MatchResult (checked (record { refused = r; at = o.at; subs = o.subs })) (λ x. m ≡ Ok x) (λ e. IsErrAnd m (λ y. y ≡ record { refusal = e.refusal; at = e.at; count = 0 }))
            → m ≡ checked (all_or_none (record { refused = r; at = o.at; subs = o.subs }))
        go None h = h
        go (Some refusal) h = let p = err_from_is_err_and m h in p.1 ∙ ap Err p.2

  -- what holds of every refusal and of the scan holds of the opening
  module _ (P : Opening → Type 0) (refused : (refusal : Refusal) (at : ℕ) → P (stopped (Some refusal) at)) (scan-holds : P (scan most_sub_frames s 0)) where
    scanned-holds : P (scanned s)
    scanned-holds =
        ⊎_elim (λ none. subst P (sym (empty none)) (refused _ _))
        (λ some.
        ⊎_elim (λ h. subst P (sym (long some h)) (refused _ _)) (λ h. subst P (sym (scans some h)) scan-holds) (lt-or-le most_octets (length s)))
        (eq-or-ne (length s) 0)

    pub opening-holds : P (opening s)
    unfolding opening
    opening-holds = go (scanned s).refused
      where
        go : (r : Option Refusal) → P (option_map_or (λ refusal. stopped (Some refusal) (scanned s).at) r (scanned s))
        go None = scanned-holds
        go (Some refusal) = refused refusal _

-- sub-frames that were found, before what is still to come
abbrev behind : List SubFrame → Opening → Opening
behind found rest = record { refused = rest.refused; at = rest.at; subs = found ++ rest.subs }

-- When `count` sub-frames have begun, of which `room` may begin: the whole scan is what was found, before the scan from the present
-- place on.
pub record Passed (s : List ℕ) (room : ℕ) (whole : Opening) (at count : ℕ) : Type 0 where
  pub found : List SubFrame
  pub many : length found ≡ count
  pub opens : whole ≡ behind found (scan (room - count) s at)

pub begins : (s : List ℕ) (room at : ℕ) → Passed s room (scan room s at) at 0
begins s room at =
    let none : room - 0 ≡ room = omega arith in
    record { found = []; many = refl; opens = rw none }

module _ {s : List ℕ} {room : ℕ} {whole : Opening} {at count : ℕ} (passed : Passed s room whole at count) where
  pub full : room ≡ count → Err (record { refusal = TooManySubFrames; at = at; count = room }) ≡ checked whole
  unfolding scan
  full all =
      let none : room - count ≡ 0 = omega arith in
      rw (passed.opens, none, append-nil, passed.many, all)

  module _ (less : count < room) where
    one_more : (sub : SubFrame) → length (passed.found ++ sub ∷ []) ≡ count + 1
    one_more sub = omega (arith, passed.many, length-append passed.found (sub ∷ []))

    opens-on : (h : Result (Option SubFrame) Refusal) → header_at s at ≡ h → whole ≡ behind passed.found (onwards h at (scan (room - (count + 1)) s (end_of_header h)))
    unfolding scan
    opens-on h e =
        let one : room - count ≡ suc (room - (count + 1)) = omega arith in
        passed.opens ∙ ap (behind passed.found) (rw (one, ← e))

    pub turn : (sub : SubFrame) → header_at s at ≡ Ok (Some sub) → sub.last ≡ false → Passed s room whole (end_of sub) (count + 1)
    turn sub e more =
        record { found = passed.found ++ sub ∷ []; many = one_more sub; opens = opens-on (Ok (Some sub)) e ∙ rw (more, append_snoc) }

    pub final : (sub : SubFrame) → header_at s at ≡ Ok (Some sub) → sub.last ≡ true → Ok (record { at = end_of sub; count = count + 1 }) ≡ checked whole
    final sub e last =
        let o : whole ≡ behind (passed.found ++ sub ∷ []) (stopped None (end_of sub)) = opens-on (Ok (Some sub)) e ∙ rw (last, append-nil) in
        rw (o, append-nil, one_more sub)

    pub refused : (refusal : Refusal) → header_at s at ≡ Err refusal → Err (record { refusal = refusal; at = at; count = count }) ≡ checked whole
    refused refusal e = rw (opens-on (Err refusal) e, append-nil, passed.many)

    pub past : header_at s at ≡ Ok None → Ok (record { at = at; count = count }) ≡ checked whole
    past e = rw (opens-on (Ok None) e, append-nil, passed.many)

-- From `at` on, headers tell these sub-frames, one behind the other.
abbrev pub Ahead : List ℕ → ℕ → List SubFrame → Type 0
Ahead s at [] = Unit
Ahead s at (sub ∷ subs) = (header_at s at ≡ Ok (Some sub)) × Ahead s (end_of sub) subs

module _ (s : List ℕ) where
  ahead-sub :
      (at : ℕ) (sub : SubFrame) (rest : Opening) (last : Bool)
      → header_at s at ≡ Ok (Some sub)
      → Ahead s (end_of sub) rest.subs
      → Ahead s at (before sub (cond last (stopped None (end_of sub)) rest)).subs
  ahead-sub at sub rest true e next = (e, tt)
  ahead-sub at sub rest false e next = (e, next)

  ahead-on :
      (at : ℕ) (h : Result (Option SubFrame) Refusal) (rest : Opening) → header_at s at ≡ h → Ahead s (end_of_header h) rest.subs → Ahead s at (onwards h at rest).subs
  ahead-on at (Ok (Some sub)) rest e next = ahead-sub at sub rest sub.last e next
  ahead-on at (Err refusal) rest e next = tt
  ahead-on at (Ok None) rest e next = tt

  pub ahead : (room at : ℕ) → Ahead s at (scan room s at).subs
  unfolding scan
  ahead zero at = tt
  ahead (suc room) at = ahead-on at (header_at s at) _ refl (ahead room (end_of_header (header_at s at)))

  -- no more than may begin
  few-sub :
      (room : ℕ) (sub : SubFrame) (rest : Opening) (last : Bool)
      → length rest.subs ≤ room
      → length (before sub (cond last (stopped None (end_of sub)) rest)).subs ≤ suc room
  few-sub room sub rest true fits = omega arith
  few-sub room sub rest false fits = omega arith

  few_on : (room at : ℕ) (h : Result (Option SubFrame) Refusal) (rest : Opening) → length rest.subs ≤ room → length (onwards h at rest).subs ≤ suc room
  few_on room at (Ok (Some sub)) rest fits = few-sub room sub rest sub.last fits
  few_on room at (Err refusal) rest fits = omega arith
  few_on room at (Ok None) rest fits = omega arith

  pub few : (room at : ℕ) → length (scan room s at).subs ≤ room
  unfolding scan
  few zero at = omega arith
  few (suc room) at = few_on room at (header_at s at) _ (few room (end_of_header (header_at s at)))

  -- the same of an opened frame
  pub opens-ahead : Ahead s 0 (opening s).subs
  opens-ahead = opening-holds s (λ (o : Opening). Ahead s 0 o.subs) (λ refusal at. tt) (ahead most_sub_frames 0)

  pub opens-few : length (opening s).subs ≤ most_sub_frames
  opens-few =
      opening-holds s (λ (o : Opening). length o.subs ≤ most_sub_frames) (λ refusal at. omega arith) (few most_sub_frames 0)
