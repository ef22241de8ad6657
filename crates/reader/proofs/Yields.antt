-- Stepping through a frame yields the opened list: each step is a turn of the scan, and past the last there is no header. So what is
-- found after n steps is what stands in the list after n others.
use Prim.Native.Nat.{ℕ, zero, suc, ◌+◌, ◌-◌, ◌<◌, ◌≤◌}
use mathlib.Core.Path.{◌≡◌, refl, sym, ap, subst, ◌∙◌}
use mathlib.Core.List.{List, [], ◌∷◌, ◌++◌, map}
use mathlib.Core.Bool.{Bool, true, false}
use mathlib.Core.Logic.{⊎_elim}
use native.Mathlib.Omega.{arith}
use lib.ListN.{length, replicate, drop, length-drop}
use denote.Ref.{Bor}
use Rattle.octets.proofs.Order.{lt-or-le, clash}
use Rattle.refusal.specs.declared.Refusal.{Refusal}
use Rattle.header.specs.declared.SubFrame.{SubFrame}
use Rattle.header.specs.Header.{size, octet1, octet1a, octet1b, header_at, end_of}
use Rattle.frame.specs.Opening.{Opening, stopped, before, end_of_header, onwards, scan, scanned, opening}
use Rattle.header.proofs.HeaderCases as read
use Rattle.header.proofs.HeaderInverse as inverse
use Rattle.frame.proofs.OpeningTurns as turns
use Rattle.reader.specs.declared.Place.{Place}
use Rattle.reader.specs.declared.Reader.{Reader}
use Rattle.reader.specs.Reading.{start_of, met, opened, found, stepped, after, nth_of}
use Rattle.reader.specs.Claims.{yields, FirstYields, SaysSo, YieldsTheOpenedList}
use Rattle.reader.proofs.Cases as cases
use Rattle.std.specs.declared.result.Result.TheVariants.{Ok, Err}
use Rattle.std.specs.declared.option.Option.{Option}
use Rattle.std.specs.declared.option.Option.TheVariants.{Some, None}
use Rattle.std.specs.declared.result.Result.{Result}

module _ (s : List ℕ) (at : ℕ) where
  -- where no header stands is the end, or past it
  past : header_at s at ≡ Ok None → length s ≤ at
  past e =
      ⊎_elim
      (λ here.
      let t = sym (read.there s at here) ∙ e in
      ⊎_elim (λ r. cc (t, r.1)) (λ w. cc (t, w.1))
      (inverse.decided at (octet1 (drop at s)) (octet1a (drop at s)) (octet1b (drop at s)) (length (drop at s))))
      (λ h. h)
      (lt-or-le at (length s))

  -- the last sub-frame is all that remains
  ends : (sub : SubFrame) → header_at s at ≡ Ok (Some sub) → sub.last ≡ true → end_of sub ≡ length s
  ends sub e last =
      let told = inverse.read-inverse s at sub e in
      let whole : size (octet1 (drop at s)) ≤ length s - at = rw length-drop at told.whole in
      let inside : at < length s = inverse.here s at sub e in
      ⊎_elim (λ w. omega (arith, simp length-drop at (ap end_of w.1)))
      (λ w. clash sub.last last (sym (ap (λ (x : SubFrame). x.last) w.2)))
      told.is

module _ (frame : Bor (List ℕ)) where
  abbrev s : List ℕ
  s = frame.now

  -- a reader of the frame at a place
  abbrev reader : ℕ → Reader
  reader at = record { frame = frame; at = at }

  -- one step, by what the header there tells
  on : (n at : ℕ) (h : Result (Option SubFrame) Refusal) → header_at s at ≡ h → yields (suc n) (reader at) ≡ (met h at (length s)).found ∷ yields n (reader (met h at (length s)).at)
  on n at h e = ap (λ (p : Place). p.found ∷ yields n (reader p.at)) (cases.goes_on s at h e)

  -- where no header stands there is none, however often it is asked
  none_left : (n at : ℕ) → length s ≤ at → yields n (reader at) ≡ replicate n None
  none_left zero at h = refl
  none_left (suc n) at h = on n at (Ok None) (read.nothing s at h) ∙ ap (λ (l : List (Option SubFrame)). None ∷ l) (none_left n at h)

  turn : (room at : ℕ) (h : Result (Option SubFrame) Refusal) → header_at s at ≡ h → scan (suc room) s at ≡ onwards h at (scan room s (end_of_header h))
  unfolding scan
  turn room at h e = ap (λ (x : Result (Option SubFrame) Refusal). onwards x at (scan room s (end_of_header x))) e

  -- what a reader at a place yields, where the opening from there on is o
  abbrev Yields : ℕ → Opening → Type 0
  Yields at o = (more : ℕ) → yields (length o.subs + more) (reader at) ≡ map Some o.subs ++ replicate more None

  -- a sub-frame, and then what the reader yields from its end on
  then : (at : ℕ) (sub : SubFrame) (rest : Opening) → header_at s at ≡ Ok (Some sub) → Yields (end_of sub) rest → Yields at (before sub rest)
  then at sub rest e follows more =
      let count : suc (length rest.subs) + more ≡ suc (length rest.subs + more) = omega arith in
      ap (λ (n : ℕ). yields n (reader at)) count
      ∙ on (length rest.subs + more) at (Ok (Some sub)) e
      ∙ ap (λ (l : List (Option SubFrame)). Some sub ∷ l) (follows more)

  none_yet : (at : ℕ) (refused : Option Refusal) (place : ℕ) → length s ≤ at → Yields at (stopped refused place)
  none_yet at refused place h more =
      let count : 0 + more ≡ more = omega arith in
      ap (λ (n : ℕ). yields n (reader at)) count ∙ none_left more at h

  too_many : (at : ℕ) → (scan zero s at).refused ≡ None → ⊥
  unfolding scan
  too_many at z = cc

  -- a header that is refused is not sound
  not-bad : (room at : ℕ) (refusal : Refusal) → (scan (suc room) s at).refused ≡ None → header_at s at ≡ Err refusal → ⊥
  not-bad room at refusal h e = cc (ap (λ (x : Opening). x.refused) (turn room at (Err refusal) e), h)

  -- one turn of a sound scan, and what follows it
  module _ (room at : ℕ) (h : (scan (suc room) s at).refused ≡ None) (again : (place : ℕ) → (scan room s place).refused ≡ None → Yields place (scan room s place)) where
    by_bit : (sub : SubFrame) → header_at s at ≡ Ok (Some sub) → (b : Bool) → sub.last ≡ b → Yields at (scan (suc room) s at)
    by_bit sub e true last =
        let o : scan (suc room) s at ≡ before sub (stopped None (end_of sub)) = turn room at (Ok (Some sub)) e ∙ rw last in
        let end : length s ≤ end_of sub = omega (arith, ends s at sub e last) in
        subst (Yields at) (sym o) (then at sub (stopped None (end_of sub)) e (none_yet (end_of sub) None (end_of sub) end))
    by_bit sub e false more =
        let o : scan (suc room) s at ≡ before sub (scan room s (end_of sub)) = turn room at (Ok (Some sub)) e ∙ rw more in
        subst (Yields at) (sym o) (then at sub (scan room s (end_of sub)) e (again (end_of sub) (sym (ap (λ (x : Opening). x.refused) o) ∙ h)))

    by-header : (x : Result (Option SubFrame) Refusal) → header_at s at ≡ x → Yields at (scan (suc room) s at)
    by-header (Ok (Some sub)) e = by_bit sub e sub.last refl
    by-header (Err refusal) e = absurd (not-bad room at refusal h e)
    by-header (Ok None) e =
        let o : scan (suc room) s at ≡ stopped None at = turn room at (Ok None) e in
        subst (Yields at) (sym o) (none_yet at None at (past s at e))

  through : (room at : ℕ) → (scan room s at).refused ≡ None → Yields at (scan room s at)
  through zero at h = absurd (too_many at h)
  through (suc room) at h = by-header room at h (λ place n. through room place n) (header_at s at) refl

  -- a sound frame is not empty and not too long
  not-empty : (scanned s).refused ≡ None → length s ≡ 0 → ⊥
  not-empty h empty = cc (turns.empty s empty, h)

  is-scan : (scanned s).refused ≡ None → scanned s ≡ scan 64 s 0
  is-scan h =
      ⊎_elim (λ long. cc (turns.long s (not-empty h) long, h)) (λ short. turns.scans s (not-empty h) short)
      (lt-or-le 1600 (length s))

  module _ (h : (opening s).refused ≡ None) where
    scans : (scanned s).refused ≡ None
    scans = sym (turns.same-refusal s) ∙ h

    is-opening : opening s ≡ scan 64 s 0
    is-opening = turns.sound-is s scans ∙ is-scan scans

    is-sound : (scan 64 s 0).refused ≡ None
    is-sound = sym (ap (λ (x : Opening). x.refused) is-opening) ∙ h

    if_sound : Yields (start_of s) (opening s)
    if_sound = subst (λ (p : ℕ). Yields p (opening s)) (sym (cases.sound-start s h)) (subst (Yields 0) (sym is-opening) (through 64 0 is-sound))

    -- the first header is there, and is read
    by_first : (x : Result (Option SubFrame) Refusal) → header_at s 0 ≡ x → FirstYields frame
    by_first (Ok (Some sub)) e =
        record {
          sub = sub;
          is = ap (λ (p : ℕ). found (reader p)) (cases.sound-start s h) ∙ ap (λ (p : Place). p.found) (cases.goes_on s 0 (Ok (Some sub)) e);
        }
    by_first (Err refusal) e = absurd (not-bad 63 0 refusal is-sound e)
    by_first (Ok None) e = let l : length s ≡ 0 = omega (arith, past s 0 e) in absurd (not-empty scans l)

  none_found : (n : ℕ) (refusal : Refusal) → (opening s).refused ≡ Some refusal → yields n (opened frame) ≡ replicate n None
  none_found n refusal h =
      let end : length s ≤ length s = omega arith in
      ap (λ (p : ℕ). yields n (reader p)) (cases.refused-start s refusal h) ∙ none_left n (length s) end

  if_refused : (refusal : Refusal) → (opening s).refused ≡ Some refusal → Yields (start_of s) (opening s)
  if_refused refusal h more =
      let o : opening s ≡ stopped (Some refusal) (scanned s).at = turns.refused-is s refusal (sym (turns.same-refusal s) ∙ h) in
      let count : 0 + more ≡ more = omega arith in
      subst (λ (x : Opening). yields (length x.subs + more) (opened frame) ≡ map Some x.subs ++ replicate more None) (sym o)
      (ap (λ (n : ℕ). yields n (opened frame)) count ∙ none_found more refusal h)

  either : (r : Option Refusal) → (opening s).refused ≡ r → Yields (start_of s) (opening s)
  either None h = if_sound h
  either (Some refusal) h = if_refused refusal h

  says_refused : (n : ℕ) (r : Option Refusal) → (opening s).refused ≡ r → ((opening s).refused ≡ None → ⊥) → yields n (opened frame) ≡ replicate n None
  says_refused n None h some = absurd (some h)
  says_refused n (Some refusal) h some = none_found n refusal h

pub yields-the-opened-list : YieldsTheOpenedList
yields-the-opened-list frame = either frame (opening frame.now).refused refl

pub says_so : SaysSo
says_so =
    record {
      if_sound = λ frame h. by_first frame h (header_at frame.now 0) refl;
      if_refused = λ frame steps h. says_refused frame steps (opening frame.now).refused refl h;
    }

-- what a reader finds after n steps
abbrev pub onward : ℕ → Reader → Option SubFrame
onward zero r = found r
onward (suc n) r = onward n (stepped r)

-- what stands in a list after n others
abbrev placed : ℕ → List (Option SubFrame) → Option SubFrame
placed n [] = None
placed zero (f ∷ l) = f
placed (suc n) (f ∷ l) = placed n l

is-placed : (n m : ℕ) (r : Reader) → n < m → placed n (yields m r) ≡ onward n r
is-placed n zero r h = absurd (omega arith)
is-placed zero (suc m) r h = refl
is-placed (suc n) (suc m) r h = is-placed n m (stepped r) (omega arith)

none-placed : (n more : ℕ) → placed n (replicate more None) ≡ None
none-placed n zero = refl
none-placed zero (suc more) = refl
none-placed (suc n) (suc more) = none-placed n more

is-after : (n more : ℕ) (l : List SubFrame) → placed n (map Some l ++ replicate more None) ≡ after n l
is-after n more [] = none-placed n more
is-after zero more (sub ∷ l) = refl
is-after (suc n) more (sub ∷ l) = is-after n more l

pub finds-nth : (frame : Bor (List ℕ)) (n : ℕ) → onward n (opened frame) ≡ nth_of frame.now n
unfolding nth_of
finds-nth frame n =
    let l = (opening frame.now).subs in
    let within : n < length l + suc n = omega arith in
    sym (is-placed n (length l + suc n) (opened frame) within)
    ∙ ap (placed n) (yields-the-opened-list frame (suc n))
    ∙ is-after n (suc n) l

-- what is found after n steps more, where f was found last and r is the reader after it
abbrev pub ahead : ℕ → Option SubFrame → Reader → Option SubFrame
ahead zero f r = f
ahead (suc n) f r = onward n r

-- the first step: f is what it found, and p the reader after it
pub ahead-from : (n : ℕ) (r : Reader) (f : Option SubFrame) (p : Reader) → f ≡ found r → p ≡ stepped r → ahead n f p ≡ onward n r
ahead-from zero r f p a b = a
ahead-from (suc n) r f p a b = ap (onward n) b

-- one of the steps that are left: g is what it found, and p the reader after it
pub ahead-turn : (n m : ℕ) (f : Option SubFrame) (r : Reader) (g : Option SubFrame) (p : Reader) → g ≡ found r → p ≡ stepped r → n ≡ suc m → ahead m g p ≡ ahead n f r
ahead-turn n m f r g p a b one = rw one (ahead-from m r g p a b)

-- no step is left
pub ahead-none : (n : ℕ) (f : Option SubFrame) (r : Reader) → n ≤ 0 → ahead n f r ≡ f
ahead-none zero f r h = refl
ahead-none (suc n) f r h = absurd (omega arith)
