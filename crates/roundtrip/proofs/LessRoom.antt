-- The same list in less room: what fits is written alike, and the first that does not fit gets 21.
use Prim.Native.Nat.{ℕ, ◌+◌, ◌-◌, ◌<◌, ◌≤◌}
use mathlib.Core.Path.{◌≡◌, refl, sym, ap, ◌∙◌}
use mathlib.Core.List.{List, [], ◌∷◌, ◌++◌}
use mathlib.Core.Logic.{⊎_elim}
use native.Mathlib.Nat.{add-zero, zero-add}
use native.Mathlib.Omega.{arith}
use lib.ListN.{length, take, drop, length-append, take-append-drop}
use lib.Seq.{take_at, drop-drop, drop_at, length-take-le, take-append-le}
use Rattle.refusal.specs.declared.Refusal.TheVariants.{RoomTooSmall}
use Rattle.octets.specs.Room.{written}
use Rattle.octets.proofs.Order.{lt-or-le}
use Rattle.octets.proofs.Writes.{length-written}
use Rattle.record.specs.Record.{found_at}
use Rattle.joining.specs.Joining.{joined}
use Rattle.place.specs.declared.Writer.{Writer}
use Rattle.place.specs.Place.{fresh_writer}
use Rattle.writer.specs.Writer.{writes, refuses, writing}
use Rattle.writer.proofs.WriteBack.{too_small, large-enough}
use Rattle.roundtrip.specs.Demand2.{Sub, AllStated, is_last, took, stopped, first, fed, LessRoom}
use Rattle.roundtrip.proofs.RoundTrip.{some}
use Rattle.roundtrip.proofs.Feeding.{Standing, First, feeding, same-took, first_taken}

-- the room up to the end of what is written, and beyond it
written-take : (room octets : List ℕ) (at : ℕ) → at + length octets ≤ length room → take (at + length octets) (written room at octets) ≡ take at room ++ octets
written-take room octets at fits =
    take_at (take at room ++ octets) (drop (at + length octets) room) (at + length octets)
    (simp (length-append, length-take-le at room (omega arith)))

written-drop : (room octets : List ℕ) (at n : ℕ) → at + length octets ≤ n → at + length octets ≤ length room → drop n (written room at octets) ≡ drop n room
written-drop room octets at n past fits =
    let end = at + length octets in
    let same : drop end (written room at octets) ≡ drop end room =
    drop_at (take at room ++ octets) (drop end room) end (simp (length-append, length-take-le at room (omega arith)))
    in
    let sum : end + (n - end) ≡ n = omega arith in
    rw sum at (sym (drop-drop (n - end) end (written room at octets)) ∙ ap (drop (n - end)) same ∙ drop-drop (n - end) end room)

written-front : (room octets : List ℕ) (at : ℕ) → at ≤ length room → take at (written room at octets) ≡ take at room
written-front room octets at here =
    let front : length (take at room) ≡ at = length-take-le at room here in
    let both : length (take at room ++ octets) ≡ at + length octets = simp (length-append, front) in
    take-append-le at (take at room ++ octets) (drop (at + length octets) room) (omega arith) ∙ take_at (take at room) octets at front

-- how it stops, from where the writer stands
record Stops (table frame small : List ℕ) (w : Writer) (ss : List Sub) (left : List ℕ) : Type 0 where
  before : List Sub
  s : Sub
  rest : List Sub
  here : Writer
  held : List ℕ
  next : Writer
  octets : List ℕ
  stops : fed table small w ss ≡ stopped RoomTooSmall (s ∷ rest) here held
  split : ss ≡ before ++ s ∷ rest
  counted : here.count ≡ w.count + length before
  ahead : w.at ≤ here.at
  fits_before : here.at ≤ length small
  would_be : writing (length frame) here (is_last rest) (found_at table s.cid) s.cid s.content ≡ writes octets next
  does_not_fit : length small < next.at
  stands : held ≡ take here.at left ++ drop here.at small

-- it stops behind one that fits
stops-behind : (table frame small : List ℕ) (w to : Writer) (left : List ℕ) (s : Sub) (ss : List Sub) (one : First table frame w to left s ss)
    → first table small w s ss ≡ writes one.octets one.next
    → w.at + length one.octets ≤ length small
    → Stops table (written frame w.at one.octets) (written small w.at one.octets) one.next ss left
    → Stops table frame small w (s ∷ ss) left
unfolding fed
stops-behind table frame small w to left s ss one taken fits stop =
    let kept = length-written small one.octets w.at fits in
    let size : w.at + length one.octets ≡ one.next.at = one.size in
    let on : one.next.at ≤ stop.here.at = stop.ahead in
    record {
      before = s ∷ stop.before;
      s = stop.s;
      rest = stop.rest;
      here = stop.here;
      held = stop.held;
      next = stop.next;
      octets = stop.octets;
      stops = rw taken stop.stops;
      split = ap (λ (l : List Sub). s ∷ l) stop.split;
      counted = omega (arith, one.count, stop.counted);
      ahead = omega arith;
      fits_before = rw kept at stop.fits_before;
      would_be = rw one.kept at stop.would_be;
      does_not_fit = rw kept at stop.does_not_fit;
      stands =
          stop.stands ∙ ap (λ (l : List ℕ). take stop.here.at left ++ l) (written-drop small one.octets w.at stop.here.at (omega arith) fits);
    }

less-room-from : (table : List ℕ) (ss : List Sub) (frame small : List ℕ) (w to : Writer) (left : List ℕ)
    → AllStated ss
    → w.done ≡ is_last ss
    → Standing w frame
    → take w.at frame ≡ take w.at small
    → fed table frame w ss ≡ took to left
    → w.at ≤ length small
    → length small < to.at
    → Stops table frame small w ss left
unfolding fed
less-room-from table [] frame small w to left stated done stands alike is before past =
    let same : w.at ≡ to.at = ap (λ (v : Writer). v.at) (same-took w to frame left is).0 in
    absurd (omega arith)
less-room-from table (s ∷ ss) frame small w to left stated done stands alike is before past =
    let one = first_taken table frame w to left s ss is in
    let octets = one.octets in
    let next = one.next in
    let run = feeding table (s ∷ ss) frame w to left stated done stands is in
    ⊎_elim
    (λ short.
    let refused : first table small w s ss ≡ refuses RoomTooSmall =
    too_small w (is_last ss) (found_at table s.cid) s.cid s.content octets next one.got (length small) short
    in
    let kept : take w.at left ≡ take w.at small =
    ap (take w.at) run.holds ∙ written-front frame (joined run.contents) w.at stands.inside ∙ alike
    in
    record {
      before = [];
      s = s;
      rest = ss;
      here = w;
      held = small;
      next = next;
      octets = octets;
      stops = rw refused;
      split = refl;
      counted = sym (add-zero w.count);
      ahead = omega arith;
      fits_before = before;
      would_be = one.does;
      does_not_fit = short;
      stands = sym (ap (λ (l : List ℕ). l ++ drop w.at small) kept ∙ take-append-drop w.at small);
    })
    (λ enough.
    let taken : first table small w s ss ≡ writes octets next =
    large-enough w (is_last ss) (found_at table s.cid) s.cid s.content octets next one.got (length small) enough
    in
    let inside : next.at ≤ length frame = rw one.kept at one.stands.inside in
    let ends : w.at + length octets ≡ next.at = one.size in
    let fits-small : w.at + length octets ≤ length small = omega arith in
    let kept = length-written small octets w.at fits-small in
    let same : take next.at (written frame w.at octets) ≡ take next.at (written small w.at octets) =
    rw (← ends)
    (written-take frame octets w.at (omega arith) ∙ ap (λ (l : List ℕ). l ++ octets) alike ∙ sym (written-take small octets w.at fits-small))
    in
    stops-behind table frame small w to left s ss one taken fits-small
    (less-room-from table ss (written frame w.at octets) (written small w.at octets) next to left stated.1 one.done one.stands same one.rest
    (rw kept enough)
    (rw kept past)))
    (lt-or-le (length small) next.at)

pub less-room : LessRoom
less-room table frame small ss w left legal past =
    let stop =
    less-room-from table ss frame small fresh_writer w left legal.stated (some table frame ss w left legal)
    (record { few = omega arith; within = omega arith; inside = omega arith })
    refl
    legal.taken
    (omega arith)
    past
    in
    record {
      before = stop.before;
      s = stop.s;
      rest = stop.rest;
      w = stop.here;
      held = stop.held;
      next = stop.next;
      octets = stop.octets;
      stops = stop.stops;
      split = stop.split;
      counted = stop.counted ∙ zero-add (length stop.before);
      fits_before = stop.fits_before;
      would_be = stop.would_be;
      does_not_fit = stop.does_not_fit;
      stands = stop.stands;
    }
