-- Contents that are made and fit are taken, and written as joined.
use Prim.Native.Nat.{ℕ, ◌+◌, ◌≤◌}
use mathlib.Core.Path.{◌≡◌, refl, sym, ap, ap₂, ◌∙◌}
use mathlib.Core.List.{List, [], ◌∷◌, ◌++◌}
use mathlib.Core.Bool.{Bool, true, false}
use native.Mathlib.Nat.{add-zero, zero-add}
use native.Mathlib.Omega.{arith}
use borrow.Author.Tests.{le-ltb}
use lib.ListN.{length, length-append}
use Rattle.octets.specs.Room.{written}
use Rattle.octets.proofs.Writes.{written_none, length-written, written_twice}
use Rattle.record.specs.Record.{found_at}
use Rattle.frame.specs.Opening.{most_octets, most_sub_frames}
use Rattle.joining.specs.Joining.{joined, is_none, header_size, shortest_header}
use Rattle.joining.specs.Joining as joining
use Rattle.joining.proofs.HeaderWritten as header
use Rattle.framing.specs.Claims.{Carriable, Each}
use Rattle.place.specs.declared.Writer.{Writer}
use Rattle.place.specs.Place.{fresh_writer, most_not_last, too_long}
use Rattle.writer.specs.Writer.{writes, writing}
use Rattle.writer.proofs.WriteBack.{Took, large-enough}
use Rattle.roundtrip.specs.Demand2.{Sub, took, first, fed, AllMade, MadeIsTaken}
use Rattle.roundtrip.proofs.Feeding.{last-alike}

-- the writer after these, from where it stood
abbrev beyond : Writer → List joining.Member → Writer
beyond w cs = record { at = w.at + length (joined cs); count = w.count + length cs; done = true }

short : (c : joining.Member) (last : Bool) → Carriable c last → too_long last (length c.payload) ≡ false
short c true fits = refl
short c false fits = le-ltb most_not_last (length c.payload) (fits.short refl)

-- where they have room
record Room (w : Writer) (frame : List ℕ) (cs : List joining.Member) : Type 0 where
  going : w.done ≡ is_none cs
  few : w.count + length cs ≤ most_sub_frames
  within : w.at + length (joined cs) ≤ most_octets
  inside : w.at + length (joined cs) ≤ length frame

-- each is written as its header and its payload
made-taken : (table : List ℕ) (ss : List Sub) (cs : List joining.Member) (frame : List ℕ) (w : Writer)
    → AllMade table ss cs
    → Each cs
    → Room w frame cs
    → fed table frame w ss ≡ took (beyond w cs) (written frame w.at (joined cs))
unfolding fed joined
made-taken table [] [] frame w all each room =
    ap₂ took (rw (add-zero w.at, add-zero w.count, ← room.going)) (sym (written_none frame w.at))
made-taken table [] (c ∷ cs) frame w all each room = absurd all
made-taken table (s ∷ ss) [] frame w all each room = absurd all
made-taken table (s ∷ ss) (c ∷ cs) frame w all each room =
    let len = length c.payload in
    let octets : List ℕ = shortest_header c.cid c.ptype (is_none cs) len ++ c.payload in
    let next : Writer = record { at = w.at + length octets; count = w.count + 1; done = is_none cs } in
    let cid : c.cid ≡ s.cid = all.0.0 in
    let size : length octets ≡ header_size c.cid c.ptype (is_none cs) + len =
    simp (length-append, header.size_is c.cid c.ptype (is_none cs) len)
    in
    let whole : length (joined (c ∷ cs)) ≡ length octets + length (joined cs) = length-append octets (joined cs) in
    let kept : length (written frame w.at octets) ≡ length frame = length-written frame octets w.at (omega arith) in
    let will-take : Took w (is_none cs) (found_at table s.cid) s.cid s.content octets next =
    record {
      ptype = c.ptype;
      payload = c.payload;
      going = room.going;
      free = rw cid at each.0.free;
      typed = all.0.1;
      makes = all.0.2;
      are = rw cid;
      goes_on = ap (λ (n : ℕ). record { at = n; count = w.count + 1; done = is_none cs }) (rw (← cid) (omega arith));
      short = short c (is_none cs) each.0;
      few = omega arith;
      within = omega arith;
    }
    in
    let does : first table frame w s ss ≡ writes octets next =
    ap (λ (l : Bool). writing (length frame) w l (found_at table s.cid) s.cid s.content) (last-alike table ss cs all.1)
    ∙ large-enough w (is_none cs) (found_at table s.cid) s.cid s.content octets next will-take (length frame) (omega arith)
    in
    rw does
    (made-taken table ss cs (written frame w.at octets) next all.1 each.1
    (record { going = refl; few = omega arith; within = omega arith; inside = omega arith })
    ∙ ap₂ took (ap₂ (λ (a n : ℕ). record { at = a; count = n; done = true }) (omega arith) (omega arith))
    (written_twice frame octets (joined cs) w.at (omega arith)))

none_done : (cs : List joining.Member) → 1 ≤ length cs → false ≡ is_none cs
none_done [] some = absurd (omega arith)
none_done (c ∷ cs) some = refl

pub made-is-taken : MadeIsTaken
made-is-taken table frame ss cs all fits room =
    made-taken table ss cs frame fresh_writer all fits.each
    (record { going = none_done cs fits.some; few = omega (arith, fits.most); within = omega (arith, fits.whole); inside = omega arith })
    ∙ ap₂ (λ (a n : ℕ). took (record { at = a; count = n; done = true }) (written frame 0 (joined cs))) (zero-add (length (joined cs))) (zero-add (length cs))
