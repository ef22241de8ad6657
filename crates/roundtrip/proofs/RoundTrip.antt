-- Demand 2: what was written is the joined form of the contents, which opens to them, and each reads back.
use Prim.Native.Nat.{ℕ, ◌+◌, ◌≤◌}
use mathlib.Core.Path.{◌≡◌, refl, sym, ap, ap₂, ◌∙◌, subst}
use mathlib.Core.List.{List, [], ◌∷◌, ◌++◌, map}
use mathlib.Core.Bool.{false}
use native.Mathlib.Nat.{zero-add}
use native.Mathlib.Omega.{arith}
use lib.ListN.{length, take, drop}
use lib.Seq.{take-append_seam}
use Rattle.octets.specs.Room.{written}
use Rattle.octets.proofs.Order.{clash}
use Rattle.record.specs.Record.{found_at}
use Rattle.frame.specs.Opening.{opening, most_octets, most_sub_frames}
use Rattle.joining.specs.Joining.{joined}
use Rattle.joining.specs.Joining as joining
use Rattle.framing.specs.Claims.{Fits, Sound, content_of, list}
use Rattle.framing.proofs.Same.{opens-to-the-same}
use Rattle.framing.proofs.Shortest.{one-shortest}
use Rattle.payload.specs.Content.{payload_read}
use Rattle.payload.proofs.ContentBack.{content-reads-back}
use Rattle.place.specs.declared.Writer.{Writer}
use Rattle.place.specs.Place.{fresh_writer}
use Rattle.roundtrip.specs.Demand2.{Sub, AllStated, is_last, fed, Legal, frame_of, Got, gotten, same_as, WrittenReadsBack, AllMade, LegalIsMade}
use Rattle.roundtrip.proofs.Feeding.{Run, feeding, same-took}

map-map : {A B C : Type 0} (f : B → C) (g : A → B) (l : List A) → map f (map g l) ≡ map (λ a. f (g a)) l
map-map f g [] = refl
map-map f g (a ∷ l) = ap (λ t. f (g a) ∷ t) (map-map f g l)

-- what is read of a content, by the record of its sub-channel
abbrev got : List ℕ → joining.Member → Got
got table c = record { cid = c.cid; reading = payload_read (found_at table c.cid) c.ptype c.payload }

got-back : (table : List ℕ) (ss : List Sub) (cs : List joining.Member) → AllStated ss → AllMade table ss cs → map (got table) cs ≡ map same_as ss
got-back table [] [] stated all = refl
got-back table [] (c ∷ cs) stated all = absurd all
got-back table (s ∷ ss) [] stated all = absurd all
got-back table (s ∷ ss) (c ∷ cs) stated all =
    let cid : c.cid ≡ s.cid = all.0.0 in
    let reading = content-reads-back (found_at table s.cid) s.content c.ptype c.payload stated.0.thirty all.0.1 all.0.2 in
    ap₂ ◌∷◌ (rw (cid, reading)) (got-back table ss cs stated.1 all.1)

-- a legal list is not empty
pub some : (table frame : List ℕ) (ss : List Sub) (w : Writer) (left : List ℕ) → Legal table frame ss w left → fresh_writer.done ≡ is_last ss
unfolding fed
some table frame [] w left legal = clash w.done legal.to_last (ap (λ (v : Writer). v.done) (sym (same-took fresh_writer w frame left legal.taken).0))
some table frame (s ∷ ss) w left legal = refl

some-made : (table : List ℕ) (ss : List Sub) (cs : List joining.Member) → false ≡ is_last ss → AllMade table ss cs → 1 ≤ length cs
some-made table [] cs more all = clash false more refl
some-made table (s ∷ ss) [] more all = absurd all
some-made table (s ∷ ss) (c ∷ cs) more all = omega arith

pub legal-run : (table frame : List ℕ) (ss : List Sub) (w : Writer) (left : List ℕ) → Legal table frame ss w left → Run table frame ss fresh_writer w left
legal-run table frame ss w left legal =
    feeding table ss frame fresh_writer w left legal.stated (some table frame ss w left legal)
    (record { few = omega arith; within = omega arith; inside = omega arith })
    legal.taken

-- the joined form of the contents fits a frame
run_fits : (table frame : List ℕ) (ss : List Sub) (w : Writer) (left : List ℕ) (legal : Legal table frame ss w left)
    → Fits (legal-run table frame ss w left legal).contents
run_fits table frame ss w left legal =
    let run = legal-run table frame ss w left legal in
    let cs = run.contents in
    let few : w.count ≤ most_sub_frames = run.stands.few in
    let count : w.count ≡ length cs = run.count ∙ zero-add (length cs) in
    let most : w.at ≤ most_octets = run.stands.within in
    let at : w.at ≡ length (joined cs) = run.at ∙ zero-add (length (joined cs)) in
    record {
      some = some-made table ss cs (some table frame ss w left legal) run.each-made;
      most = omega arith;
      each = run.each;
      whole = omega arith;
    }

pub legal-is-made : LegalIsMade
legal-is-made table frame ss w left legal =
    let run = legal-run table frame ss w left legal in
    let cs = run.contents in
    let at : w.at ≡ length (joined cs) = run.at ∙ zero-add (length (joined cs)) in
    let count : w.count ≡ length cs = run.count ∙ zero-add (length cs) in
    let here : w.at ≤ length frame = run.stands.inside in
    (cs, run.each-made, run_fits table frame ss w left legal, rw at at here, rw (← at, ← count, ← run.done), run.holds)

-- the frame that was written
pub frame_is : (room f : List ℕ) → take (length f) (written room 0 f) ≡ f
frame_is room f = take-append_seam f (drop (0 + length f) room)

pub written-reads-back : WrittenReadsBack
written-reads-back table frame ss w left legal =
    let run = legal-run table frame ss w left legal in
    let cs = run.contents in
    let f = joined cs in
    let at : w.at ≡ length f = run.at ∙ zero-add (length f) in
    let is : frame_of w left ≡ f = ap₂ take at run.holds ∙ frame_is frame f in
    let opens = opens-to-the-same cs (run_fits table frame ss w left legal) in
    let same : gotten table f ≡ map same_as ss =
    sym (map-map (got table) (content_of f) (opening f).subs) ∙ ap (map (got table)) opens.1
    ∙ got-back table ss cs legal.stated run.each-made
    in
    record {
      inside = run.stands.inside;
      beyond = run.holds ∙ ap₂ (λ (a : List ℕ) (n : ℕ). a ++ drop n frame) (sym is) (zero-add (length f) ∙ sym at);
      sound = subst Sound (sym is) opens.0;
      same = ap (gotten table) is ∙ same;
      shortest =
          λ g octets sound alike.
          subst (λ (x : List ℕ). (length x ≤ length g) × (length g ≡ length x → g ≡ x)) (sym is)
          (one-shortest g cs octets sound (alike ∙ ap list is ∙ opens.1));
    }
