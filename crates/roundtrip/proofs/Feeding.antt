-- The writer fed a list: what it leaves is the joined form of the contents, from where it stood.
use Prim.Native.Nat.{ℕ, ◌+◌, ◌≤◌}
use mathlib.Core.Path.{◌≡◌, refl, sym, ap, ◌∙◌}
use mathlib.Core.List.{List, [], ◌∷◌, ◌++◌}
use mathlib.Core.Bool.{Bool, true}
use native.Mathlib.Nat.{add-zero}
use native.Mathlib.Omega.{arith}
use borrow.Author.Tests.{ltb-false}
use lib.ListN.{length, length-append}
use Rattle.octets.specs.Room.{written}
use Rattle.octets.proofs.Writes.{written_none, length-written, written_twice}
use Rattle.record.specs.Record.{found_at}
use Rattle.frame.specs.Opening.{most_octets, most_sub_frames}
use Rattle.joining.specs.Joining.{joined, is_none, header_size, shortest_header}
use Rattle.joining.specs.Joining as joining
use Rattle.joining.proofs.HeaderWritten as header
use Rattle.framing.specs.Claims.{Each}
use Rattle.payload.specs.Content.{kind_of}
use Rattle.place.specs.declared.Writer.{Writer}
use Rattle.place.specs.Place.{most_not_last, too_long}
use Rattle.writer.specs.Writer.{Writing, writes, refuses, left_writing}
use Rattle.place.proofs.ChannelCases.{small-typed}
use Rattle.writer.proofs.WriteBack.{Took, took-back}
use Rattle.roundtrip.specs.Demand2.{Sub, AllStated, is_last, took, after, onwards, first, fed, AllMade}

-- where a writer may stand
pub record Standing (w : Writer) (frame : List ℕ) : Type 0 where
  pub few : w.count ≤ most_sub_frames
  pub within : w.at ≤ most_octets
  pub inside : w.at ≤ length frame

-- a list taken whole
pub record Run (table frame : List ℕ) (ss : List Sub) (w to : Writer) (left : List ℕ) : Type 0 where
  pub contents : List joining.Member
  pub each-made : AllMade table ss contents
  pub each : Each contents
  pub holds : left ≡ written frame w.at (joined contents)
  pub at : to.at ≡ w.at + length (joined contents)
  pub count : to.count ≡ w.count + length contents
  pub done : to.done ≡ true
  pub stands : Standing to frame

pub same-took : (v w : Writer) (a b : List ℕ) → took v a ≡ took w b → (v ≡ w) × (a ≡ b)
same-took v w a b e = (cc, cc)

pub last-alike : (table : List ℕ) (ss : List Sub) (cs : List joining.Member) → AllMade table ss cs → is_last ss ≡ is_none cs
last-alike table [] [] all = refl
last-alike table [] (c ∷ cs) all = absurd all
last-alike table (s ∷ ss) [] all = absurd all
last-alike table (s ∷ ss) (c ∷ cs) all = refl

-- what the writer took of the first sub-frame, where it takes all, and where it then stands
pub record First (table frame : List ℕ) (w to : Writer) (left : List ℕ) (s : Sub) (ss : List Sub) : Type 0 where
  pub octets : List ℕ
  pub next : Writer
  pub does : first table frame w s ss ≡ writes octets next
  pub rest : fed table (written frame w.at octets) next ss ≡ took to left
  pub got : Took w (is_last ss) (found_at table s.cid) s.cid s.content octets next
  pub size : w.at + length octets ≡ next.at
  pub count : next.count ≡ w.count + 1
  pub done : next.done ≡ is_last ss
  pub kept : length (written frame w.at octets) ≡ length frame
  pub stands : Standing next (written frame w.at octets)

pub first_taken : (table frame : List ℕ) (w to : Writer) (left : List ℕ) (s : Sub) (ss : List Sub)
    → fed table frame w (s ∷ ss) ≡ took to left
    → First table frame w to left s ss
unfolding fed
first_taken table frame w to left s ss is = go (first table frame w s ss) refl is
  where
    go : (does : Writing) → first table frame w s ss ≡ does
        → onwards does (s ∷ ss) w frame (fed table (left_writing does frame w.at) (after does w) ss) ≡ took to left
        → First table frame w to left s ss
    go (refuses refusal) does is = absurd cc
    go (writes octets next) does is =
        let back = took-back w (is_last ss) (found_at table s.cid) s.cid s.content octets next (length frame) does in
        let got = back.0 in
        let long : length octets ≡ header_size s.cid got.ptype (is_last ss) + length got.payload =
        ap length got.are ∙ simp (length-append, header.size_is s.cid got.ptype (is_last ss) (length got.payload))
        in
        let ends : next.at ≡ w.at + header_size s.cid got.ptype (is_last ss) + length got.payload = ap (λ (v : Writer). v.at) got.goes_on in
        let count : next.count ≡ w.count + 1 = ap (λ (v : Writer). v.count) got.goes_on in
        let inside : next.at ≤ length frame = back.1 in
        let kept : length (written frame w.at octets) ≡ length frame = length-written frame octets w.at (omega arith) in
        record {
          octets = octets;
          next = next;
          does = does;
          rest = is;
          got = got;
          size = omega arith;
          count = count;
          done = ap (λ (v : Writer). v.done) got.goes_on;
          kept = kept;
          stands = record { few = rw count got.few; within = got.within; inside = rw kept inside };
        }

-- one sub-frame, and the rest behind it
prepended : (table frame : List ℕ) (w to : Writer) (left : List ℕ) (s : Sub) (ss : List Sub)
    → s.cid ≤ 255
    → (one : First table frame w to left s ss)
    → Run table (written frame w.at one.octets) ss one.next to left
    → Run table frame (s ∷ ss) w to left
unfolding joined
prepended table frame w to left s ss octet one run =
    let got = one.got in
    let cs = run.contents in
    let content : joining.Member = record { cid = s.cid; ptype = got.ptype; payload = got.payload } in
    let len = length got.payload in
    let alike : is_last ss ≡ is_none cs = last-alike table ss cs run.each-made in
    let whole : one.octets ++ joined cs ≡ joined (content ∷ cs) =
    ap (λ (l : List ℕ). l ++ joined cs) (got.are ∙ ap (λ (l : Bool). shortest_header s.cid got.ptype l len ++ got.payload) alike)
    in
    let joint : length (joined (content ∷ cs)) ≡ length one.octets + length (joined cs) = ap length (sym whole) ∙ length-append one.octets (joined cs) in
    let at : to.at ≡ one.next.at + length (joined cs) = run.at in
    let inside : to.at ≤ length frame = rw one.kept at run.stands.inside in
    record {
      contents = content ∷ cs;
      each-made = ((refl, got.typed, got.makes), run.each-made);
      each = (
        record {
          free = got.free;
          small = octet;
          four_bits = omega (arith, small-typed (found_at table s.cid) (kind_of s.content) got.ptype got.typed);
          short = λ more. ltb-false most_not_last len (sym (ap (λ (l : Bool). too_long l len) (alike ∙ more)) ∙ got.short);
        },
        run.each,
      );
      holds =
          run.holds ∙ ap (λ (n : ℕ). written (written frame w.at one.octets) n (joined cs)) (sym one.size)
          ∙ written_twice frame one.octets (joined cs) w.at (omega arith)
          ∙ ap (written frame w.at) whole;
      at = omega arith;
      count = omega (arith, run.count);
      done = run.done;
      stands = record { few = run.stands.few; within = run.stands.within; inside = inside };
    }

pub feeding : (table : List ℕ) (ss : List Sub) (frame : List ℕ) (w to : Writer) (left : List ℕ)
    → AllStated ss
    → w.done ≡ is_last ss
    → Standing w frame
    → fed table frame w ss ≡ took to left
    → Run table frame ss w to left
unfolding fed joined
feeding table [] frame w to left stated done stands is =
    let same = same-took w to frame left is in
    record {
      contents = [];
      each-made = tt;
      each = tt;
      holds = sym same.1 ∙ sym (written_none frame w.at);
      at = cc (add-zero w.at);
      count = cc (add-zero w.count);
      done = cc;
      stands = rw (← same.0) stands;
    }
feeding table (s ∷ ss) frame w to left stated done stands is =
    let one = first_taken table frame w to left s ss is in
    prepended table frame w to left s ss stated.0.octet one
    (feeding table ss (written frame w.at one.octets) one.next to left stated.1 one.done one.stands one.rest)
