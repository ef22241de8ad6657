-- What is joined opens to the same list: `OpensToTheSame` of specs/Claims.antt.
use Prim.Native.Nat.{ℕ, zero, suc, ◌+◌, ◌*◌, ◌/◌, ◌<◌, ◌≤◌}
use mathlib.Core.Path.{◌≡◌, refl, sym, ap, ◌∙◌}
use mathlib.Core.List.{List, [], ◌∷◌, ◌++◌, map, append-nil, append_assoc}
use mathlib.Core.Bool.{Bool, true, false, cond}
use mathlib.Core.Logic.{⊎_elim}
use native.Mathlib.Nat.{not-suc-le-zero, le_of_suc-le-suc}
use native.Mathlib.Omega.{arith}
use lib.ListN.{length, take, drop, length-append}
use lib.Seq.{drop-drop, drop_at, take_at}
use Rattle.octets.proofs.Order.{eq-or-ne}
use Rattle.header.specs.declared.SubFrame.{SubFrame}
use Rattle.std.specs.declared.result.Result.TheVariants.{Ok}
use Rattle.std.specs.declared.option.Option.TheVariants.{Some, None}
use Rattle.header.specs.Header.{header_at, end_of}
use Rattle.frame.specs.Opening.{most_sub_frames, Opening, scan, scanned, before, stopped}
use Rattle.joining.specs.Joining.{Member, is_none, joined, ei_for, li_for, header_with, shortest_header, header_size}
use Rattle.joining.proofs.HeaderWritten.{ei-one-of, ei-out, ei-set, size_is, some-room}
use Rattle.frame.proofs.OpeningTurns as turns
use Rattle.framing.specs.Claims.{Each, Fits, content_of, OpensToTheSame}
use Rattle.framing.proofs.ReadBack.{Enough, last-back, more-back}

-- the EI that the shortest form writes says enough
enough : (cid ptype : ℕ) → 4 ≤ cid → ptype ≤ 15 → Enough (ei_for cid ptype) cid ptype
enough cid ptype free four_bits =
    record {
      bit = ei-one-of cid ptype;
      whole = ⊎_elim (λ e. rw (ei-out cid ptype e, e)) (λ ne. rw (ei-set cid ptype ne)) (eq-or-ne (cid / 64 * 64 + ptype) 0);
      free = free;
      four_bits = four_bits;
    }

header-length : (cid ptype : ℕ) (last : Bool) (len : ℕ) → length (header_with (ei_for cid ptype) cid ptype last len) ≡ 1 + ei_for cid ptype + li_for last
unfolding shortest_header header_size
header-length cid ptype last len = size_is cid ptype last len

-- a payload stands behind its header, and what follows behind that
module _ (F header payload rest : List ℕ) (at size : ℕ) (stands : drop at F ≡ header ++ (payload ++ rest)) (many : length header ≡ size) where
  behind-header : drop (at + size) F ≡ payload ++ rest
  behind-header = sym (drop-drop size at F) ∙ ap (drop size) stands ∙ drop_at header (payload ++ rest) size many

  payload-there : take (length payload) (drop (at + size) F) ≡ payload
  payload-there = ap (take (length payload)) behind-header ∙ take_at payload rest (length payload) refl

  rest-there : drop (at + size + length payload) F ≡ rest
  rest-there = sym (drop-drop (length payload) (at + size) F) ∙ ap (drop (length payload)) behind-header ∙ drop_at payload rest (length payload) refl

-- a scan that meets a header goes on behind it
pub scan-on :
    (F : List ℕ) (room at : ℕ) (sub : SubFrame)
    → header_at F at ≡ Ok (Some sub)
    → scan (suc room) F at ≡ before sub (cond sub.last (stopped None (end_of sub)) (scan room F (end_of sub)))
unfolding scan
scan-on F room at sub e = rw e

-- what is joined has an octet
joined-some : (d : Member) (ds : List Member) → 1 ≤ length (joined (d ∷ ds))
unfolding joined
joined-some d ds =
    let one : 1 ≤ header_size d.cid d.ptype (is_none ds) = some-room d.cid d.ptype (is_none ds) in
    simp (length-append, size_is) (omega arith)

same_from :
    (F : List ℕ) (cs : List Member) (room at : ℕ)
    → Each cs
    → 1 ≤ length cs
    → length cs ≤ room
    → drop at F ≡ joined cs
    → ((scan room F at).refused ≡ None) × (map (content_of F) (scan room F at).subs ≡ cs)
unfolding joined shortest_header
same_from F [] room at each some most stands = absurd (not-suc-le-zero some)
same_from F (c ∷ cs) zero at each some most stands = absurd (not-suc-le-zero most)
same_from F (c ∷ []) (suc room) at each some most stands =
    let e : ℕ = ei_for c.cid c.ptype in
    let header : List ℕ = header_with e c.cid c.ptype true (length c.payload) in
    let there : drop at F ≡ header ++ (c.payload ++ []) = stands ∙ append_assoc header c.payload [] in
    let read = last-back F at e c.cid c.ptype (length c.payload) c.payload (enough c.cid c.ptype each.0.free each.0.four_bits) (there ∙ ap (λ (l : List ℕ). header ++ l) (append-nil c.payload)) in
    let content = payload-there F header c.payload [] at (1 + e + 0) there (header-length c.cid c.ptype true (length c.payload)) in
    let on = scan-on F room at _ read in
    (ap (λ (o : Opening). o.refused) on, ap (λ (o : Opening). map (content_of F) o.subs) on ∙ rw content)
same_from F (c ∷ d ∷ ds) (suc room) at each some most stands =
    let e : ℕ = ei_for c.cid c.ptype in
    let header : List ℕ = header_with e c.cid c.ptype false (length c.payload) in
    let rest : List ℕ = joined (d ∷ ds) in
    let there : drop at F ≡ header ++ (c.payload ++ rest) = stands ∙ append_assoc header c.payload rest in
    let size = header-length c.cid c.ptype false (length c.payload) in
    let less : length c.payload < length (c.payload ++ rest) = simp length-append (omega (arith, joined-some d ds)) in
    let read = more-back F at e c.cid c.ptype (length c.payload) (c.payload ++ rest) (enough c.cid c.ptype each.0.free each.0.four_bits) less there in
    let content = payload-there F header c.payload rest at (1 + e + 1) there size in
    let on = scan-on F room at _ read in
    let more = same_from F (d ∷ ds) room (at + (1 + e + 1) + length c.payload) each.1 (omega arith) (le_of_suc-le-suc most) (rest-there F header c.payload rest at (1 + e + 1) there size) in
    (ap (λ (o : Opening). o.refused) on ∙ more.0, ap (λ (o : Opening). map (content_of F) o.subs) on ∙ rw (content, more.1))

-- the tests for 1 and 2 are passed
scans : (cs : List Member) → Fits cs → scanned (joined cs) ≡ scan most_sub_frames (joined cs) 0
scans [] fits = absurd (not-suc-le-zero fits.some)
scans (c ∷ cs) fits = turns.scans (joined (c ∷ cs)) (λ none. omega (arith, joined-some c cs)) fits.whole

pub opens-to-the-same : OpensToTheSame
opens-to-the-same cs fits =
    let whole = scans cs fits in
    let same = same_from (joined cs) cs most_sub_frames 0 fits.each fits.some fits.most refl in
    let good : (scanned (joined cs)).refused ≡ None = ap (λ (o : Opening). o.refused) whole ∙ same.0 in
    rw (turns.sound-is (joined cs) good ∙ whole) same
