-- Every sound frame is as long as the joined form of its list, plus one octet for each needless octet 1a: `AsLongAsJoined`
-- and `OneShortest` of specs/Claims.antt.
use Prim.Native.Nat.{ℕ, zero, suc, ◌+◌, ◌-◌, ◌<◌, ◌≤◌}
use mathlib.Core.Path.{◌≡◌, refl, sym, ap, ap₂, subst, ◌∙◌}
use mathlib.Core.List.{List, [], ◌∷◌, ◌++◌, map, append_assoc}
use mathlib.Core.Bool.{Bool, true, false, cond}
use mathlib.Core.Logic.{⊎_elim}
use native.Mathlib.Nat.{not-suc-le-zero}
use native.Mathlib.Omega.{arith}
use lib.Dec.{T, eqb}
use lib.ListN.{length, get_or, take, drop, length-append, length-drop, length-map, drop_of_length-le}
use lib.Seq.{length-take-le}
use Rattle.octets.proofs.Order.{lt-or-le, eq-or-ne}
use Rattle.octets.specs.Octets.{Octets}
use Rattle.header.specs.declared.SubFrame.{SubFrame}
use Rattle.std.specs.declared.result.Result.TheVariants.{Ok}
use Rattle.std.specs.declared.option.Option.TheVariants.{Some, None}
use Rattle.header.specs.Header.{ei, octet1, header_at, end_of}
use Rattle.frame.specs.Opening.{most_octets, most_sub_frames, Opening, scan, scanned, opening, before, stopped}
use Rattle.joining.specs.Joining.{Member, is_none, joined, ei_for, li_for, header_with, shortest_header, header_size}
use Rattle.joining.proofs.HeaderWritten.{ei-one-of, with_size, size_is}
use Rattle.header.proofs.HeaderInverse as inverse
use Rattle.header.proofs.HeaderCases as cases
use Rattle.frame.proofs.OpeningTurns as turns
use Rattle.framing.specs.Claims.{Carriable, Each, content_of, list, Sound, needless, AsLongAsJoined, OneShortest}
use Rattle.framing.proofs.Recompose as made
use Rattle.framing.proofs.Same as same

-- what holds of the sub-frames from a place on
record From (s : List ℕ) (room at : ℕ) (subs : List SubFrame) : Type 0 where
  some : 1 ≤ length subs
  most : length subs ≤ room
  each : Each (map (content_of s) subs)
  longer : length s - at ≡ length (joined (map (content_of s) subs)) + needless s at subs
  same : needless s at subs ≡ 0 → drop at s ≡ joined (map (content_of s) subs)

never : {A : Type 0} → true ≡ false → A
never z = absurd (subst T z tt)

not_none : (cs : List Member) → 1 ≤ length cs → is_none cs ≡ false
not_none [] some = absurd (not-suc-le-zero some)
not_none (c ∷ cs) some = refl

joined_length :
    (c : Member) (cs : List Member)
    → length (joined (c ∷ cs)) ≡ header_size c.cid c.ptype (is_none cs) + length c.payload + length (joined cs)
unfolding joined
joined_length c cs = simp (length-append, size_is)

no_more : {n : ℕ} → n ≡ 0 → n ≡ length (joined []) + 0
unfolding joined
no_more e = e

nothing_left : (s : List ℕ) (at : ℕ) → length s ≤ at → drop at s ≡ joined []
unfolding joined
nothing_left s at over = drop_of_length-le s over

module _ (s : List ℕ) (octets : Octets s) where
  -- a sound scan begins with a sub-frame
  begins :
      (room at : ℕ)
      → at < length s
      → (scan (suc room) s at).refused ≡ None
      → (sub : SubFrame) × (header_at s at ≡ Ok (Some sub))
  unfolding scan
  begins room at here good =
      let there = cases.there s at here in
      ⊎_elim
      (λ r. let bad : (scan (suc room) s at).refused ≡ Some r.0 = rw (there ∙ r.1) in cc (bad, good))
      (λ w. (w.0, there ∙ w.1))
      (inverse.decided at _ _ _ _)

  module _ (at : ℕ) (sub : SubFrame) (read : header_at s at ≡ Ok (Some sub)) where
    -- one octet more where EI is set without need
    wasted : ei (get_or s at 0) ≡ ei_for sub.cid sub.ptype + cond (eqb (ei_for sub.cid sub.ptype) 0) (ei (get_or s at 0)) 0
    wasted =
        let first : octet1 (drop at s) ≡ get_or s at 0 = made.first_is s octets at sub read in
        ⊎_elim (λ (none : ei_for sub.cid sub.ptype ≡ 0). rw none (omega arith))
        (λ (one : ei_for sub.cid sub.ptype ≡ 1).
        ⊎_elim (λ z. absurd (omega (arith, made.ei-needed s octets at sub read z)))
        (λ (set : ei (octet1 (drop at s)) ≡ 1). rw (one, ← first, set))
        (made.ei-bit s octets at sub read))
        (ei-one-of sub.cid sub.ptype)

    payload-length : length (take sub.len (drop sub.start s)) ≡ sub.len
    payload-length =
        let within : end_of sub ≤ length s = inverse.ends-within s at sub read in
        length-take-le sub.len (drop sub.start s) (rw length-drop (omega arith))

    whole_length : length s - at ≡ 1 + ei (get_or s at 0) + li_for sub.last + (sub.len + (length s - end_of sub))
    whole_length =
        let e : ℕ = ei (octet1 (drop at s)) in
        let payload : List ℕ = take sub.len (drop sub.start s) in
        sym (length-drop at s)
        ∙ ap length (made.recompose s octets at sub read)
        ∙ length-append (header_with e sub.cid sub.ptype sub.last sub.len) (payload ++ drop (end_of sub) s)
        ∙ ap₂ (λ (x y : ℕ). x + y) (with_size e sub.cid sub.ptype sub.last sub.len (made.ei-bit s octets at sub read))
        (length-append payload (drop (end_of sub) s) ∙ ap₂ (λ (x y : ℕ). x + y) payload-length (length-drop (end_of sub) s))
        ∙ ap (λ (x : ℕ). 1 + ei x + li_for sub.last + (sub.len + (length s - end_of sub))) (made.first_is s octets at sub read)

    module _ (cs : List Member) (w : ℕ) (final : is_none cs ≡ sub.last)
        (longer : length s - end_of sub ≡ length (joined cs) + w) (same_rest : w ≡ 0 → drop (end_of sub) s ≡ joined cs) where
      size-is-told : header_size sub.cid sub.ptype (is_none cs) ≡ 1 + ei_for sub.cid sub.ptype + li_for sub.last
      unfolding header_size
      size-is-told = rw final

      step-longer :
          length s - at
          ≡ length (joined (content_of s sub ∷ cs)) + (cond (eqb (ei_for sub.cid sub.ptype) 0) (ei (get_or s at 0)) 0 + w)
      step-longer = omega (arith, whole_length, wasted, size-is-told, payload-length, joined_length (content_of s sub) cs)

      step_same :
          cond (eqb (ei_for sub.cid sub.ptype) 0) (ei (get_or s at 0)) 0 + w ≡ 0 → drop at s ≡ joined (content_of s sub ∷ cs)
      unfolding joined shortest_header
      step_same none =
          let ei-is : ei (octet1 (drop at s)) ≡ ei_for sub.cid sub.ptype =
          ap ei (made.first_is s octets at sub read) ∙ omega (arith, wasted)
          in
          let payload : List ℕ = take sub.len (drop sub.start s) in
          let header : ℕ → Bool → ℕ → List ℕ = λ x l n. header_with x sub.cid sub.ptype l n in
          made.recompose s octets at sub read
          ∙ ap (λ (x : ℕ). header x sub.last sub.len ++ (payload ++ drop (end_of sub) s)) ei-is
          ∙ ap (λ (l : Bool). header (ei_for sub.cid sub.ptype) l sub.len ++ (payload ++ drop (end_of sub) s)) (sym final)
          ∙ ap (λ (n : ℕ). header (ei_for sub.cid sub.ptype) (is_none cs) n ++ (payload ++ drop (end_of sub) s)) (sym payload-length)
          ∙ ap (λ (r : List ℕ). header (ei_for sub.cid sub.ptype) (is_none cs) (length payload) ++ (payload ++ r)) (same_rest (omega arith))
          ∙ sym (append_assoc (header (ei_for sub.cid sub.ptype) (is_none cs) (length payload)) payload (joined cs))

  carriable : (at : ℕ) (sub : SubFrame) → header_at s at ≡ Ok (Some sub) → (last : Bool) → (last ≡ false → length (content_of s sub).payload ≤ 255) → Carriable (content_of s sub) last
  carriable at sub read last short =
      record {
        free = made.cid-free s octets at sub read;
        small = made.cid-small s octets at sub read;
        four_bits = made.type-small s octets at sub read;
        short = short;
      }

  -- one more sub-frame in front of what is known of the rest
  step_from :
      (room at : ℕ) (sub : SubFrame)
      → header_at s at ≡ Ok (Some sub)
      → (scan (suc room) s at).refused ≡ None
      → (end_of sub < length s → (scan room s (end_of sub)).refused ≡ None → From s room (end_of sub) (scan room s (end_of sub)).subs)
      → (last : Bool)
      → sub.last ≡ last
      → From s (suc room) at (scan (suc room) s at).subs
  step_from room at sub read good rest true last =
      let on : scan (suc room) s at ≡ before sub (stopped None (end_of sub)) = same.scan-on s room at sub read ∙ rw last in
      let ends : end_of sub ≡ length s = made.last-ends s octets at sub read last in
      let over : length s - end_of sub ≡ 0 = omega arith in
      subst (λ (o : Opening). From s (suc room) at o.subs) (sym on)
      (record {
        some = omega arith;
        most = omega arith;
        each = (carriable at sub read true (λ z. never z), tt);
        longer = step-longer at sub read [] 0 (sym last) (no_more over) (λ z. nothing_left s (end_of sub) (omega arith));
        same = step_same at sub read [] 0 (sym last) (no_more over) (λ z. nothing_left s (end_of sub) (omega arith));
      })
  step_from room at sub read good rest false more =
      let on : scan (suc room) s at ≡ before sub (scan room s (end_of sub)) = same.scan-on s room at sub read ∙ rw more in
      let r = rest (made.more-on s octets at sub read more) (sym (ap (λ (o : Opening). o.refused) on) ∙ good) in
      let cs = map (content_of s) (scan room s (end_of sub)).subs in
      let final : is_none cs ≡ sub.last = not_none cs (rw length-map r.some) ∙ sym more in
      let w = needless s (end_of sub) (scan room s (end_of sub)).subs in
      subst (λ (o : Opening). From s (suc room) at o.subs) (sym on)
      (record {
        some = omega arith;
        most = omega (arith, r.most);
        each = (carriable at sub read _ (λ z. rw (payload-length at sub read) (made.more-short s octets at sub read more)), r.each);
        longer = step-longer at sub read cs w final r.longer r.same;
        same = step_same at sub read cs w final r.longer r.same;
      })

  from : (room at : ℕ) → at < length s → (scan room s at).refused ≡ None → From s room at (scan room s at).subs
  unfolding scan
  from zero at here good = cc
  from (suc room) at here good =
      let b = begins room at here good in
      step_from room at b.0 b.1 good (λ h g. from room (end_of b.0) h g) b.0.last refl

-- a sound frame is neither empty nor too long
passes : (s : List ℕ) → Sound s → (1 ≤ length s) × (length s ≤ most_octets)
passes s good =
    let scans : (scanned s).refused ≡ None = sym (turns.same-refusal s) ∙ good in
    ⊎_elim (λ empty. cc (turns.empty s empty, scans))
    (λ some.
    ⊎_elim (λ long. cc (turns.long s some long, scans)) (λ short. (omega arith, short))
    (lt-or-le most_octets (length s)))
    (eq-or-ne (length s) 0)

pub as-long-as-joined : AsLongAsJoined
as-long-as-joined s octets good =
    let p = passes s good in
    let is : opening s ≡ scan most_sub_frames s 0 = turns.sound-is s (sym (turns.same-refusal s) ∙ good) ∙ turns.scans s (λ z. omega (arith, p.0)) p.1 in
    let f = subst (λ (o : Opening). From s most_sub_frames 0 o.subs) (sym is) (from s octets most_sub_frames 0 p.0 (sym (ap (λ (o : Opening). o.refused) is) ∙ good)) in
    let whole : length s - 0 ≡ length (joined (list s)) + needless s 0 (opening s).subs = f.longer in
    record {
      fits =
          record {
            some = rw length-map f.some;
            most = rw length-map f.most;
            each = f.each;
            whole = omega (arith, p.1);
          };
      longer = omega arith;
      same = f.same;
    }

pub one-shortest : OneShortest
one-shortest s cs octets good is =
    let long = as-long-as-joined s octets good in
    let same : length (joined (list s)) ≡ length (joined cs) = ap (λ (l : List Member). length (joined l)) is in
    (omega (arith, long.longer), λ equal. long.same (omega (arith, long.longer)) ∙ ap joined is)
