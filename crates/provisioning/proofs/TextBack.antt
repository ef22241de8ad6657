-- The other way: a text that is taken is the text of the table that it fills (`TextBack` of specs/Claims.antt).
use Prim.Native.Nat.{ℕ, zero, suc, ◌+◌, ◌<◌, ◌≤◌}
use mathlib.Core.Path.{◌≡◌, refl, sym, ap, subst, ◌∙◌}
use mathlib.Core.List.{List, [], ◌∷◌, ◌++◌, append_assoc}
use mathlib.Core.Bool.{true, cond}
use mathlib.Core.Logic.{⊎_elim}
use native.Mathlib.Omega.{arith}
use borrow.Author.Tests.{eq-eqb, ne_eqb, leb-true, leb-false}
use lib.Dec.{leb, eqb}
use lib.ListN.{length, get_or, drop, set, replicate, length-set, get_or-replicate}
use lib.Seq.{get_or-set_same, get_or-set_other}
use Rattle.octets.proofs.Order.{lt-or-le, eq-or-ne}
use Rattle.record.specs.declared.syntax.Record.{Record}
use Rattle.record.specs.Record.{m_listed, seq_listed, legal, packed, meaning, found_at}
use Rattle.record.proofs.Listed.{both}
use Rattle.record.proofs.Packing as packing
use Rattle.provisioning.specs.declared.line.Kind.{Kind}
use Rattle.provisioning.specs.declared.line.Kind.TheVariants.{OfCid, OfSyntax, OfM, OfSeq}
use Rattle.provisioning.specs.declared.line.State.{State}
use Rattle.refusal.specs.declared.Refusal.{Refusal}
use Rattle.value.specs.declared.Value.{Value}
use Rattle.provisioning.specs.Line.{start}
use Rattle.provisioning.specs.Text.{most_octets, Entry, Reading, refused, taken, before, at_end, after, onwards, walk, filled, table_of}
use Rattle.provisioning.specs.Back.{line_text, block_text, text_from, text_of_table}
use Rattle.provisioning.specs.Claims.{text_of, Risen, Rises, TextBack}
use Rattle.provisioning.proofs.Steps as steps
use Rattle.provisioning.proofs.Turns as turns
use Rattle.std.specs.declared.option.Option.TheVariants.{Some, None}

-- the lines of the present block that were read
abbrev so_far : Kind → ℕ → Record → List ℕ
so_far OfCid cid r = []
so_far OfSyntax cid r = line_text OfCid cid r
so_far OfM cid r = line_text OfCid cid r ++ line_text OfSyntax cid r
so_far OfSeq cid r = line_text OfCid cid r ++ line_text OfSyntax cid r ++ line_text OfM cid r

-- what holds of them, where `last` is the CID of the block before
abbrev Good : Kind → ℕ → ℕ → Record → Type 0
Good OfCid last cid r = cid ≡ last
Good OfSyntax last cid r = Risen last cid
Good OfM last cid r = Risen last cid
Good OfSeq last cid r = Risen last cid × (m_listed r.syntax r.m ≡ true)

record Back (last : ℕ) (st : State) (s : List ℕ) (es : List Entry) : Type 0 where
  pub text : so_far st.kind st.cid st.made ++ s ≡ text_of es
  pub rises : Rises last es

never : {A : Type 0} (refusal : Refusal) (line : ℕ) (es : List Entry) → refused refusal line ≡ taken es → A
never refusal line es e = let z : ◌≡◌ {A = ℕ} 0 1 = cc in absurd (omega arith)

same : (es fs : List Entry) → taken es ≡ taken fs → es ≡ fs
same es fs e = cc

end_back :
    (kind : Kind) (cid : ℕ) (made : Record) (last done : ℕ) (es : List Entry)
    → at_end kind done ≡ taken es
    → Back last (record { kind = kind; cid = cid; made = made }) [] es
end_back OfCid cid made last done es e =
    subst (Back last (record { kind = OfCid; cid = cid; made = made }) []) (same [] es e) (record { text = refl; rises = tt })
end_back OfSyntax cid made last done es e = never _ _ es e
end_back OfM cid made last done es e = never _ _ es e
end_back OfSeq cid made last done es e = never _ _ es e

-- a line that stands at the start of s, after the lines before it
stands_on :
    (st : State) (s : List ℕ) (v n : ℕ)
    → let to : State = steps.next st v in
    let others : List ℕ = so_far st.kind st.cid st.made in
    let line : List ℕ = line_text st.kind to.cid to.made in
    s ≡ line ++ drop n s → others ++ s ≡ (others ++ line) ++ drop n s
stands_on st s v n e =
    let to : State = steps.next st v in
    ap (λ (l : List ℕ). so_far st.kind st.cid st.made ++ l) e
    ∙ sym (append_assoc (so_far st.kind st.cid st.made) (line_text st.kind to.cid to.made) (drop n s))

-- the reading of what is left, from any state
abbrev Later : (State → List ℕ → Reading) → Type 0
Later rest =
    (st : State) (s : List ℕ) (last : ℕ) (es : List Entry)
    → Good st.kind last st.cid st.made
    → rest st s ≡ taken es
    → Back last st s es

-- the last line of a block, and the blocks after it
block_back :
    (cid : ℕ) (r : Record) (line s : List ℕ) (last : ℕ) (es : List Entry) (rest : Reading)
    → Risen last cid
    → legal r ≡ true
    → ((more : List Entry) → rest ≡ taken more → (line ≡ text_of more) × Rises cid more)
    → before (record { cid = cid; made = r }) rest ≡ taken es
    → s ≡ block_text cid r ++ line
    → (s ≡ text_of es) × Rises last es
block_back cid r line s last es (refused refusal at) risen lawful later e text = never _ _ es e
block_back cid r line s last es (taken more) risen lawful later e text =
    let l = later more refl in
    subst (λ (fs : List Entry). (s ≡ text_of fs) × Rises last fs) (same (record { cid = cid; made = r } ∷ more) es e)
    (text ∙ ap (λ (t : List ℕ). block_text cid r ++ t) l.0, (risen, lawful, l.1))

goes_back :
    (kind : Kind) (cid : ℕ) (made : Record) (s : List ℕ) (v : Value) (last : ℕ) (es : List Entry) (rest : State → List ℕ → Reading)
    → let st : State = record { kind = kind; cid = cid; made = made } in
    steps.Took st s v
    → Later rest
    → Good kind last cid made
    → after (steps.next st v.value) (rest (steps.next st v.value) (drop v.size s)) ≡ taken es
    → Back last st s es
unfolding block_text
goes_back OfCid cid made s v last es rest took later good e =
    let st : State = record { kind = OfCid; cid = cid; made = made } in
    let listed = both (leb 4 v.value) (leb v.value 255) took.listed in
    let above : cid < v.value = leb-false v.value cid took.above in
    let risen : Risen last v.value = record { above = rw (← good) above; from = leb-true 4 v.value listed.0; to = leb-true v.value 255 listed.1 } in
    let b = later (steps.next st v.value) (drop v.size s) last es risen e in
    record { text = took.text ∙ b.text; rises = b.rises }
goes_back OfSyntax cid made s v last es rest took later good e =
    let st : State = record { kind = OfSyntax; cid = cid; made = made } in
    let b = later (steps.next st v.value) (drop v.size s) last es good e in
    record { text = stands_on st s v.value v.size took.text ∙ b.text; rises = b.rises }
goes_back OfM cid made s v last es rest took later good e =
    let st : State = record { kind = OfM; cid = cid; made = made } in
    let b = later (steps.next st v.value) (drop v.size s) last es (good, took.listed) e in
    record { text = stands_on st s v.value v.size took.text ∙ b.text; rises = b.rises }
goes_back OfSeq cid made s v last es rest took later good e =
    let st : State = record { kind = OfSeq; cid = cid; made = made } in
    let listed = both (leb v.value 1) (seq_listed made.syntax (eqb v.value 1)) took.listed in
    let b =
    block_back cid (steps.next st v.value).made (drop v.size s) (so_far OfSeq cid made ++ s) last es (rest (steps.next st v.value) (drop v.size s)) good.0
    (rw good.1 listed.1)
    (λ more h. let l = later (steps.next st v.value) (drop v.size s) cid more refl h in (l.text, l.rises))
    e
    (stands_on st s v.value v.size took.text) in
    record { text = b.0; rises = b.1 }

walk-back : (room done : ℕ) → Later (λ st s. walk room st done s)
unfolding walk
walk-back zero done st s last es good e = never _ _ es e
walk-back (suc room) done st [] last es good e = end_back st.kind st.cid st.made last done es e
walk-back (suc room) done st (x ∷ xs) last es good e =
    steps.line-cases st (x ∷ xs)
    (λ step. onwards step done (x ∷ xs) (λ next rest. walk room next (done + 1) rest) ≡ taken es → Back last st (x ∷ xs) es)
    (λ v took h.
    goes_back st.kind st.cid st.made (x ∷ xs) v last es (λ next rest. walk room next (done + 1) rest) took (walk-back room (done + 1)) good h)
    (λ refusal h. never _ _ es h)
    e

-- what stands at place j, where d stood before the entries
abbrev lookup : ℕ → ℕ → List Entry → ℕ
lookup d j [] = d
lookup d j (e ∷ es) = lookup (cond (eqb j e.cid) (packed e.made) d) j es

set_gives : (t : List ℕ) (i j v : ℕ) → j < length t → get_or (set t i v) j 0 ≡ cond (eqb j i) v (get_or t j 0)
set_gives t i j v h =
    ⊎_elim (λ e. simp (eq-eqb j i e) (rw e (get_or-set_same t i v 0 (rw e at h))))
    (λ ne. simp (ne_eqb j i ne) (get_or-set_other t i j v 0 ne))
    (eq-or-ne j i)

filled-gives : (t : List ℕ) (es : List Entry) (j : ℕ) → j < length t → get_or (filled t es) j 0 ≡ lookup (get_or t j 0) j es
filled-gives t [] j h = refl
filled-gives t (e ∷ es) j h =
    filled-gives (set t e.cid (packed e.made)) es j (simp length-set h)
    ∙ ap (λ (d : ℕ). lookup d j es) (set_gives t e.cid j (packed e.made) h)

-- no entry stands at or below `last`
absent : (es : List Entry) (last d j : ℕ) → Rises last es → j ≤ last → lookup d j es ≡ d
absent [] last d j r h = refl
absent (e ∷ es) last d j r h =
    let above : last < e.cid = r.0.above in
    let ne : j ≡ e.cid → ⊥ = λ p. omega arith in
    simp (ne_eqb j e.cid ne) (absent es e.cid d j r.2 (omega arith))

zero-means : meaning 0 ≡ None
zero-means = packing.none_at_zero 0 (omega arith)

-- the text of the CIDs after `last`, where the table holds these entries there
from_back :
    (room last : ℕ) (t : List ℕ) (es : List Entry)
    → 3 ≤ last
    → last + 1 + room ≡ 256
    → Rises last es
    → ((j : ℕ) → last < j → j < 256 → get_or t j 0 ≡ lookup 0 j es)
    → text_from room (last + 1) t ≡ text_of es
unfolding text_from
from_back zero last t [] from all r holds = refl
from_back zero last t (e ∷ es) from all r holds =
    let above : last < e.cid = r.0.above in
    let to : e.cid ≤ 255 = r.0.to in
    absurd (omega arith)
from_back (suc room) last t [] from all r holds =
    let here : get_or t (last + 1) 0 ≡ 0 = holds (last + 1) (omega arith) (omega arith) in
    let later = from_back room (last + 1) t [] (omega arith) (omega arith) tt (λ j a b. holds j (omega arith) b) in
    let found : found_at t (last + 1) ≡ meaning (get_or t (last + 1) 0) = packing.on-cid t (last + 1) (omega arith) in
    rw (found, here, zero-means) later
from_back (suc room) last t (e ∷ es) from all r holds =
    let found : found_at t (last + 1) ≡ meaning (get_or t (last + 1) 0) = packing.on-cid t (last + 1) (omega arith) in
    let above : last < e.cid = r.0.above in
    ⊎_elim
    (λ same.
    let value : lookup 0 (last + 1) (e ∷ es) ≡ packed e.made =
    simp (eq-eqb (last + 1) e.cid same) (absent es e.cid (packed e.made) (last + 1) r.2 (omega arith)) in
    let here : get_or t (last + 1) 0 ≡ packed e.made = holds (last + 1) (omega arith) (omega arith) ∙ value in
    let means : meaning (get_or t (last + 1) 0) ≡ Some e.made = ap meaning here ∙ packing.back e.made r.1 in
    let later =
    from_back room (last + 1) t es (omega arith) (omega arith) (subst (λ (n : ℕ). Rises n es) (sym same) r.2)
    (λ j a b. holds j (omega arith) b ∙ simp (ne_eqb j e.cid (λ p. omega arith))) in
    rw (found, means, later, same))
    (λ other.
    let beyond : last + 1 < e.cid = beyond-of (last + 1) e.cid (omega arith) other in
    let raised : Rises (last + 1) (e ∷ es) = (record { above = beyond; from = r.0.from; to = r.0.to }, r.1, r.2) in
    let here : get_or t (last + 1) 0 ≡ 0 =
    holds (last + 1) (omega arith) (omega arith) ∙ absent (e ∷ es) (last + 1) 0 (last + 1) raised (omega arith) in
    let later = from_back room (last + 1) t (e ∷ es) (omega arith) (omega arith) raised (λ j a b. holds j (omega arith) b) in
    rw (found, here, zero-means) later)
    (eq-or-ne (last + 1) e.cid)
  where
    beyond-of : (m n : ℕ) → m ≤ n → (m ≡ n → ⊥) → m < n
    beyond-of m n h ne = ⊎_elim (λ lt. lt) (λ le. absurd (ne (omega arith))) (lt-or-le m n)

-- every CID is above 3
above-three : (es : List Entry) (last : ℕ) → Rises last es → Rises 3 es
above-three [] last r = tt
above-three (e ∷ es) last r = (record { above = r.0.from; from = r.0.from; to = r.0.to }, r.1, r.2)

pub table-back : (es : List Entry) (last : ℕ) → Rises last es → text_of_table (table_of es) ≡ text_of es
table-back es last r =
    from_back 252 3 (table_of es) es (omega arith) refl (above-three es last r)
    (λ j a b.
    filled-gives (replicate 256 0) es j b
    ∙ ap (λ (d : ℕ). lookup d j es) (get_or-replicate {A = ℕ} 256 j 0 0 b))

-- For every text: where it is taken, the text of its table is that text.
pub text-back : TextBack
text-back s es e =
    ⊎_elim (λ long. never _ _ es (sym (turns.too_long s long) ∙ e))
    (λ fits.
    let b = walk-back (most_octets + 1) 0 start s 0 es refl (sym (turns.walked s fits) ∙ e) in
    table-back es 0 b.rises ∙ sym b.text)
    (lt-or-le most_octets (length s))
