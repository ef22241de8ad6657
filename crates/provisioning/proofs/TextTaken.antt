-- Every legal text is taken (`LegalTaken` of specs/Claims.antt).
use Prim.Native.Nat.{ℕ, zero, suc, ◌+◌, ◌-◌, ◌*◌, ◌/◌, ◌%◌, ◌<◌, ◌≤◌}
use mathlib.Core.Path.{◌≡◌, refl, ap, ◌∙◌}
use mathlib.Core.List.{List, [], ◌∷◌, ◌++◌, append_assoc}
use mathlib.Core.Bool.{Bool, true, false, cond, ◌&&◌}
use mathlib.Core.Logic.{⊎_elim}
use native.Mathlib.Omega.{arith}
use borrow.Author.Tests.{lt-ltb, le-ltb, le-leb, lt-leb, eq-eqb, ne_eqb}
use lib.Dec.{leb, eqb}
use lib.ListN.{length, drop, length-append}
use Rattle.std.specs.declared.option.Option.TheVariants.{Some}
use Rattle.std.specs.declared.result.Result.TheVariants.{Ok}
use Rattle.octets.specs.Text.{starts}
use Rattle.octets.proofs.Order.{lt-or-le}
use Rattle.record.specs.declared.syntax.Syntax.{Syntax}
use Rattle.record.specs.declared.syntax.Syntax.TheVariants.{Acelp, Pcm, G727, G728, G7231, Data, Fax}
use Rattle.record.specs.declared.syntax.Record.{Record}
use Rattle.record.specs.Record.{word, place, m_listed, seq_listed, legal}
use Rattle.record.proofs.Listed.{both}
use Rattle.record.proofs.Packing.{bit-small, bit-of, place-back, m-small}
use Rattle.provisioning.specs.declared.line.Kind.{Kind}
use Rattle.provisioning.specs.declared.line.Kind.TheVariants.{OfCid, OfSyntax, OfM, OfSeq}
use Rattle.provisioning.specs.declared.line.State.{State}
use Rattle.value.specs.Value.{valued, digit_of, third_digit, second_digit, number_by, number_of, word_among, word_of, value_line}
use Rattle.provisioning.specs.Line.{row, line_by, line_at}
use Rattle.provisioning.specs.Line.{taken as taken-line}
use Rattle.provisioning.specs.Text.{most_octets, Entry, taken, before, after, walk}
use Rattle.provisioning.specs.Back.{decimal, value_text, line_text, block_text}
use Rattle.provisioning.specs.Claims.{text_of, Risen, Rises, LegalTaken}
use Rattle.provisioning.proofs.Lines as lines
use Rattle.provisioning.proofs.Turns as turns

-- a list before another: it starts with it, and the other is left
starts-app : (w s : List ℕ) → starts (w ++ s) w ≡ true
unfolding starts
starts-app [] s = refl
starts-app (x ∷ xs) s = simp (eq-eqb x x refl) (starts-app xs s)

drop_app : (w s : List ℕ) → drop (length w) (w ++ s) ≡ s
drop_app [] s = refl
drop_app (x ∷ xs) s = drop_app xs s

digit-of : (d : ℕ) → d ≤ 9 → digit_of (48 + d) ≡ Some d
unfolding digit_of
digit-of d h =
    let low : 48 ≤ 48 + d = omega arith in
    let high : 48 + d ≤ 57 = omega arith in
    let value : 48 + d - 48 ≡ d = omega arith in
    simp (le-leb 48 (48 + d) low, le-leb (48 + d) 57 high, value)

-- the digits of a number, by how many
one-digit : (n : ℕ) → n < 10 → decimal n ≡ (48 + n) ∷ []
unfolding decimal
one-digit n h = simp (lt-ltb n 10 h)

two_digits : (n : ℕ) → 10 ≤ n → n < 100 → decimal n ≡ (48 + n / 10) ∷ (48 + n % 10) ∷ []
unfolding decimal
two_digits n ten h = simp (le-ltb n 10 ten, lt-ltb n 100 h)

three-digits : (n : ℕ) → 100 ≤ n → decimal n ≡ (48 + n / 100) ∷ (48 + n / 10 % 10) ∷ (48 + n % 10) ∷ []
unfolding decimal
three-digits n h = let ten : 10 ≤ n = omega arith in simp (le-ltb n 10 ten, le-ltb n 100 h)

-- a number in decimal digits before an LF is read
Reads : ℕ → List ℕ → List ℕ → Type 0
Reads n rest digits = number_of (digits ++ 10 ∷ rest) ≡ Some (valued n (length digits + 1))

number_read : (n : ℕ) (rest : List ℕ) → n < 1000 → Reads n rest (decimal n)
unfolding Reads number_by second_digit third_digit
number_read n rest most =
    ⊎_elim (λ low. let a = digit-of n (omega arith) in rw (one-digit n low, a))
    (λ ten.
    ⊎_elim
    (λ low.
    let a = digit-of (n / 10) (omega arith) in
    let b = digit-of (n % 10) (omega arith) in
    let some : n / 10 ≡ 0 → ⊥ = λ e. omega arith in
    let longer : 48 + n % 10 ≡ 10 → ⊥ = λ e. omega arith in
    let value : n / 10 * 10 + n % 10 ≡ n = omega arith in
    rw (two_digits n ten low)
    (simp (a, b, ne_eqb (48 + n % 10) 10 longer, ne_eqb (n / 10) 0 some, value)))
    (λ hundred.
    let a = digit-of (n / 100) (omega arith) in
    let b = digit-of (n / 10 % 10) (omega arith) in
    let d = digit-of (n % 10) (omega arith) in
    let some : n / 100 ≡ 0 → ⊥ = λ e. omega arith in
    let longer : 48 + n / 10 % 10 ≡ 10 → ⊥ = λ e. omega arith in
    let longest : 48 + n % 10 ≡ 10 → ⊥ = λ e. omega arith in
    let value : (n / 100 * 10 + n / 10 % 10) * 10 + n % 10 ≡ n = omega arith in
    rw (three-digits n hundred)
    (simp (a, b, d, ne_eqb (48 + n / 10 % 10) 10 longer, ne_eqb (n / 100) 0 some, ne_eqb (48 + n % 10) 10 longest, value)))
    (lt-or-le n 100))
    (lt-or-le n 10)

-- places and bits are listed
place-listed : (x : Syntax) → (leb 1 (place x) && leb (place x) 7) ≡ true
place-listed Acelp = refl
place-listed Pcm = refl
place-listed G727 = refl
place-listed G728 = refl
place-listed G7231 = refl
place-listed Data = refl
place-listed Fax = refl

bit-listed :
    (x : Syntax) (t : Bool)
    → seq_listed x t ≡ true
    → (leb (cond t 1 0) 1 && seq_listed x (eqb (cond t 1 0) 1)) ≡ true
bit-listed x true e = e
bit-listed x false e = e

word_read : (x : Syntax) (rest : List ℕ) → word_of (word x ++ 10 ∷ rest) ≡ Some (valued (place x) (length (word x) + 1))
unfolding word_among starts
word_read Acelp rest = refl
word_read Pcm rest = refl
word_read G727 rest = refl
word_read G728 rest = refl
word_read G7231 rest = refl
word_read Data rest = refl
word_read Fax rest = refl

-- what a line of this kind tells of a block
abbrev tells : Kind → ℕ → Record → ℕ
tells OfCid cid r = cid
tells OfSyntax cid r = place r.syntax
tells OfM cid r = r.m
tells OfSeq cid r = cond r.seq 1 0

-- what a legal record has
record Legal (r : Record) : Type 0 where
  pub m : m_listed r.syntax r.m ≡ true
  pub most : r.m ≤ 12
  pub seq : seq_listed r.syntax r.seq ≡ true

legal-has : (r : Record) → legal r ≡ true → Legal r
legal-has r e =
    let h = both (m_listed r.syntax r.m) (seq_listed r.syntax r.seq) e in
    record { m = h.0; most = m-small r e; seq = h.1 }

module _ (cid : ℕ) (r : Record) (to : cid ≤ 255) (has : Legal r) where
  value_read :
      (kind : Kind) (rest : List ℕ)
      → (row kind).read (value_text kind cid r ++ 10 ∷ rest) ≡ Some (valued (tells kind cid r) (length (value_text kind cid r) + 1))
  unfolding Reads
  value_read OfCid rest = number_read cid rest (omega arith)
  value_read OfSyntax rest = word_read r.syntax rest
  value_read OfM rest = number_read r.m rest (omega (arith, has.most))
  value_read OfSeq rest = number_read (cond r.seq 1 0) rest (omega (arith, bit-small r.seq))

  line-length : (kind : Kind) → length (line_text kind cid r) ≡ length (row kind).key + (length (value_text kind cid r) + 1)
  line-length kind =
      length-append (row kind).key (value_text kind cid r ++ 10 ∷ [])
      ∙ ap (λ (n : ℕ). length (row kind).key + n) (length-append (value_text kind cid r) (10 ∷ []))

  line-cut : (kind : Kind) (rest : List ℕ) → line_text kind cid r ++ rest ≡ (row kind).key ++ (value_text kind cid r ++ 10 ∷ rest)
  line-cut kind rest =
      append_assoc (row kind).key (value_text kind cid r ++ 10 ∷ []) rest
      ∙ ap (λ (l : List ℕ). (row kind).key ++ l) (append_assoc (value_text kind cid r) (10 ∷ []) rest)

  -- a key, its value and an LF are read
  line_read :
      (kind : Kind) (rest : List ℕ)
      → value_line (row kind).key (row kind).read (line_text kind cid r ++ rest)
      ≡ Some (valued (tells kind cid r) (length (line_text kind cid r)))
  unfolding value_line
  line_read kind rest =
      let k : List ℕ = (row kind).key in
      let s : List ℕ = value_text kind cid r ++ 10 ∷ rest in
      rw (line-cut kind rest, line-length kind, starts-app k s, drop_app k s, value_read kind rest)

  -- one line of the walk
  one_line :
      (room done : ℕ) (st : State) (rest : List ℕ)
      → (row st.kind).listed st.made (tells st.kind cid r) ≡ true
      → ((row st.kind).begins && leb (tells st.kind cid r) st.cid) ≡ false
      → let next : State = (row st.kind).told st (tells st.kind cid r) in
      walk (suc room) st done (line_text st.kind cid r ++ rest) ≡ after next (walk room next (done + 1) rest)
  one_line room done st rest listed above =
      let next : State = (row st.kind).told st (tells st.kind cid r) in
      let some : 0 < length (line_text st.kind cid r) = omega (arith, line-length st.kind) in
      let step : line_at st (line_text st.kind cid r ++ rest) ≡ Ok (taken-line st (valued (tells st.kind cid r) (length (line_text st.kind cid r)))) =
      ap (line_by st) (line_read st.kind rest) ∙ lines.taken st _ listed above
      in
      turns.walk-on room done st (line_text st.kind cid r ++ rest) (omega (arith, length-append (line_text st.kind cid r) rest))
      ∙ rw (step, drop_app (line_text st.kind cid r) rest)

-- a block's four lines
block-cut :
    (a b c d rest : List ℕ) → (a ++ b ++ c ++ d) ++ rest ≡ a ++ (b ++ (c ++ (d ++ rest)))
block-cut a b c d rest = simp append_assoc

block-walk :
    (room done last cid : ℕ) (old r : Record) (rest : List ℕ)
    → Risen last cid
    → Legal r
    → walk (suc (suc (suc (suc room)))) (record { kind = OfCid; cid = last; made = old }) done (block_text cid r ++ rest)
    ≡ before (record { cid = cid; made = r }) (walk room (record { kind = OfCid; cid = cid; made = r }) (done + 1 + 1 + 1 + 1) rest)
unfolding block_text
block-walk room done last cid old r rest risen has =
    let x : Syntax = r.syntax in
    let a : List ℕ = line_text OfCid cid r in
    let b : List ℕ = line_text OfSyntax cid r in
    let c : List ℕ = line_text OfM cid r in
    let d : List ℕ = line_text OfSeq cid r in
    let st0 : State = record { kind = OfCid; cid = last; made = old } in
    let st1 : State = record { kind = OfSyntax; cid = cid; made = old } in
    let st2 : State = record { kind = OfM; cid = cid; made = record { syntax = x; m = old.m; seq = old.seq } } in
    let st3 : State = record { kind = OfSeq; cid = cid; made = record { syntax = x; m = r.m; seq = old.seq } } in
    let from : 4 ≤ cid = risen.from in
    let to : cid ≤ 255 = risen.to in
    let above : last < cid = risen.above in
    ap (walk (suc (suc (suc (suc room)))) st0 done) (block-cut a b c d rest)
    ∙ one_line cid r to has (suc (suc (suc room))) done st0 (b ++ (c ++ (d ++ rest))) (simp (le-leb 4 cid from, le-leb cid 255 to)) (lt-leb cid last above)
    ∙ one_line cid r to has (suc (suc room)) (done + 1) st1 (c ++ (d ++ rest)) (place-listed x) refl
    ∙ ap (λ (y : Syntax). walk (suc (suc room)) (record { kind = OfM; cid = cid; made = record { syntax = y; m = old.m; seq = old.seq } }) (done + 1 + 1) (c ++ (d ++ rest))) (place-back x)
    ∙ one_line cid r to has (suc room) (done + 1 + 1) st2 (d ++ rest) has.m refl
    ∙ one_line cid r to has room (done + 1 + 1 + 1) st3 rest (bit-listed x r.seq has.seq) refl
    ∙ ap (λ (t : Bool). let made : Record = record { syntax = x; m = r.m; seq = t } in
    before (record { cid = cid; made = made }) (walk room (record { kind = OfCid; cid = cid; made = made }) (done + 1 + 1 + 1 + 1) rest)) (bit-of r.seq)

-- the walk of the blocks, with room for their lines and the end
blocks-walk :
    (es : List Entry) (room done last : ℕ) (old : Record)
    → Rises last es
    → 4 * length es < room
    → walk room (record { kind = OfCid; cid = last; made = old }) done (text_of es) ≡ taken es
unfolding walk
blocks-walk es zero done last old r h = absurd (omega arith)
blocks-walk [] (suc room) done last old r h = refl
blocks-walk (e ∷ es) (suc (suc (suc (suc room)))) done last old r h =
    block-walk room done last e.cid old e.made (text_of es) r.0 (legal-has e.made r.1)
    ∙ ap (before e) (blocks-walk es room (done + 1 + 1 + 1 + 1) e.cid e.made r.2 (omega arith))
blocks-walk (e ∷ es) (suc (suc (suc zero))) done last old r h = absurd (omega arith)
blocks-walk (e ∷ es) (suc (suc zero)) done last old r h = absurd (omega arith)
blocks-walk (e ∷ es) (suc zero) done last old r h = absurd (omega arith)

-- how long the lines are
digits-one : (n : ℕ) → n < 10 → length (decimal n) ≤ 1
digits-one n h = rw (one-digit n h) (omega arith)

digits-two : (n : ℕ) → n < 100 → length (decimal n) ≤ 2
digits-two n h =
    ⊎_elim (λ low. rw (one-digit n low) (omega arith)) (λ ten. rw (two_digits n ten h) (omega arith)) (lt-or-le n 10)

digits-three : (n : ℕ) → length (decimal n) ≤ 3
digits-three n =
    ⊎_elim
    (λ low. let short : length (decimal n) ≤ 2 = digits-two n low in omega arith)
    (λ high. rw (three-digits n high) (omega arith))
    (lt-or-le n 100)

block-length : (cid : ℕ) (r : Record) → cid ≤ 255 → Legal r → length (block_text cid r) ≤ 32
unfolding block_text
block-length cid r to has =
    let a : List ℕ = line_text OfCid cid r in
    let b : List ℕ = line_text OfSyntax cid r in
    let c : List ℕ = line_text OfM cid r in
    let d : List ℕ = line_text OfSeq cid r in
    let most : r.m ≤ 12 = has.most in
    let bit : cond r.seq 1 0 ≤ 1 = bit-small r.seq in
    let la : length a ≤ 8 = omega (arith, line-length cid r to has OfCid, digits-three cid) in
    let lb : length b ≤ 13 = omega (arith, line-length cid r to has OfSyntax, lines.word-length r.syntax) in
    let lc : length c ≤ 5 = omega (arith, line-length cid r to has OfM, digits-two r.m (omega arith)) in
    let ld : length d ≤ 6 = omega (arith, line-length cid r to has OfSeq, digits-one (cond r.seq 1 0) (omega arith)) in
    omega (arith, length-append (a ++ b ++ c) d, length-append (a ++ b) c, length-append a b)

text-length : (es : List Entry) (last : ℕ) → Rises last es → length (text_of es) ≤ 32 * length es
text-length [] last r = omega arith
text-length (e ∷ es) last r =
    let here : length (block_text e.cid e.made) ≤ 32 = block-length e.cid e.made r.0.to (legal-has e.made r.1) in
    let later : length (text_of es) ≤ 32 * length es = text-length es e.cid r.2 in
    omega (arith, length-append (block_text e.cid e.made) (text_of es))

-- rising CIDs up to 255 are few
entries-few : (es : List Entry) (last : ℕ) → Rises last es → last ≤ 255 → length es + last ≤ 255
entries-few [] last r h = omega arith
entries-few (e ∷ es) last r h =
    let above : last < e.cid = r.0.above in
    let later : length es + e.cid ≤ 255 = entries-few es e.cid r.2 r.0.to in
    omega arith

pub legal-taken : LegalTaken
legal-taken es r =
    let few : length es + 0 ≤ 255 = entries-few es 0 r (omega arith) in
    let short : length (text_of es) ≤ 32 * length es = text-length es 0 r in
    let fits : length (text_of es) ≤ most_octets = omega arith in
    turns.walked (text_of es) fits ∙ blocks-walk es (most_octets + 1) 0 0 _ r (omega arith)
