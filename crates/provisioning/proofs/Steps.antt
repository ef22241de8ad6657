-- A line that was taken: how long it is, and what stands in the text.
use Prim.Native.Nat.{ℕ, ◌+◌, ◌≤◌}
use mathlib.Core.Path.{◌≡◌, refl, sym, ap, subst, ◌∙◌}
use mathlib.Core.List.{List, [], ◌∷◌, ◌++◌, append_assoc}
use mathlib.Core.Bool.{true, false, ◌&&◌}
use mathlib.Core.Logic.{⊎_elim}
use native.Mathlib.Omega.{arith}
use borrow.Author.Tests.{leb-true}
use lib.Dec.{leb, eqb}
use lib.ListN.{length, drop, length-drop}
use lib.Seq.{drop-drop}
use Rattle.std.proofs.lemmas.Option.{none-some, same_Some}
use Rattle.std.specs.Option.{option_map}
use Rattle.std.specs.declared.option.Option.{Option}
use Rattle.std.specs.declared.option.Option.TheVariants.{Some, None}
use Rattle.std.specs.declared.result.Result.{Result}
use Rattle.std.specs.declared.result.Result.TheVariants.{Ok, Err}
use Rattle.refusal.specs.declared.Refusal.{Refusal}
use Rattle.octets.specs.Text.{starts}
use Rattle.octets.proofs.Order.{either}
use Rattle.octets.proofs.Texts.{starts-whole, starts-length}
use Rattle.record.specs.declared.syntax.Syntax.{Syntax}
use Rattle.record.specs.Record.{word, seq_listed, syntax_at}
use Rattle.record.proofs.Listed.{both}
use Rattle.record.proofs.Packing.{low_bit, place-back}
use Rattle.value.specs.declared.Value.{Value}
use Rattle.value.specs.Value.{further, value_line}
use Rattle.provisioning.specs.declared.line.Kind.{Kind}
use Rattle.provisioning.specs.declared.line.Kind.TheVariants.{OfCid, OfSyntax, OfM, OfSeq}
use Rattle.provisioning.specs.declared.line.State.{State}
use Rattle.provisioning.specs.declared.line.Step.{Step}
use Rattle.provisioning.specs.Line.{row, taken, line_by, line_at}
use Rattle.provisioning.specs.Back.{value_text, line_text}
use Rattle.provisioning.proofs.Numbers as numbers
use Rattle.provisioning.proofs.Lines as lines

-- what is due after a line of this value
abbrev pub next : State → ℕ → State
next st v = (row st.kind).told st v

-- a line with this value was taken at the start of s
pub record Took (st : State) (s : List ℕ) (v : Value) : Type 0 where
  pub some : 1 ≤ v.size
  pub within : v.size ≤ length s
  pub listed : (row st.kind).listed st.made v.value ≡ true
  pub above : ((row st.kind).begins && leb v.value st.cid) ≡ false
  pub text : s ≡ line_text st.kind (next st v.value).cid (next st v.value).made ++ drop v.size s

-- the text of a value that was read
word_stands : (s : List ℕ) (v : Value) → lines.Word s v → leb 1 v.value ≡ true → s ≡ word (syntax_at v.value) ++ 10 ∷ drop v.size s
word_stands s v w listed =
    ⊎_elim (λ none. let some : 1 ≤ v.value = leb-true 1 v.value listed in absurd (omega (arith, ap (λ (w : Value). w.value) none)))
    (λ w.
    let x : Syntax = w.0 in
    rw (← w.2, place-back x)
    (starts-whole s (word x ++ 10 ∷ []) w.1 ∙ append_assoc (word x) (10 ∷ []) (drop (length (word x ++ 10 ∷ [])) s)))
    w

value-stands :
    (kind : Kind) (st : State) (s : List ℕ) (v : Value)
    → (row kind).read s ≡ Some v
    → (row kind).listed st.made v.value ≡ true
    → s ≡ value_text kind ((row kind).told st v.value).cid ((row kind).told st v.value).made ++ 10 ∷ drop v.size s
value-stands OfCid st s v e listed = (numbers.read_back s v e).text
value-stands OfSyntax st s v e listed = word_stands s v (lines.word_back _ s v e) (both (leb 1 v.value) (leb v.value 7) listed).0
value-stands OfM st s v e listed = (numbers.read_back s v e).text
value-stands OfSeq st s v e listed =
    let bit : v.value ≤ 1 = leb-true v.value 1 (both (leb v.value 1) (seq_listed st.made.syntax (eqb v.value 1)) listed).0 in
    rw (low_bit v.value bit) (numbers.read_back s v e).text

key-some : (kind : Kind) → 1 ≤ length (row kind).key
key-some OfCid = omega arith
key-some OfSyntax = omega arith
key-some OfM = omega arith
key-some OfSeq = omega arith

-- a value behind a key: the key stands there, and the value behind it
record Keyed (key : List ℕ) (read : List ℕ → Option Value) (s : List ℕ) (v : Value) : Type 0 where
  pub behind : Value
  pub stands : starts s key ≡ true
  pub reads : read (drop (length key) s) ≡ Some behind
  pub whole : further (length key) behind ≡ v

keyed : (key : List ℕ) (read : List ℕ → Option Value) (s : List ℕ) (v : Value) → value_line key read s ≡ Some v → Keyed key read s v
unfolding value_line
keyed key read s v e =
    either {t = starts s key} (λ here. by here (read (drop (length key) s)) refl (simp here at e))
    (λ otherwise. absurd (none-some v (simp otherwise at e)))
    (starts s key) refl
  where
    by :
        starts s key ≡ true
        → (o : Option Value)
        → read (drop (length key) s) ≡ o
        → option_map (further (length key)) o ≡ Some v
        → Keyed key read s v
    by here (Some w) is e = record { behind = w; stands = here; reads = is; whole = same_Some _ v e }
    by here None is e = absurd (none-some v e)

module _ (st : State) (s : List ℕ) where
  took :
      (v : Value)
      → value_line (row st.kind).key (row st.kind).read s ≡ Some v
      → (row st.kind).listed st.made v.value ≡ true
      → ((row st.kind).begins && leb v.value st.cid) ≡ false
      → Took st s v
  took v e listed above =
      let key : List ℕ = (row st.kind).key in
      let k = keyed key (row st.kind).read s v e in
      let size : length key + k.behind.size ≡ v.size = ap (λ (w : Value). w.size) k.whole in
      let same : k.behind.value ≡ v.value = ap (λ (w : Value). w.value) k.whole in
      let stands = value-stands st.kind st (drop (length key) s) k.behind k.reads (rw same listed) in
      let rest : drop (length key) s ≡ value_text st.kind (next st v.value).cid (next st v.value).made ++ 10 ∷ drop v.size s =
      rw (same, drop-drop k.behind.size (length key) s, size) at stands in
      let within : k.behind.size ≤ length (drop (length key) s) =
      lines.value-within st.kind (drop (length key) s) k.behind k.reads in
      record {
        some = omega (arith, key-some st.kind);
        within = omega (arith, length-drop (length key) s, starts-length s key k.stands);
        listed = listed;
        above = above;
        text = starts-whole s key k.stands ∙ ap (λ (l : List ℕ). key ++ l) rest ∙ simp append_assoc;
      }

  -- what holds of every line that is taken and of every refusal holds of the line
  module _ (P : Result Step Refusal → Type 0) (goes : (v : Value) → Took st s v → P (Ok (taken st v))) (stops : (refusal : Refusal) → P (Err refusal)) where
    by_value : (o : Option Value) → value_line (row st.kind).key (row st.kind).read s ≡ o → P (line_by st o)
    by_value None e = subst P (sym (lines.no_value st)) (stops _)
    by_value (Some v) e =
        either {t = (row st.kind).listed st.made v.value}
        (λ listed.
        either {t = (row st.kind).begins && leb v.value st.cid} (λ p. subst P (sym (lines.not-above st v listed p)) (stops _))
        (λ p. subst P (sym (lines.taken st v listed p)) (goes v (took v e listed p)))
        ((row st.kind).begins && leb v.value st.cid) refl)
        (λ p. subst P (sym (lines.unlisted st v p)) (stops _))
        ((row st.kind).listed st.made v.value) refl

    pub line-cases : P (line_at st s)
    line-cases = by_value (value_line (row st.kind).key (row st.kind).read s) refl
