-- What a line does, case by case, and what stands in the text where a value was read.
use Prim.Native.Nat.{ℕ, ◌≤◌}
use mathlib.Core.Path.{◌≡◌, refl}
use mathlib.Core.List.{List, [], ◌∷◌, ◌++◌}
use mathlib.Core.Bool.{true, false, ◌&&◌}
use mathlib.Core.Logic.{◌⊎◌, inl, inr, ⊎_elim}
use native.Mathlib.Omega.{arith}
use lib.Dec.{leb}
use lib.ListN.{length}
use Rattle.std.proofs.lemmas.Option.{same_Some, cond_some}
use Rattle.std.specs.declared.option.Option.TheVariants.{Some, None}
use Rattle.std.specs.declared.result.Result.TheVariants.{Ok, Err}
use Rattle.octets.specs.Text.{starts, has_lf}
use Rattle.octets.proofs.Order.{either}
use Rattle.octets.proofs.Texts as texts
use Rattle.record.specs.declared.syntax.Syntax.{Syntax}
use Rattle.record.specs.declared.syntax.Syntax.TheVariants.{Acelp, Pcm, G727, G728, G7231, Data, Fax}
use Rattle.record.specs.Record.{word, place}
use Rattle.value.specs.declared.Value.{Value}
use Rattle.value.specs.Value.{valued, word_among, word_of}
use Rattle.provisioning.specs.declared.line.Kind.{Kind}
use Rattle.provisioning.specs.declared.line.Kind.TheVariants.{OfCid, OfSyntax, OfM, OfSeq}
use Rattle.provisioning.specs.declared.line.State.{State}
use Rattle.provisioning.specs.Line.{row, line_by}
use Rattle.provisioning.specs.Line as line
use Rattle.provisioning.proofs.Numbers as numbers
use Rattle.refusal.specs.declared.Refusal.TheVariants.{LineMalformed, ValueNotListed, CidNotRising}

-- the cases of a line
module _ (st : State) where
  pub no_value : line_by st None ≡ Err LineMalformed
  unfolding line_by
  no_value = refl

  module _ (v : Value) where
    pub unlisted : (row st.kind).listed st.made v.value ≡ false → line_by st (Some v) ≡ Err ValueNotListed
    unfolding line_by
    unlisted e = rw e

    module _ (listed : (row st.kind).listed st.made v.value ≡ true) where
      pub not-above : ((row st.kind).begins && leb v.value st.cid) ≡ true → line_by st (Some v) ≡ Err CidNotRising
      unfolding line_by
      not-above e = rw (listed, e)

      pub taken : ((row st.kind).begins && leb v.value st.cid) ≡ false → line_by st (Some v) ≡ Ok (line.taken st v)
      unfolding line_by
      taken e = rw (listed, e)

-- a word that was read stands there, or is none of the list
abbrev pub Word : List ℕ → Value → Type 0
Word s v =
    (valued 0 0 ≡ v)
    ⊎ ((x : Syntax) × (starts s (word x ++ 10 ∷ []) ≡ true) × (valued (place x) (length (word x ++ 10 ∷ [])) ≡ v))

pub word_back : (xs : List Syntax) (s : List ℕ) (v : Value) → word_among xs s ≡ Some v → Word s v
unfolding word_among
word_back [] s v e = inl (cond_some (has_lf s) (valued 0 0) v e).1
word_back (x ∷ xs) s v e =
    either {t = starts s (word x ++ 10 ∷ [])} (λ here. inr (x, here, same_Some _ v (simp here at e)))
    (λ later. word_back xs s v (simp later at e))
    (starts s (word x ++ 10 ∷ [])) refl

pub word-length : (x : Syntax) → length (word x) ≤ 5
word-length Acelp = omega arith
word-length Pcm = omega arith
word-length G727 = omega arith
word-length G728 = omega arith
word-length G7231 = omega arith
word-length Data = omega arith
word-length Fax = omega arith

word_within : (s : List ℕ) (v : Value) → word_of s ≡ Some v → v.size ≤ length s
word_within s v e =
    ⊎_elim (λ none. rw (← none) (omega arith)) (λ w. rw (← w.2) (texts.starts-length s (word w.0 ++ 10 ∷ []) w.1)) (word_back _ s v e)

-- a value and its LF stand within the text
pub value-within : (kind : Kind) (s : List ℕ) (v : Value) → (row kind).read s ≡ Some v → v.size ≤ length s
value-within OfCid s v e = (numbers.read_back s v e).within
value-within OfSyntax s v e = word_within s v e
value-within OfM s v e = (numbers.read_back s v e).within
value-within OfSeq s v e = (numbers.read_back s v e).within

pub ruleset keyed = (texts.starts-length, value-within)
