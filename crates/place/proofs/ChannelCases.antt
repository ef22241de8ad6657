-- What the tests on a sub-channel tell, 24, 4, 11, 12, and what is known of one that takes a content.
use Prim.Native.Nat.{ℕ, ◌<◌, ◌≤◌}
use mathlib.Core.Path.{◌≡◌, sym, ap, subst, ◌∙◌}
use mathlib.Core.List.{[], ◌∷◌}
use mathlib.Core.Bool.{true, false}
use native.Mathlib.Omega.{arith}
use borrow.Author.Tests.{lt-ltb, le-ltb, ltb-false}
use lib.Dec.{ltb}
use Rattle.refusal.specs.Order.{◌gives◌}
use Rattle.record.specs.declared.syntax.Record.{Record}
use Rattle.payload.specs.declared.layout.Family.{Family}
use Rattle.payload.specs.declared.layout.Family.TheVariants.{VoiceFamily, DataFamily, FaxFamily}
use Rattle.payload.specs.declared.layout.Kind.{Kind}
use Rattle.payload.specs.declared.layout.Kind.TheVariants.{AVoice, ADigits, ASignalling, AFax, ASid, AData}
use Rattle.payload.specs.Layout.{family_of, type_in, type_for}
use Rattle.place.specs.declared.Writer.{Writer}
use Rattle.place.specs.declared.Channel.{Channel}
use Rattle.place.specs.Place.{typed_on, on_channel, channel_for, takes_as}
use Rattle.place.proofs.Tables.{passed}
use Rattle.refusal.specs.declared.Refusal.{Refusal}
use Rattle.std.specs.declared.option.Option.{Option}
use Rattle.std.specs.declared.result.Result.{Result}
use Rattle.refusal.specs.declared.Refusal.TheVariants.{CidReserved, NotProvisioned, AlreadyLast}
use Rattle.std.specs.declared.option.Option.TheVariants.{Some, None}
use Rattle.std.specs.declared.result.Result.TheVariants.{Ok, Err}

-- 24, 4, 11, 12
module _ (w : Writer) (found : Option Record) (cid : ℕ) (kind : Kind) where
  pub after_last : w.done ≡ true → Err AlreadyLast ≡ channel_for w found cid kind
  unfolding channel_for
  after_last done = simp done

  module _ (going : w.done ≡ false) where
    pub reserved : cid < 4 → Err CidReserved ≡ channel_for w found cid kind
    unfolding channel_for
    reserved h = simp (going, lt-ltb cid 4 h)

    module _ (free : 4 ≤ cid) where
      pub by-record : on_channel found kind ≡ channel_for w found cid kind
      unfolding channel_for
      by-record = simp (going, le-ltb cid 4 free)

      module _ {f : Option Record} (is : f ≡ found) where
        pub none : f ≡ None → Err NotProvisioned ≡ channel_for w found cid kind
        none e = ap (λ (x : Option Record). on_channel x kind) (sym e ∙ is) ∙ by-record

        pub typed : (r : Record) {t given : Result ℕ Refusal}
            → f ≡ Some r
            → t ≡ type_for (Some r) kind
            → t ≡ given
            → typed_on r given ≡ channel_for w found cid kind
        typed r p told e = ap (typed_on r) (sym e ∙ told) ∙ ap (λ (x : Option Record). on_channel x kind) (sym p ∙ is) ∙ by-record

-- a type that a content is written with is one of 0 to 4
abbrev at_most : ℕ → Result ℕ Refusal → Type 0
at_most most (Ok ptype) = ptype ≤ most
at_most most (Err number) = Unit

small-type : (family : Family) (kind : Kind) → at_most 4 (type_in family kind)
small-type VoiceFamily AVoice = omega arith
small-type VoiceFamily ADigits = omega arith
small-type VoiceFamily ASignalling = omega arith
small-type VoiceFamily AFax = omega arith
small-type VoiceFamily ASid = omega arith
small-type VoiceFamily AData = tt
small-type DataFamily AVoice = tt
small-type DataFamily ADigits = tt
small-type DataFamily ASignalling = tt
small-type DataFamily AFax = tt
small-type DataFamily ASid = tt
small-type DataFamily AData = omega arith
small-type FaxFamily AVoice = tt
small-type FaxFamily ADigits = omega arith
small-type FaxFamily ASignalling = omega arith
small-type FaxFamily AFax = omega arith
small-type FaxFamily ASid = tt
small-type FaxFamily AData = tt

pub small-typed : (found : Option Record) (kind : Kind) (ptype : ℕ) → type_for found kind ≡ Ok ptype → ptype ≤ 4
small-typed (Some r) kind ptype is = subst (at_most 4) is (small-type (family_of r.syntax) kind)
small-typed None kind ptype is = subst (at_most 4) is tt

refused-not : {A : Type 0} (n : Refusal) (ptype : ℕ) (r : Record) → Err n ≡ takes_as r ptype → A
refused-not n ptype r e = let z : ◌≡◌ {A = ℕ} 0 1 = cc in absurd (omega arith)

same-channel : (r s : Record) (a b : ℕ) → takes_as r a ≡ takes_as s b → (r ≡ s) × (a ≡ b)
same-channel r s a b e =
    let same : ◌≡◌ {A = Channel} (record { rec = r; ptype = a }) (record { rec = s; ptype = b }) = cc in
    (ap (λ (c : Channel). c.rec) same, ap (λ (c : Channel). c.ptype) same)

-- what is known of a sub-channel that takes a content
pub record Taking (w : Writer) (found : Option Record) (cid : ℕ) (kind : Kind) (r : Record) (ptype : ℕ) : Type 0 where
  pub going : w.done ≡ false
  pub free : 4 ≤ cid
  pub provisioned : found ≡ Some r
  pub typed : type_for found kind ≡ Ok ptype

typed-back : (s : Record) (t : Result ℕ Refusal) (r : Record) (ptype : ℕ) → typed_on s t ≡ takes_as r ptype → (Some s ≡ Some r) × (t ≡ Ok ptype)
typed-back s (Ok p) r ptype e = let same = same-channel _ _ _ _ e in (ap Some same.0, ap Ok same.1)
typed-back s (Err n) r ptype e = refused-not n ptype r e

record-back : (found : Option Record) (kind : Kind) (r : Record) (ptype : ℕ)
    → on_channel found kind ≡ takes_as r ptype
    → (found ≡ Some r) × (type_for found kind ≡ Ok ptype)
record-back (Some s) kind r ptype e = typed-back s (type_for (Some s) kind) r ptype e
record-back None kind r ptype e = refused-not _ ptype r e

pub taking : (w : Writer) (found : Option Record) (cid : ℕ) (kind : Kind) (r : Record) (ptype : ℕ)
    → channel_for w found cid kind ≡ takes_as r ptype
    → Taking w found cid kind r ptype
unfolding channel_for
taking w found cid kind r ptype is =
    let pass =
    passed (w.done gives AlreadyLast ∷ ltb cid 4 gives CidReserved ∷ []) Err (on_channel found kind) (takes_as r ptype)
    (λ n. refused-not n ptype r)
    is
    in
    let back = record-back found kind r ptype pass.1 in
    record { going = pass.0.0; free = ltb-false cid 4 pass.0.1.0; provisioned = back.0; typed = back.1 }
