-- What the code finds, by its tests: whether a sub-frame serves, the walk over the sub-frames, and what `hand` makes of it.
use Prim.Native.Nat.{ℕ, suc, ◌+◌, ◌-◌, ◌<◌, ◌≤◌}
use mathlib.Core.Path.{◌≡◌, refl, sym, ap, subst, ◌∙◌}
use mathlib.Core.List.{List, [], ◌∷◌}
use mathlib.Core.Bool.{Bool, true, false, cond}
use native.Mathlib.Omega.{arith}
use borrow.Author.Tests.{eq-eqb}
use lib.Dec.{eqb}
use Rattle.std.proofs.lemmas.Bool.{eqb-true}
use lib.ListN.{length, take, drop}
use Rattle.std.specs.Option.{option_map_or}
use Rattle.std.specs.Result.{is_ok}
use Rattle.std.specs.declared.option.Option.{Option}
use Rattle.std.specs.declared.option.Option.TheVariants.{Some, None}
use Rattle.std.specs.declared.result.Result.{Result}
use Rattle.std.specs.declared.result.Result.TheVariants.{Ok, Err}
use Rattle.refusal.specs.declared.Refusal.{Refusal}
use Rattle.refusal.specs.declared.Refusal.TheVariants.{FieldEmpty, FieldTooLong, TooManySubFrames, NotProvisioned, TypeNotAllowed}
use Rattle.header.specs.declared.SubFrame.{SubFrame}
use Rattle.header.specs.Header.{header_at, end_of}
use Rattle.header.proofs.HeaderInverse.{ends-within}
use Rattle.frame.specs.Opening.{most_sub_frames, Opening, stopped, before, end_of_header, field_fits, onwards, scan, scanned, opening}
use Rattle.frame.proofs.OpeningTurns.{Ahead, opens-ahead, empty, long, unfit-long, fits-scans, sound-is, refused-is}
use Rattle.voice.specs.declared.Voice.{Voice}
use Rattle.voice.specs.Voice.{voice_read}
use Rattle.record.specs.declared.syntax.Record.{Record}
use Rattle.record.specs.Record.{found_at}
use Rattle.payload.specs.declared.layout.Family.{Family}
use Rattle.payload.specs.declared.layout.Family.TheVariants.{VoiceFamily, DataFamily, FaxFamily}
use Rattle.payload.specs.Layout.{family_of, on_voice}
use Rattle.payload.specs.Content.{of_voice}
use Rattle.payload.specs.Content as content
use Rattle.card.specs.declared.handing.Handed.{Handed}
use Rattle.card.specs.declared.handing.Handed.TheVariants.{FromFrame, FromSilence}
use Rattle.card.specs.Handing.{part, serves, first_of, on_family, on_channel, after_opening, handed}
use Rattle.card.specs.Private.{own_first, first_in, behind}

-- the part of s from a place to an end
abbrev between : List ℕ → ℕ → ℕ → List ℕ
between s start end = take (end - start) (drop start s)

cut : (s : List ℕ) (start len : ℕ) → between s start (start + len) ≡ part s start len
cut s start len = let n : start + len - start ≡ len = omega arith in ap (λ (m : ℕ). take m (drop start s)) n

-- a type 0 payload of a voice sub-channel is read as voice
module _ (r : Record) (cid : ℕ) (s : List ℕ) (sub : SubFrame) where
  reads : (p : List ℕ) (told : Result Voice Refusal) → is_ok (content.checked (of_voice p told)) ≡ is_ok told
  reads p (Ok voice) = refl
  reads p (Err refusal) = refl

  pub by_voice :
      family_of r.syntax ≡ VoiceFamily
      → sub.cid ≡ cid
      → sub.ptype ≡ 0
      → serves (Some r) cid s sub ≡ is_ok (voice_read r (between s sub.start (end_of sub)))
  unfolding serves on_voice
  by_voice family here type-0 =
      simp (eq-eqb sub.cid cid here, eq-eqb sub.ptype 0 type-0, family, cut s sub.start sub.len) (reads (part s sub.start sub.len) (voice_read r (part s sub.start sub.len)))

-- the payload of a sub-frame that a header tells lies within the frame
pub within : (s : List ℕ) (at : ℕ) (sub : SubFrame) → header_at s at ≡ Ok (Some sub) → end_of sub ≤ length s
within = ends-within

-- The walk over the headers: behind `count` sub-frames, none of which serves, what is still to come decides.
pub record Passed (found : Option Record) (cid : ℕ) (s : List ℕ) (at count : ℕ) : Type 0 where
  pub decides : first_in found cid s (scan (most_sub_frames - count) s at) ≡ first_in found cid s (scan most_sub_frames s 0)

module _ (found : Option Record) (cid : ℕ) (s : List ℕ) where
  -- a scan that begins with a sub-frame
  meets : (sub : SubFrame) (o : Opening) (b : Bool) → serves found cid s sub ≡ b → first_in found cid s (before sub o) ≡ cond b (behind sub o) (first_in found cid s o)
  unfolding first_of
  meets sub o true h = rw h
  meets sub o false h = rw h

module _ {found : Option Record} {cid : ℕ} {s : List ℕ} {at count : ℕ} (passed : Passed found cid s at count) where
  pub full : most_sub_frames ≤ count → Err TooManySubFrames ≡ first_in found cid s (scan most_sub_frames s 0)
  unfolding scan
  full most = let none : most_sub_frames - count ≡ 0 = omega arith in rw none at passed.decides

  module _ (less : count < most_sub_frames) where
    goes :
        (h : Result (Option SubFrame) Refusal)
        → header_at s at ≡ h
        → first_in found cid s (onwards h at (scan (most_sub_frames - (count + 1)) s (end_of_header h))) ≡ first_in found cid s (scan most_sub_frames s 0)
    unfolding scan
    goes h e =
        let one : most_sub_frames - count ≡ suc (most_sub_frames - (count + 1)) = omega arith in
        let same : onwards h at (scan (most_sub_frames - (count + 1)) s (end_of_header h)) ≡ scan (most_sub_frames - count) s at = rw (one, ← e) in
        ap (first_in found cid s) same ∙ passed.decides

    pub bad : (refusal : Refusal) → header_at s at ≡ Err refusal → Err refusal ≡ first_in found cid s (scan most_sub_frames s 0)
    bad refusal e = goes (Err refusal) e

    pub past : header_at s at ≡ Ok None → Ok FromSilence ≡ first_in found cid s (scan most_sub_frames s 0)
    unfolding first_of
    past e = goes (Ok None) e

    module _ (sub : SubFrame) (e : header_at s at ≡ Ok (Some sub)) where
      abbrev ahead : Opening
      ahead = cond sub.last (stopped None (end_of sub)) (scan (most_sub_frames - (count + 1)) s (end_of sub))

      pub hit : serves found cid s sub ≡ true → behind sub ahead ≡ first_in found cid s (scan most_sub_frames s 0)
      hit h = sym (meets found cid s sub ahead true h) ∙ goes (Ok (Some sub)) e

      module _ (h : serves found cid s sub ≡ false) where
        rest : first_in found cid s ahead ≡ first_in found cid s (scan most_sub_frames s 0)
        rest = sym (meets found cid s sub ahead false h) ∙ goes (Ok (Some sub)) e

        pub none : sub.last ≡ true → Ok FromSilence ≡ first_in found cid s (scan most_sub_frames s 0)
        unfolding first_of
        none last = rw last at rest

        pub turn : sub.last ≡ false → Passed found cid s (end_of sub) (count + 1)
        turn last = record { decides = rw last at rest }

-- the field by its length
module _ (found : Option Record) (cid : ℕ) (s : List ℕ) where
  pub empty_first : eqb (length s) 0 ≡ true → first_in found cid s (opening s) ≡ Err FieldEmpty
  unfolding opening
  empty_first h = rw (empty s (eqb-true _ _ h)) refl

  pub unfit_first : (length s ≡ 0 → ⊥) → field_fits (length s) ≡ false → first_in found cid s (opening s) ≡ Err FieldTooLong
  unfolding opening
  unfit_first some unfit = rw (long s some (unfit-long s unfit some)) refl

  pub fits : field_fits (length s) ≡ true → first_in found cid s (opening s) ≡ first_in found cid s (scan most_sub_frames s 0)
  fits e = go (scanned s).refused refl ∙ ap (first_in found cid s) (fits-scans s e)
    where
      go : (r : Option Refusal) → (scanned s).refused ≡ r → first_in found cid s (opening s) ≡ first_in found cid s (scanned s)
      go None h = ap (first_in found cid s) (sound-is s h)
      go (Some refusal) h = rw (refused-is s refusal h, h) refl

-- the record of the sub-channel decides what a sound frame gives
module _ (s table : List ℕ) (cid : ℕ) where
  pub unprovisioned : found_at table cid ≡ None → handed s table cid ≡ own_first (opening s) (Err NotProvisioned)
  unfolding handed after_opening
  unprovisioned e = rw e refl

  module _ (r : Record) (is : found_at table cid ≡ Some r) where
    pub for_voice : family_of r.syntax ≡ VoiceFamily → handed s table cid ≡ first_in (Some r) cid s (opening s)
    unfolding handed after_opening
    for_voice family = rw (is, family) refl

    pub for_data : family_of r.syntax ≡ DataFamily → handed s table cid ≡ own_first (opening s) (Err TypeNotAllowed)
    unfolding handed after_opening
    for_data family = rw (is, family) refl

    pub for_fax : family_of r.syntax ≡ FaxFamily → handed s table cid ≡ own_first (opening s) (Err TypeNotAllowed)
    unfolding handed after_opening
    for_fax family = rw (is, family) refl

  -- what is handed of the frame lies within it
  pub handed_within : (start len : ℕ) → handed s table cid ≡ Ok (FromFrame start len) → start + len ≤ length s
  unfolding handed after_opening first_of
  handed_within start len e = subst Inside e (all (found_at table cid) (opening s).refused)
    where
      Within : Handed → Type 0
      Within (FromFrame start len) = start + len ≤ length s
      Within FromSilence = Unit

      Inside : Result Handed Refusal → Type 0
      Inside (Ok h) = Within h
      Inside (Err refusal) = Unit

      one : (b : Bool) (sub : SubFrame) (next : Handed) → end_of sub ≤ length s → Within next → Within (cond b (FromFrame sub.start sub.len) next)
      one true sub next ends i = ends
      one false sub next ends i = i

      first : (found : Option Record) (at : ℕ) (subs : List SubFrame) → Ahead s at subs → Within (first_of found cid s subs)
      first found at [] next = tt
      first found at (sub ∷ subs) next = one (serves found cid s sub) sub _ (ends-within s at sub next.0) (first found (end_of sub) subs next.1)

      family : (f : Family) (h : Handed) → Within h → Inside (on_family f h)
      family VoiceFamily h i = i
      family DataFamily h i = tt
      family FaxFamily h i = tt

      channel : (found : Option Record) (h : Handed) → Within h → Inside (on_channel found h)
      channel (Some r) h i = family (family_of r.syntax) h i
      channel None h i = tt

      all : (found : Option Record) (o : Option Refusal) → Inside (option_map_or Err o (on_channel found (first_of found cid s (opening s).subs)))
      all found None = channel found _ (first found 0 (opening s).subs (opens-ahead s))
      all found (Some refusal) = tt
