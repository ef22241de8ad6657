-- The sub-frames of a frame, each to the trunk: what stands after i of them, and the trunk then.
use Prim.Native.Nat.{ℕ, ◌+◌, ◌-◌, ◌*◌, ◌<◌, ◌≤◌}
use mathlib.Core.Path.{◌≡◌, refl, sym, ap, ap₂, subst, ◌∙◌}
use mathlib.Core.List.{List, [], ◌∷◌, ◌++◌, append_assoc, append-nil}
use native.Mathlib.Omega.{arith}
use native.Mathlib.Numerals.{add-one}
use borrow.Author.Tests.{eq-eqb, ne_eqb}
use lib.ListN.{length, get_or, take, drop}
use lib.Seq.{take-suc, take_all, take_at}
use Rattle.std.specs.declared.result.Result.{Result}
use Rattle.std.specs.declared.result.Result.TheVariants.{Ok, Err}
use Rattle.std.specs.declared.option.Option.{Option}
use Rattle.refusal.specs.declared.Refusal.{Refusal}
use Rattle.refusal.specs.Numbers.{number}
use Rattle.octets.specs.Room.{written}
use Rattle.header.specs.declared.SubFrame.{SubFrame}
use Rattle.header.specs.Header.{sub_at, end_of}
use Rattle.frame.specs.declared.Checked.{Checked}
use Rattle.frame.specs.declared.Refused.{Refused}
use Rattle.frame.specs.Opening.{opening, checked}
use Rattle.frame.proofs.OpeningTurns.{sound-tells, refused-tells}
use Rattle.frame.proofs.Chain as chain
use Rattle.record.specs.declared.syntax.Record.{Record}
use Rattle.record.specs.Record.{found_at}
use Rattle.hexline.specs.Line.{Held, octets, line_read, in_room, read_of, octets_of, refused as refused_line}
use Rattle.recording.specs.Walk.{Told, nothing, behind}
use Rattle.hexline.proofs.LineCases as cases
use Rattle.trunk.specs.declared.Trunk.{Trunk}
use Rattle.trunk.specs.declared.Heard.{Heard}
use Rattle.trunk.specs.Trunk as trunks
use Rattle.trunk.specs.Trunk.{taken}
use Rattle.printing.specs.Refused.{refused_listing}
use Rattle.printing.specs.Room.{Appended}
use Rattle.printing.proofs.Appending as appending
use Rattle.following.specs.Following.{sub_lines, sub_told, sub_following, subs_following, refusing, opened_following, frame_following, read_following, line_following}
use Rattle.following.specs.Private.{Stands, following_of}

-- what stands, where the same is told
pub stands-as :
    {out after : List ℕ} {at most next : ℕ} {now : Trunk} {a b : Told Trunk} → Stands out at a most after next now → a ≡ b → Stands out at b most after next now
stands-as {out} {after} {at} {most} {next} {now} s e = subst (λ (t : Told Trunk). Stands out at t most after next now) e s

pub stands-within :
    {out after : List ℕ} {at most next : ℕ} {now : Trunk} {a : Told Trunk} → Stands out at a most after next now → (more : ℕ) → most ≤ more → Stands out at a more after next now
stands-within s more h = record { text = appending.within s.text more h; leaves = s.leaves }

pub stands-none : (out : List ℕ) (at : ℕ) (t : Trunk) (most : ℕ) → Stands out at (nothing t) most out at t
stands-none out at t most = record { text = appending.within (appending.none out at) most (omega arith); leaves = refl }

module _ (n : ℕ) (table : List ℕ) (cid : ℕ) (s : List ℕ) where
  module _ (sub : SubFrame) (t : Trunk) where
    pub other : (out : List ℕ) (at : ℕ) → (sub.cid ≡ cid → ⊥) → Stands out at (sub_following n table cid s sub t) 409 out at t
    unfolding sub_following
    other out at h = stands-as (stands-none out at t 409) (simp (ne_eqb sub.cid cid h))

    pub own :
        {out after : List ℕ} {at next : ℕ} {found : Option Record} {answer : Result Heard Refusal} {now : Trunk}
        → sub.cid ≡ cid
        → found ≡ found_at table cid
        → answer ≡ (taken t found sub.ptype (take (end_of sub - sub.start) (drop sub.start s))).answer
        → now ≡ (taken t found sub.ptype (take (end_of sub - sub.start) (drop sub.start s))).trunk
        → Appended out at (sub_lines n sub answer now.signalling) 409 after next
        → Stands out at (sub_following n table cid s sub t) 409 after next now
    unfolding sub_following
    own {answer = answer} {now = now} h f answers leaves p =
        let size : end_of sub - sub.start ≡ sub.len = omega arith in
        let told : trunks.Told = record { answer = answer; trunk = now } in
        let tells : told ≡ taken t (found_at table cid) sub.ptype (take sub.len (drop sub.start s)) =
        ap₂ (λ (a : Result Heard Refusal) (u : Trunk). record { answer = a; trunk = u }) answers leaves ∙ rw (f, size)
        in
        stands-as (record { text = p; leaves = refl }) (ap (sub_told n sub) tells ∙ simp (eq-eqb sub.cid cid h))

  behind-twice : (a : List ℕ) (b : List ℕ) (told : Told Trunk) → behind a (behind b told) ≡ behind (a ++ b) told
  behind-twice a b told = ap (λ (l : List ℕ). record { text = l; state = told.state }) (sym (append_assoc a b told.text))

  subs-append :
      (xs ys : List SubFrame) (t : Trunk)
      → subs_following n table cid s (xs ++ ys) t
      ≡ behind (subs_following n table cid s xs t).text (subs_following n table cid s ys (subs_following n table cid s xs t).state)
  unfolding subs_following
  subs-append [] ys t = refl
  subs-append (x ∷ xs) ys t =
      let first : Told Trunk = sub_following n table cid s x t in
      ap (behind first.text) (subs-append xs ys first.state) ∙ behind-twice first.text _ _

  -- one sub-frame more
  pub subs-more :
      (subs : List SubFrame) (i : ℕ) (d : SubFrame) (t : Trunk)
      → i < length subs
      → behind (subs_following n table cid s (take i subs) t).text (sub_following n table cid s (get_or subs i d) (subs_following n table cid s (take i subs) t).state)
      ≡ subs_following n table cid s (take (i + 1) subs) t
  unfolding subs_following
  subs-more subs i d t h =
      let next : take (i + 1) subs ≡ take i subs ++ get_or subs i d ∷ [] = rw (add-one i) (take-suc subs i d h) in
      let so : Told Trunk = subs_following n table cid s (take i subs) t in
      let one : Told Trunk = sub_following n table cid s (get_or subs i d) so.state in
      ap (λ (l : List ℕ). record { text = so.text ++ l; state = one.state }) (sym (append-nil one.text))
      ∙ sym (subs-append (take i subs) (get_or subs i d ∷ []) t)
      ∙ ap (λ (l : List SubFrame). subs_following n table cid s l t) (sym next)

  pub record Going (t : Trunk) (out₀ out : List ℕ) (at next : ℕ) (now : Trunk) (place i : ℕ) : Type 0 where
    pub within : i ≤ length (opening s).subs
    pub rest : chain.Chain s place (drop i (opening s).subs)
    pub stands : Stands out₀ at (subs_following n table cid s (take i (opening s).subs) t) (409 * i) out next now

  pub begins : (out : List ℕ) (at : ℕ) (t : Trunk) → Going t out out at at t 0 0
  unfolding subs_following
  begins out at t =
      record { within = omega arith; rest = (chain.opening-fine s).chain; stands = stands-none out at t 0 }

  few : length (opening s).subs ≤ 64
  few = (chain.opening-fine s).few

  module _ {t : Trunk} {out₀ out : List ℕ} {at next : ℕ} {now : Trunk} {place i : ℕ} (going : Going t out₀ out at next now place i)
      (room : at + 26176 ≤ length out₀) where
    pub same_length : length out ≡ length out₀
    same_length = appending.same_length going.stands.text (omega (arith, few, going.within))

    module _ (sub : SubFrame) (is : sub ≡ sub_at s place) (more : i < length (opening s).subs) where
      pub ends : end_of sub ≤ length s
      ends = chain.ends s place i (opening s).subs going.rest sub is more

      pub room-left : next + 409 ≤ length out
      room-left = appending.room-behind going.stands.text 409 (omega (arith, few))

      pub turn :
          {after : List ℕ} {then : ℕ} {left : Trunk}
          → Stands out next (sub_following n table cid s sub now) 409 after then left
          → Going t out₀ after at then left (end_of sub) (i + 1)
      turn one =
          let this = chain.this s place i (opening s).subs going.rest sub is more in
          let so : Told Trunk = subs_following n table cid s (take i (opening s).subs) t in
          let step : sub_following n table cid s sub now ≡ sub_following n table cid s (get_or (opening s).subs i sub) so.state =
          ap (λ (u : Trunk). sub_following n table cid s sub u) going.stands.leaves
          ∙ ap (λ (x : SubFrame). sub_following n table cid s x so.state) this
          in
          let told = ap (behind so.text) step ∙ subs-more (opening s).subs i sub t more in
          let both = appending.then going.stands.text one.text (omega (arith, few)) in
          record {
            within = omega arith;
            rest = chain.onward s place i (opening s).subs going.rest sub is more;
            stands = stands-as (record { text = appending.within both (409 * (i + 1)) (omega arith); leaves = one.leaves }) told;
          }

    pub whole : length (opening s).subs ≤ i → Stands out₀ at (subs_following n table cid s (opening s).subs t) 26176 out next now
    whole all =
        let told = ap (λ (l : List SubFrame). subs_following n table cid s l t) (take_all i (opening s).subs all) in
        stands-as (stands-within going.stands 26176 (omega (arith, few, going.within))) told

-- the lines of a refusal, and the trunk as it was
pub refused :
    (out : List ℕ) (at n : ℕ) (refusal : Refusal) (place : ℕ) (t : Trunk) {told : ℕ} {after : List ℕ} {next : ℕ}
    → at + 26176 ≤ length out
    → told ≡ number refusal
    → appending.Put 80 out at (refused_listing n told place) after next
    → Stands out at (refusing n refusal place t) 26176 after next t
refused out at n refusal place t room is p =
    rw (← is)
    (record { text = appending.within (appending.refused-stands out at n _ place (omega arith) p) 26176 (omega arith); leaves = refl })

-- a frame, by what checking it tells
module _ (n : ℕ) (table : List ℕ) (cid : ℕ) (s : List ℕ) (t : Trunk) where
  pub of-sound : {c : Checked} → checked (opening s) ≡ Ok c → subs_following n table cid s (opening s).subs t ≡ frame_following n table cid s t
  unfolding opened_following
  of-sound e = let tells = sound-tells (opening s) _ e in simp tells.0

  pub of-refused : {r : Refused} → checked (opening s) ≡ Err r → refusing n r.refusal r.at t ≡ frame_following n table cid s t
  unfolding opened_following
  of-refused e = let tells = refused-tells (opening s) _ e in rw tells.1.0 (simp tells.0)

-- what stands at the start of the room is what the line holds
of-held :
    (n : ℕ) (table : List ℕ) (cid : ℕ) (frame : List ℕ) (held : Held) (t : Trunk)
    → following_of n table cid (read_of held) (written frame 0 (octets_of held)) t ≡ read_following n table cid held t
of-held n table cid frame (octets s) t =
    ap (λ (l : List ℕ). frame_following n table cid l t) (take_at s (drop (0 + length s) frame) (length s) refl)
of-held n table cid frame (refused_line refusal) t = refl

-- a line, by what `read_line` answers in room for 1,600 octets
pub of-line :
    (n : ℕ) (table : List ℕ) (cid : ℕ) (frame line : List ℕ) (t : Trunk) {read : Result ℕ Refusal} {after : List ℕ}
    → 1600 ≤ length frame
    → read ≡ read_of (in_room (length frame) (line_read line))
    → after ≡ written frame 0 (octets_of (in_room (length frame) (line_read line)))
    → following_of n table cid read after t ≡ line_following table cid n line t
unfolding line_following
of-line n table cid frame line t room says holds =
    let held : in_room (length frame) (line_read line) ≡ line_read line = cases.in-room (length frame) (line_read line) room (cases.fair line) in
    rw (says, holds, held) (of-held n table cid frame (line_read line) t)
