-- What is known of a sub-frame that the writer takes; and that it takes what is so, in room that suffices.
use Prim.Native.Nat.{ℕ, ◌+◌, ◌<◌, ◌≤◌}
use mathlib.Core.Path.{◌≡◌, refl, sym, ap, ap₂, ◌∙◌}
use mathlib.Core.List.{List, ◌++◌}
use mathlib.Core.Bool.{Bool, false}
use native.Mathlib.Omega.{arith}
use borrow.Author.Tests.{le-ltb}
use lib.ListN.{length}
use Rattle.octets.specs.Made.{Made, made, fit_of}
use Rattle.record.specs.declared.syntax.Record.{Record}
use Rattle.frame.specs.Opening.{most_octets, most_sub_frames}
use Rattle.joining.specs.Joining.{header_size, shortest_header}
use Rattle.payload.specs.Layout.{type_for}
use Rattle.payload.specs.Content.{Content, kind_of, payload_made}
use Rattle.place.specs.declared.Writer.{Writer}
use Rattle.place.specs.declared.Channel.{Channel}
use Rattle.place.specs.declared.Place.{Place}
use Rattle.place.specs.Place.{channel_for, typed_on, on_channel, too_long, full, placed, entered, takes_as, place_at}
use Rattle.writer.specs.Writer.{entered_on, writes, refuses, sub_frame, taken, writing}
use Rattle.place.proofs.ChannelCases.{by-record, taking}
use Rattle.place.proofs.PlaceCases.{has-place, small, never}
use Rattle.place.proofs.EnterCases.{entered-back}
use Rattle.std.specs.declared.option.Option.{Option}
use Rattle.refusal.specs.declared.Refusal.{Refusal}
use Rattle.refusal.specs.declared.Refusal.TheVariants.{RoomTooSmall}
use Rattle.std.specs.declared.result.Result.{Result}
use Rattle.std.specs.declared.option.Option.TheVariants.{Some, None}
use Rattle.std.specs.declared.result.Result.TheVariants.{Ok, Err}

-- a sub-frame that is taken: all but the room
pub record Took (w : Writer) (last : Bool) (found : Option Record) (cid : ℕ) (content : Content) (octets : List ℕ) (next : Writer) : Type 0 where
  pub ptype : ℕ
  pub payload : List ℕ
  pub going : w.done ≡ false
  pub free : 4 ≤ cid
  pub typed : type_for found (kind_of content) ≡ Ok ptype
  pub makes : payload_made found content ≡ made payload
  pub are : octets ≡ shortest_header cid ptype last (length payload) ++ payload
  pub goes_on : next ≡ record { at = w.at + header_size cid ptype last + length payload; count = w.count + 1; done = last }
  pub short : too_long last (length payload) ≡ false
  pub few : w.count + 1 ≤ most_sub_frames
  pub within : next.at ≤ most_octets

refused-not : {A : Type 0} (n : Refusal) (octets : List ℕ) (next : Writer) → refuses n ≡ writes octets next → A
refused-not n octets next e = let z : ◌≡◌ {A = ℕ} 0 1 = cc in absurd (omega arith)

same_writes : (a b : List ℕ) (v w : Writer) → writes a v ≡ writes b w → (a ≡ b) × (v ≡ w)
same_writes a b v w e = (cc, cc)

untyped : {A : Type 0} (n : Refusal) (ptype : ℕ) → Err n ≡ Ok ptype → A
untyped n ptype e = let z : ◌≡◌ {A = ℕ} 0 1 = cc in absurd (omega arith)

module _ (w : Writer) (last : Bool) (found : Option Record) (cid : ℕ) (content : Content) (octets : List ℕ) (next : Writer) where
  abbrev channel : Result Channel Refusal
  channel = channel_for w found cid (kind_of content)

  abbrev m : Made
  m = payload_made found content

  pub took-back : (room : ℕ)
      → writing room w last found cid content ≡ writes octets next
      → Took w last found cid content octets next × (next.at ≤ room)
  unfolding writing
  took-back room is = go channel refl (entered_on room w last cid channel (fit_of m)) refl is
    where
      go : (c : Result Channel Refusal) → channel ≡ c
          → (e : Result Place Refusal) → entered_on room w last cid c (fit_of m) ≡ e
          → taken e (sub_frame cid last c m) ≡ writes octets next
          → Took w last found cid content octets next × (next.at ≤ room)
      go c takes (Err n) there is = refused-not n octets next is
      go (Err n) takes (Ok place) there is = never n place.start place.len place.next there
      go (Ok on) takes (Ok place) there is =
          let r = on.rec in
          let ptype = on.ptype in
          let start = place.start in
          let len = place.len in
          let same = same_writes _ _ _ _ is in
          let entry = entered-back room w last cid ptype m start len next (there ∙ ap (place_at start len) same.1) in
          let known = taking w found cid (kind_of content) r ptype takes in
          let ends : next.at ≡ start + length entry.payload = ap (λ (v : Writer). v.at) entry.place.goes_on in (
            record {
              ptype = ptype;
              payload = entry.payload;
              going = known.going;
              free = known.free;
              typed = known.typed;
              makes = entry.makes;
              are = sym same.0 ∙ ap (sub_frame cid last (takes_as r ptype)) entry.makes;
              goes_on =
                  entry.place.goes_on
                  ∙ ap (λ (n : ℕ). record { at = n + length entry.payload; count = w.count + 1; done = last }) entry.place.starts;
              short = entry.place.short;
              few = entry.place.few;
              within = rw ends entry.place.within;
            },
            rw ends entry.place.inside,
          )

  -- the place of its payload decides
  module _ (took : Took w last found cid content octets next) (room : ℕ) where
    abbrev size : ℕ
    size = header_size cid took.ptype last

    abbrev len : ℕ
    len = length took.payload

    ends : next.at ≡ w.at + size + len
    ends = ap (λ (v : Writer). v.at) took.goes_on

    not_full : full w (w.at + size + len) ≡ false
    not_full =
        simp (le-ltb most_sub_frames (w.count + 1) took.few, le-ltb most_octets (w.at + size + len) (rw ends at took.within))

    provisioned : (r : Record) × (found ≡ Some r)
    provisioned = go found refl
      where
        go : (f : Option Record) → found ≡ f → (r : Record) × (found ≡ Some r)
        go (Some r) is = (r, is)
        go None is = untyped _ _ (sym (ap (λ (f : Option Record). type_for f (kind_of content)) is) ∙ took.typed)

    decides : (e : Result Place Refusal) → e ≡ placed room w last cid took.ptype len → writing room w last found cid content ≡ taken e octets
    unfolding writing
    decides e placing =
        let r = provisioned.0 in
        let is = provisioned.1 in
        let takes : channel ≡ takes_as r took.ptype =
        sym (by-record w found cid (kind_of content) took.going took.free)
        ∙ ap (λ (f : Option Record). on_channel f (kind_of content)) is
        ∙ ap (typed_on r) (sym (ap (λ (f : Option Record). type_for f (kind_of content)) is) ∙ took.typed)
        in
        ap (λ (c : Result Channel Refusal). taken (entered_on room w last cid c (fit_of m)) (sub_frame cid last c m)) takes
        ∙ ap (λ (x : Made). taken (entered room w last cid took.ptype (fit_of x)) (sub_frame cid last (takes_as r took.ptype) x)) took.makes
        ∙ ap₂ taken (sym placing) (sym took.are)

    pub too_small : room < next.at → writing room w last found cid content ≡ refuses RoomTooSmall
    too_small h = decides _ (small room w last cid took.ptype len took.short refl not_full (rw ends at h))

    pub large-enough : next.at ≤ room → writing room w last found cid content ≡ writes octets next
    large-enough h =
        decides _ (has-place room w last cid took.ptype len took.short refl not_full (rw ends at h))
        ∙ ap (writes octets) (sym took.goes_on)
