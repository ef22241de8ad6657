-- What a writer does with a content, by what its sub-channel takes, how it fits, where it has its place, and what is put there.
-- Once for the six kinds of content.
use Prim.Native.Nat.{ℕ, ◌+◌, ◌-◌, ◌%◌, ◌≤◌}
use mathlib.Core.Path.{◌≡◌, refl, sym, ap, ◌∙◌}
use mathlib.Core.List.{List}
use mathlib.Core.Bool.{Bool}
use native.Mathlib.Omega.{arith}
use lib.ListN.{length}
use Rattle.octets.specs.Made.{Made, fit_of, left_made}
use Rattle.octets.specs.Room.{written, left_by}
use Rattle.octets.proofs.Writes.{as_long, room_for}
use Rattle.record.specs.declared.syntax.Record.{Record}
use Rattle.joining.specs.Joining.{header_size, shortest_header, header_put}
use Rattle.joining.proofs.HeaderWritten as header
use Rattle.payload.specs.Layout.{type_for}
use Rattle.payload.specs.Content.{Content, kind_of, made_on, made_as, payload_made}
use Rattle.place.specs.declared.Writer.{Writer}
use Rattle.place.specs.declared.Channel.{Channel}
use Rattle.place.specs.declared.Place.{Place}
use Rattle.place.specs.Place.{channel_for, entered, takes_as, place_at}
use Rattle.writer.specs.Writer.{entered_on, Writing, writes, refuses, sub_frame, taken, writing, left_writing}
use Rattle.place.proofs.ChannelCases.{small-typed, Taking, taking}
use Rattle.place.proofs.EnterCases.{entered-back, octet-of, before}
use Rattle.refusal.specs.declared.Refusal.{Refusal}
use Rattle.std.specs.declared.option.Option.{Option}
use Rattle.std.specs.declared.result.Result.{Result}
use Rattle.std.specs.declared.option.Option.TheVariants.{Some}
use Rattle.std.specs.declared.result.Result.TheVariants.{Ok, Err}

made-on : (found : Option Record) (content : Content) (r : Record) (ptype : ℕ)
    → found ≡ Some r
    → type_for found (kind_of content) ≡ Ok ptype
    → payload_made found content ≡ made_on r content
made-on found content r ptype is typed =
    ap (λ (t : Result ℕ Refusal). made_as t found content) typed ∙ ap (λ (f : Option Record). made_as (Ok ptype) f content) is

-- An answer of type B is made of what the writer does. What the lent frame holds then stands beside it.
module _ {B : Type 0} (answer : Writing → B) (room : List ℕ) (w : Writer) (last : Bool) (found : Option Record) (cid : ℕ) (content : Content)
    {channel : Result Channel Refusal} (told : channel ≡ channel_for w found cid (kind_of content)) where
  abbrev does : Writing
  does = writing (length room) w last found cid content

  abbrev Answers : Writing → List ℕ → Type 0
  Answers it left = (answer it ≡ answer does) × (left ≡ left_writing does room w.at)

  answers : (it : Writing) (left : List ℕ) → it ≡ does → left ≡ left_writing it room w.at → Answers it left
  answers it left is holds = (ap answer is, holds ∙ ap (λ (x : Writing). left_writing x room w.at) is)

  abbrev m : Made
  m = payload_made found content

  by-channel : (c : Result Channel Refusal) → channel ≡ c → taken (entered_on (length room) w last cid c (fit_of m)) (sub_frame cid last c m) ≡ does
  unfolding writing
  by-channel c is =
      ap (λ (x : Result Channel Refusal). taken (entered_on (length room) w last cid x (fit_of m)) (sub_frame cid last x m)) (sym is ∙ told)

  pub not_taken : {refusal : Refusal} → channel ≡ Err refusal → Answers (refuses refusal) room
  not_taken is = answers _ room (by-channel _ is) refl

  module _ {r : Record} {ptype : ℕ} (takes : channel ≡ takes_as r ptype) {fit : Result ℕ Refusal} (fits : fit ≡ fit_of (made_on r content)) {e : Result Place Refusal}
      (enters : e ≡ entered (length room) w last cid ptype fit) where
    known : Taking w found cid (kind_of content) r ptype
    known = taking w found cid (kind_of content) r ptype (sym told ∙ takes)

    made_is : m ≡ made_on r content
    made_is = made-on found content r ptype known.provisioned known.typed

    as-entered : e ≡ entered (length room) w last cid ptype (fit_of m)
    as-entered = enters ∙ ap (entered (length room) w last cid ptype) (fits ∙ ap fit_of (sym made_is))

    abbrev octets : List ℕ
    octets = sub_frame cid last (takes_as r ptype) m

    by_place : (given : Result Place Refusal) → e ≡ given → taken given octets ≡ does
    by_place given is = ap (λ (x : Result Place Refusal). taken x octets) (sym is ∙ as-entered) ∙ by-channel (takes_as r ptype) takes

    pub refused : {refusal : Refusal} → e ≡ Err refusal → Answers (refuses refusal) room
    refused is = answers _ room (by_place _ is) refl

    -- the payload, and the header before it
    stands : (start len : ℕ) (next : Writer) (part final : List ℕ) (put : Result ℕ Refusal)
        → e ≡ place_at start len next
        → part ≡ left_made room start (made_on r content)
        → put ≡ header_put (length part - w.at) w.at cid ptype last
        → final ≡ left_by put part w.at (shortest_header cid ptype last (len % 256))
        → final ≡ written room w.at octets
    stands start len next part final put has laid answered leaves =
        let entry = entered-back (length room) w last cid ptype m start len next (sym as-entered ∙ has) in
        let payload = entry.payload in
        let head = shortest_header cid ptype last (length payload) in
        let size : length head ≡ header_size cid ptype last = header.size_is cid ptype last (length payload) in
        let begins : start ≡ w.at + length head = entry.place.starts ∙ ap (λ (n : ℕ). w.at + n) (sym size) in
        let inside : start + length payload ≤ length room = entry.place.inside in
        let few : ptype ≤ 4 = small-typed found (kind_of content) ptype known.typed in
        let first : part ≡ written room start payload =
        laid
        ∙ ap (left_made room start) (sym made_is ∙ entry.makes)
        ∙ ap (λ (p : Result ℕ Refusal). left_by p room start payload) (sym (room_for room payload start inside))
        in
        let long : length part ≡ length room = as_long room payload part start inside first in
        let led : final ≡ written part w.at head =
        leaves
        ∙ ap (λ (p : Result ℕ Refusal). left_by p part w.at (shortest_header cid ptype last (len % 256)))
        (answered ∙ sym (header.taken (length part - w.at) w.at cid ptype last known.free (omega arith) (omega arith)))
        ∙ ap (λ (n : ℕ). written part w.at (shortest_header cid ptype last (n % 256))) (sym entry.many)
        ∙ ap (written part w.at) (octet-of cid ptype last (length payload) entry.place.short)
        in
        led
        ∙ ap (λ (l : List ℕ). written l w.at head) first
        ∙ ap (λ (n : ℕ). written (written room n payload) w.at head) begins
        ∙ before room head payload w.at (omega arith)
        ∙ ap (λ (x : Made). written room w.at (sub_frame cid last (takes_as r ptype) x)) (sym entry.makes)

    pub wrote : {start len : ℕ} {next : Writer} {part final : List ℕ} {put : Result ℕ Refusal}
        → e ≡ place_at start len next
        → part ≡ left_made room start (made_on r content)
        → put ≡ header_put (length part - w.at) w.at cid ptype last
        → final ≡ left_by put part w.at (shortest_header cid ptype last (len % 256))
        → Answers (writes octets next) final
    wrote has laid answered leaves = answers _ _ (by_place _ has) (stands _ _ _ _ _ _ has laid answered leaves)
