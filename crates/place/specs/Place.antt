-- Where the writer stands, and the tests on a sub-frame before it is written (document 01, "Refusal numbers"): "Its order: 24, 4,
-- 11 to 16, 22, 23, 21; 21 exactly when header and payload exceed the room left."
use Rattle.std.specs.Prelude.{ℕ, ◌+◌, [], ◌∷◌, Bool, false, cond, ltb, Option, Result, Some, None, Ok, Err}
use Rattle.refusal.specs.Order.{◌gives◌, in_order, ◌or◌}
use Rattle.record.specs.declared.syntax.Record.{Record}
use Rattle.frame.specs.Opening.{most_octets, most_sub_frames}
use Rattle.joining.specs.Joining.{header_size}
use Rattle.payload.specs.declared.layout.Kind.{Kind}
use Rattle.payload.specs.Layout.{type_for}
use Rattle.place.specs.declared.Writer.{Writer}
use Rattle.place.specs.declared.Channel.{Channel}
use Rattle.place.specs.declared.Place.{Place}
use Rattle.refusal.specs.declared.Refusal.{Refusal}
use Rattle.refusal.specs.declared.Refusal.TheVariants.{CidReserved, NotProvisioned, RoomTooSmall, TooLongNotLast, FrameFull, AlreadyLast}

abbrev pub fresh_writer : Writer
fresh_writer = record { at = 0; count = 0; done = false }

-- 11 and 12: the sub-channel's record, and the type there of a content of this kind.
abbrev pub takes_as : Record → ℕ → Result Channel Refusal
takes_as r ptype = Ok (record { rec = r; ptype = ptype })

abbrev pub typed_on : Record → Result ℕ Refusal → Result Channel Refusal
typed_on r (Ok ptype) = takes_as r ptype
typed_on r (Err refusal) = Err refusal

abbrev pub on_channel : Option Record → Kind → Result Channel Refusal
on_channel (Some r) kind = typed_on r (type_for (Some r) kind)
on_channel None kind = Err NotProvisioned

-- 24, 4, then those
unfoldable pub channel_for : Writer → Option Record → ℕ → Kind → Result Channel Refusal
channel_for w found cid kind =
    in_order
    (w.done gives AlreadyLast
    ∷ ltb cid 4 gives CidReserved
    ∷ [])
    Err
    (on_channel found kind)

-- 22: "over 255 octets and not last".
abbrev pub most_not_last : ℕ
most_not_last = 255

abbrev pub too_long : Bool → ℕ → Bool
too_long last len = cond last false (ltb most_not_last len)

-- 23: "frame would pass 1,600 octets or 64 sub-frames".
abbrev pub full : Writer → ℕ → Bool
full w end = ltb most_sub_frames (w.count + 1) or ltb most_octets end

-- 22, 23, 21, for a payload of len octets: where it begins, behind its header, and the writer after it
abbrev pub place_at : ℕ → ℕ → Writer → Result Place Refusal
place_at start len next = Ok (record { start = start; len = len; next = next })

unfoldable pub placed : ℕ → Writer → Bool → ℕ → ℕ → ℕ → Result Place Refusal
placed room w last cid ptype len =
    let start = w.at + header_size cid ptype last in
    let end = start + len in
    in_order
    (too_long last len gives TooLongNotLast
    ∷ full w end gives FrameFull
    ∷ ltb room end gives RoomTooSmall
    ∷ [])
    Err
    (place_at start len (record { at = end; count = w.count + 1; done = last }))

-- 13 to 16 by the payload's layout; then by the place
abbrev pub entered : ℕ → Writer → Bool → ℕ → ℕ → Result ℕ Refusal → Result Place Refusal
entered room w last cid ptype (Err refusal) = Err refusal
entered room w last cid ptype (Ok len) = placed room w last cid ptype len

-- the same of a fit whose refusal is told in any form: it stands as it is, beside what the place gives
abbrev pub entering : {E : Type 0} → ℕ → Writer → Bool → ℕ → ℕ → Result ℕ E → Result (Result Place Refusal) E
entering room w last cid ptype (Err unfit) = Err unfit
entering room w last cid ptype (Ok len) = Ok (placed room w last cid ptype len)
