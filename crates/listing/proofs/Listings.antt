-- The parts of a listing, put one behind the other.
use Prim.Native.Nat.{ℕ, ◌+◌, ◌-◌, ◌<◌, ◌≤◌}
use mathlib.Core.Path.{◌≡◌, refl, sym, ap, subst, ◌∙◌}
use mathlib.Core.List.{List, [], ◌∷◌, ◌++◌, append_assoc, append-nil}
use mathlib.Core.Bool.{Bool, true, false}
use native.Mathlib.Omega.{arith}
use native.Mathlib.Numerals.{add-one}
use borrow.Author.Tests.{ltb-false}
use lib.Dec.{ltb}
use lib.ListN.{length, get_or, take, drop}
use lib.Seq.{take-suc, take_at}
use Rattle.std.specs.declared.result.Result.{Result}
use Rattle.std.specs.declared.result.Result.TheVariants.{Ok, Err}
use Rattle.std.specs.declared.option.Option.{Option}
use Rattle.refusal.specs.declared.Refusal.{Refusal}
use Rattle.refusal.specs.declared.Refusal.TheVariants.{RoomTooSmall}
use Rattle.refusal.specs.Numbers.{sound, number}
use Rattle.refusal.proofs.Order.{told}
use Rattle.octets.specs.Room.{written, left_by}
use Rattle.hexline.proofs.LineCases as cases
use Rattle.header.specs.declared.SubFrame.{SubFrame}
use Rattle.header.specs.Header.{end_of}
use Rattle.frame.specs.declared.Checked.{Checked}
use Rattle.frame.specs.declared.Refused.{Refused}
use Rattle.frame.specs.Opening.{opening, checked}
use Rattle.frame.proofs.OpeningTurns.{sound-tells, refused-tells}
use Rattle.record.specs.declared.syntax.Record.{Record}
use Rattle.record.specs.Record.{found_at}
use Rattle.payload.specs.Content.{Reading, reads, payload_read, number_of, refused as refused_payload, checked as checked_payload}
use Rattle.octets.specs.Text.{ascii}
use Rattle.hexline.specs.Line.{Held, octets, refused, line_read, in_room, read_of, octets_of}
use Rattle.listing.specs.Listing.{four_fields, sub_listing, subs_listing, opened_listing, frame_listing, read_listing, line_listing, listed}
use Rattle.printing.specs.Field.{field}
use Rattle.printing.specs.Refused.{refused_listing}
use Rattle.printing.specs.Room.{Appended}
use Rattle.listing.specs.Private.{listing_of}

-- the number of what is answered to a payload
number-told : (r : Reading) → told number sound (checked_payload r) ≡ number_of r
number-told (reads content) = refl
number-told (refused_payload refusal) = refl

-- a sub-frame, by the refusal number that its payload gets
module _ {before after : List ℕ} {at next : ℕ} where
  pub sub-listing :
      (table s : List ℕ) (sub : SubFrame) {found : Option Record} {answer : Result Unit Refusal}
      → found ≡ found_at table sub.cid
      → answer ≡ checked_payload (payload_read found sub.ptype (take (end_of sub - sub.start) (drop sub.start s)))
      → Appended before at (four_fields sub.cid sub.ptype sub.len (told number sound answer)) 104 after next
      → Appended before at (sub_listing table s sub) 104 after next
  unfolding sub_listing
  sub-listing table s sub f n p =
      let size : end_of sub - sub.start ≡ sub.len = omega arith in
      let is = ap (told number sound) n ∙ number-told _ ∙ rw (f, size) in
      subst (λ (k : ℕ). Appended before at (four_fields sub.cid sub.ptype sub.len k) 104 after next) is p

subs-append : (table s : List ℕ) (xs ys : List SubFrame) → subs_listing table s (xs ++ ys) ≡ subs_listing table s xs ++ subs_listing table s ys
unfolding subs_listing
subs-append table s [] ys = refl
subs-append table s (x ∷ xs) ys =
    ap (λ (l : List ℕ). sub_listing table s x ++ l) (subs-append table s xs ys)
    ∙ sym (append_assoc (sub_listing table s x) (subs_listing table s xs) (subs_listing table s ys))

-- one sub-frame more
pub subs-more :
    (table s : List ℕ) (subs : List SubFrame) (i : ℕ) (d : SubFrame)
    → i < length subs
    → subs_listing table s (take i subs) ++ sub_listing table s (get_or subs i d) ≡ subs_listing table s (take (i + 1) subs)
unfolding subs_listing
subs-more table s subs i d h =
    let next : take (i + 1) subs ≡ take i subs ++ get_or subs i d ∷ [] = rw (add-one i) (take-suc subs i d h) in
    ap (λ (l : List ℕ). subs_listing table s (take i subs) ++ l) (sym (append-nil (sub_listing table s (get_or subs i d))))
    ∙ sym (subs-append table s (take i subs) (get_or subs i d ∷ []))
    ∙ ap (subs_listing table s) (sym next)

-- room for a listing, or not
module _ (out : List ℕ) (at : ℕ) {short : Bool} (tells : short ≡ ltb (length out) (at + 6709)) where
  pub room : short ≡ false → at + 6709 ≤ length out
  room h = ltb-false (length out) (at + 6709) (sym tells ∙ h)

  module _ (text : List ℕ) where
    pub no_room : short ≡ true → (Err RoomTooSmall ≡ listed out at text) × (out ≡ left_by (Err RoomTooSmall) out at text)
    unfolding listed
    no_room h = (simp (sym tells ∙ h), refl)

    pub stands :
        short ≡ false
        → {after : List ℕ} {most next : ℕ}
        → Appended out at text most after next
        → (Ok next ≡ listed out at text) × (after ≡ left_by (Ok next) out at text)
    unfolding listed
    stands h p = (simp (sym tells ∙ h) (ap Ok p.ends), p.holds)

-- a frame's listing, by what checking it tells
module _ (n : ℕ) (table s : List ℕ) where
  pub of-sound :
      {c : Checked}
      → checked (opening s) ≡ Ok c
      → field (ascii "frame=") n ++ field (ascii "subs=") c.count ++ subs_listing table s (opening s).subs ≡ frame_listing n table s
  unfolding opened_listing
  of-sound e = let tells = sound-tells (opening s) _ e in rw tells.1 (simp tells.0)

  pub of-refused : {r : Refused} → checked (opening s) ≡ Err r → refused_listing n (number r.refusal) r.at ≡ frame_listing n table s
  unfolding opened_listing
  of-refused e = let tells = refused-tells (opening s) _ e in rw tells.1.0 (simp tells.0)

-- what stands at the start of the room is what the line holds
pub of-held :
    (n : ℕ) (table frame : List ℕ) (held : Held)
    → listing_of n table (read_of held) (written frame 0 (octets_of held)) ≡ read_listing n table held
of-held n table frame (octets s) =
    ap (frame_listing n table) (take_at s (drop (0 + length s) frame) (length s) refl)
of-held n table frame (refused refusal) = refl

-- a line, by what `read_line` answers in room for 1,600 octets
pub of-line :
    (n : ℕ) (table frame line : List ℕ) {read : Result ℕ Refusal} {after : List ℕ}
    → 1600 ≤ length frame
    → read ≡ read_of (in_room (length frame) (line_read line))
    → after ≡ written frame 0 (octets_of (in_room (length frame) (line_read line)))
    → listing_of n table read after ≡ line_listing n table line
unfolding line_listing
of-line n table frame line room says holds =
    let held : in_room (length frame) (line_read line) ≡ line_read line = cases.in-room (length frame) (line_read line) room (cases.fair line) in
    rw (says, holds, held) (of-held n table frame (line_read line))
