-- The loop of `list_piece`, over what is left of the piece, and a last line.
use Prim.Native.Nat.{ℕ, ◌+◌, ◌-◌, ◌<◌, ◌≤◌, min}
use mathlib.Core.Path.{◌≡◌, refl, sym, ap, ◌∙◌}
use mathlib.Core.List.{List, []}
use mathlib.Core.Bool.{Bool, true, false, cond}
use native.Mathlib.Omega.{arith}
use borrow.Author.Tests.{eqb-true, eqb-false}
use lib.Dec.{ltb, eqb}
use lib.ListN.{length, take, drop, length-drop}
use lib.Seq.{drop-drop}
use Rattle.std.specs.Result.{result_unwrap_or}
use Rattle.std.specs.declared.result.Result.{Result}
use Rattle.std.specs.declared.result.Result.TheVariants.{Ok, Err}
use Rattle.std.specs.declared.option.Option.TheVariants.{Some, None}
use Rattle.refusal.specs.declared.Refusal.{Refusal}
use Rattle.refusal.specs.declared.Refusal.TheVariants.{RoomTooSmall}
use Rattle.octets.specs.Room.{written, left_by}
use Rattle.octets.specs.Text.{has_lf}
use Rattle.recording.specs.declared.stream.Begun.{Begun}
use Rattle.recording.specs.declared.stream.Taken.{Taken}
use Rattle.recording.specs.declared.stream.Walked.{Walked}
use Rattle.hexline.specs.Line.{octets, line_read, in_room, read_of, octets_of}
use Rattle.recording.specs.Stream.{line_of, held_by, kept_behind, taken as line_taken}
use Rattle.recording.specs.Walk.{Told, Walk, nothing, next_told, answered}
use Rattle.recording.proofs.Ends as ends
use Rattle.octets.proofs.Writes as writes
use Rattle.recording.proofs.Keeping as keeping
use Rattle.recording.proofs.Walks as walks
use Rattle.listing.specs.Listing.{line_listing, tell_line, listed}
use Rattle.listing.specs.Stream.{piece_listed, last_listed}
use Rattle.printing.specs.Room.{Appended}
use Rattle.listing.specs.Private.{taken_listing}
use Rattle.listing.proofs.Listings as listings

-- a line that is taken, by what is told of it
module _ (frame table : List ℕ) (begun : Begun) (kept piece : List ℕ) where
  text-is :
      (t : Bool)
      → 1600 ≤ length frame
      → taken_listing begun.number table
      (cond t (Some (read_of (cond t (in_room (length frame) (line_read (line_of begun.have kept piece))) (octets [])))) None)
      (written frame 0 (octets_of (cond t (in_room (length frame) (line_read (line_of begun.have kept piece))) (octets []))))
      ≡ (cond t (tell_line table begun.number (line_of begun.have kept piece) tt) (nothing tt)).text
  text-is true room = listings.of-line begun.number table frame (line_of begun.have kept piece) room refl refl
  text-is false room = refl

  listing-is :
      (line : Taken) {after : List ℕ}
      → line ≡ line_taken (length frame) begun kept piece
      → 1600 ≤ length frame
      → after ≡ written frame 0 (octets_of (held_by (length frame) begun.have kept piece))
      → taken_listing begun.number table line.line after ≡ (next_told (tell_line table) begun kept tt piece).text
  listing-is line is room holds = rw (is, holds) (text-is (has_lf piece) room)

-- what the code of the listing promises of a walk
abbrev pub Promised : List ℕ → Walk (Unit {0}) → Walked → List ℕ → List ℕ → Type 0
Promised out₀ whole r kept out = (r ≡ answered whole) × ((kept ≡ whole.kept) × (out ≡ written out₀ 0 whole.text))

-- what is left of the piece, and how the walk stands
pub record Going (table out₀ piece : List ℕ) (whole : Walk (Unit {0})) (kept out : List ℕ) (begun : Begun) (used : ℕ) (rest : List ℕ) : Type 0 where
  pub at : ℕ
  pub left : rest ≡ drop at piece
  pub stands : walks.Going (tell_line table) 6709 out₀ piece whole kept out begun tt used at

pub begins :
    (table out piece kept : List ℕ) (begun : Begun)
    → Going table out piece (piece_listed (length out) table begun kept piece) kept out begun 0 piece
begins table out piece kept begun = record { at = 0; left = refl; stands = walks.begins (tell_line table) 6709 out piece kept begun tt }

module _ {table out₀ piece : List ℕ} {whole : Walk (Unit {0})} {kept out : List ℕ} {begun : Begun} {used : ℕ} {rest : List ℕ}
    (going : Going table out₀ piece whole kept out begun used rest) where
  size : length rest ≡ length piece - going.at
  size = ap length going.left ∙ length-drop going.at piece

  abbrev pub Ends : Type 0
  Ends = Promised out₀ whole (record { taken = length piece - length rest; used = used; next = begun }) kept out

  promised : walks.Promised out₀ whole going.at used begun tt kept out → Ends
  promised p =
      let takes : length piece - length rest ≡ whole.taken = omega (arith, p.takes, size, going.stands.within) in
      let prints : used ≡ length whole.text = p.prints in
      let goes : begun ≡ whole.next = p.next in
      (cc, (p.keeps, p.holds))

  pub all : eqb (length rest) 0 ≡ true → Ends
  all none = let nothing = eqb-true (length rest) 0 none in promised (walks.all (tell_line table) 6709 going.stands (omega (arith, size)))

  module _ (more : eqb (length rest) 0 ≡ false) where
    there : going.at < length piece
    there = let some = eqb-false (length rest) 0 more in omega (arith, size)

    pub short : length out - used < 6709 → Ends
    short h = promised (walks.short (tell_line table) 6709 going.stands there h)

    -- one line more, from what `take_line` and `put_taken` answer
    module _ (frame : List ℕ) (line : Taken) (is : line ≡ line_taken (length frame) begun kept rest) where
      as-part : rest ≡ take (length piece - going.at) (drop going.at piece)
      as-part = going.left ∙ sym (ends.rest-is piece going.at)

      is-there : line ≡ line_taken (length frame) begun kept (take (length piece - going.at) (drop going.at piece))
      is-there = rw (← as-part) is

      pub part : line.size ≤ length rest
      part = omega (arith, walks.within (tell_line table) 6709 going.stands there frame line is-there, size)

      pub shorter : length (take (length rest - line.size) (drop line.size rest)) < length rest
      shorter =
          let some = walks.some-taken (tell_line table) 6709 going.stands there frame line is-there in
          rw (ends.rest-is rest line.size) (omega (arith, part, length-drop line.size rest))

      pub turn :
          {now frame' after : List ℕ} {used' : ℕ}
          → 1600 ≤ length frame
          → 6709 ≤ length out - used
          → now ≡ kept_behind begun.have kept rest
          → frame' ≡ written frame 0 (octets_of (held_by (length frame) begun.have kept rest))
          → Appended out used (taken_listing begun.number table line.line frame') 6709 after used'
          → Going table out₀ piece whole now after line.next used' (take (length rest - line.size) (drop line.size rest))
      turn large room keeps holds put =
          let text = listing-is frame table begun kept rest line is large holds in
          record {
            at = going.at + line.size;
            left = ends.rest-is rest line.size ∙ rw going.left (drop-drop line.size going.at piece);
            stands =
                walks.turn (tell_line table) 6709 going.stands there frame line is-there room (rw (← as-part) keeps) (rw going.left at text) refl put.ends put.holds
                put.size;
          }

-- a text that is put where the room is there
put_there :
    (out text : List ℕ) (short : Bool) {r : Result ℕ Refusal} {after : List ℕ}
    → r ≡ cond short (Err RoomTooSmall) (Ok (0 + length text))
    → after ≡ left_by r out 0 text
    → (result_unwrap_or r 0 ≡ length (cond short [] text)) × (after ≡ written out 0 (cond short [] text))
put_there out text true says holds = (rw says refl, rw says at holds ∙ sym (writes.written_none out 0))
put_there out text false says holds = (rw says (omega arith), rw says at holds)

-- the last line, from what `list_line` answers
module _ (table : List ℕ) (begun : Begun) (kept out : List ℕ) where
  abbrev pub LastPromised : ℕ → List ℕ → Type 0
  LastPromised used after =
      (used ≡ length (last_listed (length out) table begun kept)) × (after ≡ written out 0 (last_listed (length out) table begun kept))

  pub none_kept : begun.have ≡ 0 → LastPromised 0 out
  none_kept h =
      let text : last_listed (length out) table begun kept ≡ [] =
      ap (λ (t : Told (Unit {0})). t.text) (walks.last_none (tell_line table) 6709 (length out) begun kept tt h)
      in
      rw text (refl, sym (writes.written_none out 0))

  pub kept-listed :
      (begun.have ≡ 0 → ⊥)
      → {end : ℕ} {r : Result ℕ Refusal} {after : List ℕ}
      → end ≡ min begun.have (length kept)
      → r ≡ listed out 0 (line_listing begun.number table (take end kept))
      → after ≡ left_by r out 0 (line_listing begun.number table (take end kept))
      → LastPromised (result_unwrap_or r 0) after
  unfolding listed
  kept-listed some {end} cut says holds =
      let same : take end kept ≡ take begun.have kept = ap (λ (k : ℕ). take k kept) cut ∙ keeping.take-least begun.have kept in
      rw (walks.last-text (tell_line table) 6709 (length out) begun kept tt some)
      (put_there out (line_listing begun.number table (take begun.have kept)) (ltb (length out) 6709) (rw same at says) (rw same at holds))
