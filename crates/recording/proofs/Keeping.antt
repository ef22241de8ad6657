-- What is kept of a piece.
use Prim.Native.Nat.{ℕ, ◌+◌, ◌-◌, ◌<◌, ◌≤◌, min}
use mathlib.Core.Path.{◌≡◌, sym, ap, ◌∙◌}
use mathlib.Core.List.{List}
use mathlib.Core.Logic.{⊎_elim}
use native.Mathlib.Omega.{arith}
use lib.ListN.{length, take, length-take}
use lib.Seq.{take-take, take_all}
use Rattle.octets.specs.Room.{put, written, left_by}
use Rattle.octets.proofs.Order.{lt-or-le}
use Rattle.octets.proofs.Writes as writes
use borrow.Author.Tests.{ne_eqb}
use mathlib.Core.Bool.{true}
use Rattle.std.specs.declared.option.Option.TheVariants.{Some}
use Rattle.octets.specs.Text.{has_lf}
use Rattle.hexline.specs.Line.{line_read, in_room, read_of}
use Rattle.recording.specs.declared.stream.Begun.{Begun}
use Rattle.recording.specs.declared.stream.Taken.{Taken}
use Rattle.recording.specs.Stream.{kept_of, next_number, taken}
use Rattle.recording.specs.declared.pieces.Line.{Line}
use Rattle.recording.specs.declared.pieces.Kept.{Kept}
use Rattle.recording.specs.Pieces.{line_size, line_end, to_keep, keeping}
use Rattle.refusal.specs.declared.Refusal.{Refusal}
use Rattle.std.specs.declared.result.Result.{Result}
use Rattle.std.specs.declared.result.Result.TheVariants.{Ok}

least-of-two : (m n : ℕ) (l : List ℕ) → take m (take n l) ≡ take (min m n) l
least-of-two m n l =
    ⊎_elim
    (λ (h : m < n).
    let least : min m n ≡ m = omega arith in
    let le : m ≤ n = omega arith in
    take-take m n l le ∙ ap (λ (k : ℕ). take k l) (sym least))
    (λ (h : n ≤ m).
    let least : min m n ≡ n = omega arith in
    let short : length (take n l) ≤ m = omega (arith, length-take n l) in
    take_all m (take n l) short ∙ ap (λ (k : ℕ). take k l) (sym least))
    (lt-or-le m n)

pub take-least : (n : ℕ) (l : List ℕ) → take (min n (length l)) l ≡ take n l
take-least n l = sym (least-of-two n (length l) l) ∙ ap (take n) (take_all (length l) l (omega arith))

pub kept-within : (room have : ℕ) (piece : List ℕ) → have ≤ room → have + length (to_keep room have piece) ≤ room
kept-within room have piece h = omega (arith, length-take (room - have) (take (line_size piece) piece))

-- the answer, from its parts
pub answers :
    (room have now : ℕ) (piece : List ℕ) (l : Line)
    → l ≡ line_end piece
    → now ≡ have + length (to_keep room have piece)
    → ◌≡◌ {A = Kept} (record { taken = l.size; have = now; whole = l.whole }) (keeping room have piece)
answers room have now piece l e h =
    let size : l.size ≡ line_size piece = ap (λ (x : Line). x.size) e in
    let whole : l.whole ≡ has_lf piece = ap (λ (x : Line). x.whole) e in
    cc

module _ (kept piece : List ℕ) (have : ℕ) where
  -- as many octets are written as there are and as there is room for
  module _ (some : have ≤ length kept) {size n : ℕ} (line : size ≡ line_size piece) (least : n ≡ min (length kept - have) size) where
    keeps : take n piece ≡ to_keep (length kept) have piece
    keeps = rw (least, line) (sym (least-of-two (length kept - have) (line_size piece) piece))

    -- the room is there
    module _ {after : List ℕ} {r : Result ℕ Refusal} (says : r ≡ put kept have (take n piece)) (holds : after ≡ left_by r kept have (take n piece)) where
      fits : have + length (take n piece) ≤ length kept
      fits = omega (arith, length-take n piece)

      pub is-written : r ≡ Ok (have + length (to_keep (length kept) have piece))
      is-written = says ∙ sym (writes.room_for kept (take n piece) have fits) ∙ ap (λ (l : List ℕ). Ok (have + length l)) keeps

      pub holds-is : after ≡ written kept have (to_keep (length kept) have piece)
      holds-is = holds ∙ ap (λ (a : Result ℕ Refusal). left_by a kept have (take n piece)) is-written ∙ ap (written kept have) keeps

-- a line that ends in a piece, behind what is kept of it
pub taken-whole :
    (room : ℕ) (begun : Begun) (kept piece : List ℕ) {end number : ℕ} {now : List ℕ} {line : Kept} {read : Result ℕ Refusal}
    → has_lf piece ≡ true
    → (begun.have ≡ 0 → ⊥)
    → line ≡ keeping (length kept) begun.have piece
    → now ≡ kept_of begun.have kept piece
    → end ≡ min line.have (length now)
    → read ≡ read_of (in_room room (line_read (take end now)))
    → number ≡ next_number begun.number
    → ◌≡◌ {A = Taken} (record { size = line.taken; line = Some read; next = record { have = 0; number = number } }) (taken room begun kept piece)
taken-whole room begun kept piece {now = now} {line = line} lf some says holds least reads next =
    rw (next, reads, least, take-least line.have now, holds, says) (simp (lf, ne_eqb begun.have 0 some))
