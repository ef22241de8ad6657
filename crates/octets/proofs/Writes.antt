-- Copies into room, and two copies one behind the other.
use Prim.Native.Nat.{ℕ, ◌+◌, ◌<◌, ◌≤◌}
use mathlib.Core.Path.{◌≡◌, refl, sym, ap, ap₂, ◌∙◌}
use mathlib.Core.List.{List, [], ◌∷◌, ◌++◌, append_assoc, append-nil}
use native.Mathlib.Nat.{add_assoc, zero-add}
use native.Mathlib.Numerals.{add-one, add-two}
use native.Mathlib.Omega.{arith}
use borrow.Author.Tests.{lt-ltb, le-ltb}
use lib.ListN.{length, get_or, set, take, drop, replicate, length-append, length-drop, length-replicate, replicate-append-replicate, drop_of_length-le, take-append-drop}
use lib.Seq.{sets-eq, paste, paste-suc, length-paste, take_all, take_at, drop_at, drop-drop, length-take-le}
use borrow.Rule.Slice.PartMut.{put_mid}
use Rattle.std.proofs.lemmas.Slice.{put_mid-paste}
use Rattle.octets.specs.Room.{put, written, left_by}
use Rattle.refusal.specs.declared.Refusal.{Refusal}
use Rattle.std.specs.declared.result.Result.{Result}
use Rattle.refusal.specs.declared.Refusal.TheVariants.{RoomTooSmall}
use Rattle.std.specs.declared.result.Result.TheVariants.{Ok, Err}

-- a copy of which i octets are made
module _ (room₀ from room : List ℕ) (at i : ℕ) (fits : at + length from ≤ length room₀) (within : i ≤ length from)
    (is : room ≡ paste room₀ at from i) where
  pub same_length : length room ≡ length room₀
  same_length = ap length is ∙ length-paste room₀ at from i (omega arith) within

  pub turn : i < length from → set room (at + i) (get_or from i 0) ≡ paste room₀ at from (i + 1)
  turn more = rw (is, add-one i) (paste-suc room₀ at from i 0 (omega arith) more)

  pub done : length from ≤ i → room ≡ written room₀ at from
  done all =
      let whole : i ≡ length from = omega arith in
      is ∙ ap (λ (k : ℕ). take at room₀ ++ take k from ++ drop (at + k) room₀) whole
      ∙ ap (λ (l : List ℕ). take at room₀ ++ l ++ drop (at + length from) room₀) (take_all (length from) from (omega arith))

-- octets stored in a part of the room that is as long
pub copied : (room octets new : List ℕ) (at k : ℕ) → at + length octets ≤ length room → length octets ≡ k → new ≡ octets → put_mid at k room new ≡ written room at octets
copied room octets new at k fits long is =
    done room octets (put_mid at k room new) at (length octets) fits (omega arith)
    (put_mid-paste at k room new octets (length octets) is long refl) (omega arith)

-- an array that is filled from its start, of which i octets stand
module _ (array₀ from array : List ℕ) (i : ℕ) (as_many : length array₀ ≡ length from) (within : i ≤ length from) (is : array ≡ paste array₀ 0 from i) where
  pub next-filled : i < length from → set array i (get_or from i 0) ≡ paste array₀ 0 from (i + 1)
  next-filled more =
      ap (λ (k : ℕ). set array k (get_or from i 0)) (sym (zero-add i)) ∙ turn array₀ from array 0 i (omega arith) within is more

  pub all_filled : length from ≤ i → array ≡ from
  all_filled all =
      let none : length array₀ ≤ 0 + length from = omega arith in
      done array₀ from array 0 i (omega arith) within is all
      ∙ ap (λ (l : List ℕ). from ++ l) (drop_of_length-le array₀ none)
      ∙ append-nil from

-- what is left of places of 0 behind the first k
pub zeros-left : (k n m : ℕ) → k + n ≡ m → drop {A = ℕ} k (replicate m 0) ≡ replicate n 0
zeros-left k n m e =
    ap (drop k) (sym (replicate-append-replicate k n 0 ∙ ap (λ (x : ℕ). replicate x 0) e))
    ∙ drop_at (replicate k 0) (replicate n 0) k (length-replicate k 0)

-- nothing is written
pub written_none : (room : List ℕ) (at : ℕ) → written room at [] ≡ room
written_none room at =
    let zero : at + 0 ≡ at = omega arith in
    rw (append-nil, zero) (take-append-drop at room)

pub length-written : (room octets : List ℕ) (at : ℕ) → at + length octets ≤ length room → length (written room at octets) ≡ length room
length-written room octets at fits =
    let front : length (take at room) ≡ at = length-take-le at room (omega arith) in
    simp (length-append, front, length-drop) (omega arith)

pub written_twice :
    (room head body : List ℕ) (at : ℕ)
    → at + length head + length body ≤ length room
    → written (written room at head) (at + length head) body ≡ written room at (head ++ body)
written_twice room head body at fits =
    let front : List ℕ = take at room ++ head in
    let n : ℕ = at + length head in
    let many : length front ≡ n = length-append (take at room) head ∙ ap (λ (k : ℕ). k + length head) (length-take-le at room (omega arith)) in
    let kept : take n (front ++ drop n room) ≡ front = take_at front (drop n room) n many in
    let rest : drop (n + length body) (front ++ drop n room) ≡ drop (n + length body) room =
    sym (drop-drop (length body) n (front ++ drop n room)) ∙ ap (drop (length body)) (drop_at front (drop n room) n many) ∙ drop-drop (length body) n room
    in
    ap₂ (λ (x y : List ℕ). x ++ body ++ y) kept rest
    ∙ ap (λ (l : List ℕ). l ++ drop (n + length body) room) (append_assoc (take at room) head body)
    ∙ ap (λ (k : ℕ). take at room ++ (head ++ body) ++ drop k room)
    (add_assoc at (length head) (length body) ∙ ap (λ (k : ℕ). at + k) (sym (length-append head body)))

-- octets that stand, and more stored behind them
pub behind :
    (room head body first whole : List ℕ) (at next : ℕ)
    → next ≡ at + length head
    → next + length body ≤ length room
    → first ≡ written room at head
    → whole ≡ written first next body
    → whole ≡ written room at (head ++ body)
behind room head body first whole at next n fits p q =
    q ∙ ap₂ (λ (l : List ℕ) (k : ℕ). written l k body) p n ∙ written_twice room head body at (omega arith)

pub as_long : (room octets whole : List ℕ) (at : ℕ) → at + length octets ≤ length room → whole ≡ written room at octets → length whole ≡ length room
as_long room octets whole at fits is = ap length is ∙ length-written room octets at fits

-- octets stored one by one, each at its place
module _ (room : List ℕ) (at : ℕ) where
  pub one-stored : (a : ℕ) → at + 1 ≤ length room → set room at a ≡ written room at (a ∷ [])
  one-stored a fits = sets-eq (a ∷ []) room at fits

  pub two-stored : (a b : ℕ) → at + 2 ≤ length room → set (set room at a) (at + 1) b ≡ written room at (a ∷ b ∷ [])
  two-stored a b fits = rw (add-one at) (sets-eq (a ∷ b ∷ []) room at fits)

  pub three-stored : (a b c : ℕ)
      → at + 3 ≤ length room
      → set (set (set room at a) (at + 1) b) (at + 2) c ≡ written room at (a ∷ b ∷ c ∷ [])
  three-stored a b c fits = rw (add-one at, add-two at) (sets-eq (a ∷ b ∷ c ∷ []) room at fits)

module _ (room octets : List ℕ) (at : ℕ) where
  pub too_small : length room < at + length octets → Err RoomTooSmall ≡ put room at octets
  unfolding put
  too_small h = simp (lt-ltb (length room) (at + length octets) h)

  pub room_for : at + length octets ≤ length room → Ok (at + length octets) ≡ put room at octets
  unfolding put
  room_for h = simp (le-ltb (length room) (at + length octets) h)

-- octets that stand, and a run put behind them
pub put-behind :
    (room head body : List ℕ) (at : ℕ) (answer : Result ℕ Refusal) (left : List ℕ)
    → at + length (head ++ body) ≤ length room
    → answer ≡ put (written room at head) (at + length head) body
    → left ≡ left_by answer (written room at head) (at + length head) body
    → (answer ≡ put room at (head ++ body)) × (left ≡ left_by answer room at (head ++ body))
put-behind room head body at answer left fits p h =
    let many = length-append head body in
    let whole : at + length head + length body ≡ at + length (head ++ body) = omega arith in
    let same : length (written room at head) ≡ length room = length-written room head at (omega arith) in
    let is : answer ≡ Ok (at + length (head ++ body)) =
    p ∙ sym (room_for (written room at head) body (at + length head) (omega arith)) ∙ ap Ok whole
    in (
      is ∙ room_for room (head ++ body) at fits,
      h
          ∙ ap (λ (a : Result ℕ Refusal). left_by a (written room at head) (at + length head) body) is
          ∙ written_twice room head body at (omega arith)
          ∙ sym (ap (λ (a : Result ℕ Refusal). left_by a room at (head ++ body)) is),
    )
