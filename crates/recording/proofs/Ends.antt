-- Looking for the end of a line and of the text, from place i on.
use Prim.Native.Nat.{ℕ, suc, ◌+◌, ◌-◌, ◌<◌, ◌≤◌}
use mathlib.Core.Path.{◌≡◌}
use mathlib.Core.List.{List, [], ◌∷◌}
use mathlib.Core.Bool.{Bool, true, false, cond, ◌&&◌}
use native.Mathlib.Omega.{arith}
use native.Mathlib.Numerals.{add-one}
use lib.Dec.{eqb}
use lib.ListN.{length, get_or, take, drop, length-drop, drop_of_length-le}
use lib.Seq.{drop-cons, take_all}
use Rattle.octets.specs.Text.{starts}
use Rattle.hexline.specs.Line.{frame_key}
use Rattle.recording.specs.Pieces.{text_from, line_size}

pub size-within : (s : List ℕ) → line_size s ≤ length s
unfolding line_size
size-within [] = omega arith
size-within (x ∷ xs) = go (eqb x 10) (size-within xs)
  where
    go : (t : Bool) → line_size xs ≤ length xs → cond t 1 (suc (line_size xs)) ≤ suc (length xs)
    go true h = omega arith
    go false h = omega arith

pub size-some : (s : List ℕ) → 0 < length s → 0 < line_size s
unfolding line_size
size-some [] h = h
size-some (x ∷ xs) h = go (eqb x 10)
  where
    go : (t : Bool) → 0 < cond t 1 (suc (line_size xs))
    go true = omega arith
    go false = omega arith

module _ (s : List ℕ) (at : ℕ) where
  pub text-over : (begins : Bool) → length s ≤ at → text_from begins (drop at s) ≡ 0
  unfolding text_from
  text-over begins h = rw (drop_of_length-le s h)

  module _ (there : at < length s) where
    pub frame_here : starts (drop at s) frame_key ≡ true → text_from true (drop at s) ≡ 0
    unfolding text_from
    frame_here h = rw (drop-cons s at 0 there) (simp (rw (drop-cons s at 0 there) at h))

    pub text-on :
        (begins : Bool)
        → (begins && starts (drop at s) frame_key) ≡ false
        → text_from begins (drop at s) ≡ suc (text_from (eqb (get_or s at 0) 10) (drop (at + 1) s))
    unfolding text_from
    text-on begins h = rw (drop-cons s at 0 there, add-one at) (simp (rw (drop-cons s at 0 there) at h))

-- the text ends within the octets looked at
pub text-within : (begins : Bool) (s : List ℕ) → text_from begins s ≤ length s
unfolding text_from
text-within begins [] = omega arith
text-within begins (x ∷ xs) = go (begins && starts (x ∷ xs) frame_key) (text-within (eqb x 10) xs)
  where
    go : (t : Bool) → text_from (eqb x 10) xs ≤ length xs → cond t 0 (suc (text_from (eqb x 10) xs)) ≤ suc (length xs)
    go true h = omega arith
    go false h = omega arith

-- a part of a slice to its end
pub rest-is : (s : List ℕ) (n : ℕ) → take (length s - n) (drop n s) ≡ drop n s
rest-is s n = take_all (length s - n) (drop n s) (omega (arith, length-drop n s))
