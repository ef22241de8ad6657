-- Of a line the first 3,207 octets decide what it holds.
use Prim.Native.Nat.{ℕ, zero, suc, ◌+◌, ◌-◌, ◌<◌, ◌≤◌}
use mathlib.Core.Path.{◌≡◌, refl, sym, ap, ◌∙◌}
use mathlib.Core.List.{List, [], ◌∷◌}
use mathlib.Core.Bool.{Bool, true, false, cond}
use mathlib.Core.Logic.{⊎_elim}
use native.Mathlib.Omega.{arith}
use borrow.Author.Tests.{eqb-false}
use lib.Dec.{eqb}
use lib.ListN.{length, get_or, take}
use lib.Seq.{take_all, get_or-take, length-take-le}
use Rattle.octets.proofs.Order.{lt-or-le, eq-or-ne, either}
use Rattle.octets.specs.Text.{starts}
use Rattle.hexline.specs.Line.{frame_key, refused, line_read}
use Rattle.recording.specs.Pieces.{line_size}
use Rattle.recording.specs.Claims.{StartTells}
use Rattle.hexline.proofs.LineCases as cases
use Rattle.refusal.specs.declared.Refusal.TheVariants.{FieldTooLong}

-- a text starts with a word where its first octets do
pub starts-take : (k : ℕ) (s w : List ℕ) → length w ≤ k → starts (take k s) w ≡ starts s w
unfolding starts
starts-take k s [] h = refl
starts-take zero s (w ∷ ws) h = absurd (omega arith)
starts-take (suc k) [] (w ∷ ws) h = refl
starts-take (suc k) (x ∷ xs) (w ∷ ws) h = ap (λ (t : Bool). cond (eqb x w) t false) (starts-take k xs ws (omega arith))

-- a line has an LF at its end alone
no-lf : (s : List ℕ) (i : ℕ) → line_size s ≡ length s → i + 1 < length s → get_or s i 0 ≡ 10 → ⊥
unfolding line_size
no-lf [] i e h lf = omega arith
no-lf (x ∷ xs) i e h lf = go (eqb x 10) refl i e h lf (no-lf xs)
  where
    go :
        (t : Bool)
        → eqb x 10 ≡ t
        → (j : ℕ)
        → cond t 1 (suc (line_size xs)) ≡ suc (length xs)
        → j + 1 < suc (length xs)
        → get_or (x ∷ xs) j 0 ≡ 10
        → ((k : ℕ) → line_size xs ≡ length xs → k + 1 < length xs → get_or xs k 0 ≡ 10 → ⊥)
        → ⊥
    go true p j e h lf rest = omega arith
    go false p zero e h lf rest = eqb-false x 10 p lf
    go false p (suc j) e h lf rest = rest j (omega arith) (omega arith) lf

-- a line over 3,207 octets
module _ (line : List ℕ) (one : line_size line ≡ length line) (long : 3207 < length line) where
  size : length (take 3207 line) ≡ 3207
  size = length-take-le 3207 line (omega arith)

  last : get_or (take 3207 line) (length (take 3207 line) - 1) 0 ≡ 10 → ⊥
  last lf =
      let place : length (take 3207 line) - 1 ≡ 3206 = omega (arith, size) in
      let there : get_or (take 3207 line) 3206 0 ≡ 10 = rw place at lf in
      no-lf line 3206 one (omega arith) (sym (get_or-take 3207 line 3206 0 (omega arith)) ∙ there)

  too_long : starts line frame_key ≡ true → line_read line ≡ refused FieldTooLong
  too_long keyed =
      ⊎_elim (λ lf. cases.long line keyed lf (omega arith)) (λ none. cases.long-cut line keyed none (omega arith))
      (eq-or-ne (get_or line (length line - 1) 0) 10)

  cut-too-long : starts line frame_key ≡ true → line_read (take 3207 line) ≡ refused FieldTooLong
  cut-too-long keyed =
      cases.long-cut (take 3207 line) (starts-take 3207 line frame_key (omega arith) ∙ keyed) last (omega (arith, size))

  same : line_read (take 3207 line) ≡ line_read line
  same =
      either (λ keyed. cut-too-long keyed ∙ sym (too_long keyed))
      (λ other. cases.otherwise (take 3207 line) (starts-take 3207 line frame_key (omega arith) ∙ other) ∙ sym (cases.otherwise line other))
      (starts line frame_key)
      refl

pub start-tells : StartTells
start-tells line one =
    ⊎_elim (λ (long : 3207 < length line). same line one long) (λ (short : length line ≤ 3207). ap line_read (take_all 3207 line short))
    (lt-or-le 3207 (length line))
