-- The lines of a payload, put one behind the other.
use Prim.Native.Nat.{ℕ, zero, suc, ◌+◌, ◌≤◌, min}
use mathlib.Core.Path.{◌≡◌, refl, sym, ap, ◌∙◌}
use mathlib.Core.List.{List, [], ◌∷◌, ◌++◌, append_assoc, append-nil}
use mathlib.Core.Logic.{⊎_elim}
use native.Mathlib.Omega.{arith}
use borrow.Author.Tests.{lt-ltb}
use lib.Dec.{ltb}
use lib.ListN.{length, get_or, take}
use lib.Seq.{take_all}
use Rattle.octets.specs.Text.{ascii}
use Rattle.octets.proofs.Order.{lt-or-le}
use Rattle.digits.specs.Layout.{off_window}
use Rattle.dialled.specs.declared.Appended as dialled-appended
use Rattle.printing.specs.Field.{hex_field, line}
use Rattle.printing.specs.Room.{Appended}
use Rattle.printing.proofs.Appending as appending
use Rattle.following.specs.Following.{window_octets, period_lines, count_lines, dialled_lines}
use Rattle.following.specs.Private.{period_line}

none : (n : ℕ) → period_lines (take n []) ≡ []
unfolding period_lines
none zero = refl
none (suc n) = refl

-- each period that is carried, and no other
pub shown :
    (carried : ℕ) (a b d : List ℕ)
    → period_line (ltb 0 carried) a ++ period_line (ltb 1 carried) b ++ period_line (ltb 2 carried) d
    ≡ period_lines (take carried (a ∷ b ∷ d ∷ []))
unfolding period_lines
shown zero a b d = refl
shown (suc zero) a b d = append-nil (hex_field (ascii "period=") a ++ [])
shown (suc (suc zero)) a b d = append-nil _ ∙ ap (λ (l : List ℕ). hex_field (ascii "period=") a ++ l) (sym (append-nil (hex_field (ascii "period=") b)))
shown (suc (suc (suc more))) a b d =
    simp (lt-ltb 0 (suc (suc (suc more))) (omega arith), lt-ltb 1 (suc (suc (suc more))) (omega arith), lt-ltb 2 (suc (suc (suc more))) (omega arith))
    (append_assoc (hex_field (ascii "period=") a) (hex_field (ascii "period=") b) (hex_field (ascii "period=") d)
    ∙ ap (λ (l : List ℕ). hex_field (ascii "period=") a ++ (hex_field (ascii "period=") b ++ l))
    (sym (ap (λ (l : List ℕ). hex_field (ascii "period=") d ++ l) (none more) ∙ append-nil (hex_field (ascii "period=") d))))

pub dialled :
    (d : dialled-appended.Appended) {out mid after with first second third : List ℕ} {at next last : ℕ}
    → with ≡ window_octets d.fill
    → first ≡ window_octets (get_or d.periods 0 off_window)
    → second ≡ window_octets (get_or d.periods 1 off_window)
    → third ≡ window_octets (get_or d.periods 2 off_window)
    → at + 153 ≤ length out
    → Appended out at (count_lines d.fills with d.carried) 69 mid next
    → Appended mid next (period_lines (take d.carried (first ∷ second ∷ third ∷ []))) 84 after last
    → Appended out at (dialled_lines d) 153 after last
unfolding dialled_lines
dialled d w f s t room counts periods =
    appending.reads (appending.then counts periods (omega arith)) (rw (w, f, s, t))

-- the octets that are handed on, of seventy-two places
pub handed-on : (n : ℕ) (page : List ℕ) → length page ≡ 72 → take (min n 72) page ≡ take n page
handed-on n page many =
    ⊎_elim (λ less. let same : min n 72 ≡ n = omega arith in ap (λ (k : ℕ). take k page) same)
    (λ more.
    let same : min n 72 ≡ 72 = omega arith in
    ap (λ (k : ℕ). take k page) same ∙ take_all 72 page (omega arith) ∙ sym (take_all n page (omega arith)))
    (lt-or-le n 72)

-- a line by itself
pub alone :
    (text : List ℕ) {out after : List ℕ} {at next : ℕ}
    → at + 126 ≤ length out
    → length text ≤ 125
    → appending.Put (length text + 1) out at (line text) after next
    → Appended out at (line text) 126 after next
alone text room size p = appending.within (appending.then-line (appending.none _ _) text (omega arith) p) 126 (omega arith)
