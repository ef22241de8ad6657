-- The first octets of an input decide what reading its text tells; and what is printed over pieces is what is due for the whole.
use Prim.Native.Nat.{ℕ, ◌+◌, ◌<◌, ◌≤◌}
use mathlib.Core.Path.{◌≡◌, refl, sym, ap, subst, ◌∙◌}
use mathlib.Core.List.{List, [], ◌∷◌, ◌++◌, append-nil}
use mathlib.Core.Bool.{true}
use mathlib.Core.Logic.{◌⊎◌, ⊎_elim}
use native.Mathlib.Omega.{arith}
use lib.ListN.{length, take, drop}
use lib.Seq.{take-take, length-take-le, take-append_seam, drop-append-le}
use Rattle.octets.proofs.Order.{lt-or-le}
use Rattle.provisioning.specs.Text.{Reading, refused, taken, Entry, reading, table_of}
use Rattle.provisioning.proofs.Turns as texts
use Rattle.recording.specs.Pieces.{text_end, line_ends}
use Rattle.recording.specs.Walk.{Told, all_told, whole}
use Rattle.recording.specs.Input.{text_read, after_text, input_printed, behind_text, pieces_printed}
use Rattle.recording.specs.Claims.{FirstPieceDecides, FirstPieceEnds, PiecesPrint}
use Rattle.recording.proofs.Ends as ends
use Rattle.recording.proofs.TextStart as text
use Rattle.recording.proofs.Joins as joins
use Rattle.refusal.specs.declared.Refusal.TheVariants.{TextTooLong}

-- a text over 8,192 octets
too_long : (s : List ℕ) → 8192 < text_end s → text_read s ≡ refused TextTooLong 0
too_long s h =
    texts.too_long (take (text_end s) s) (omega (arith, length-take-le (text_end s) s (ends.text-within true s)))

module _ (input : List ℕ) (n : ℕ) (room : 8198 ≤ n) where
  early : text_end input + 6 ≤ n → text_read (take n input) ≡ text_read input
  early h =
      let same : text_end (take n input) ≡ text_end input = text.same_end true input n h in
      let part : take (text_end input) (take n input) ≡ take (text_end input) input = take-take (text_end input) n input (omega arith) in
      ap (λ (k : ℕ). reading (take k (take n input))) same ∙ ap reading part

  late : n < text_end input + 6 → text_read (take n input) ≡ text_read input
  late h =
      too_long (take n input) (omega (arith, text.late_end true input n h)) ∙ sym (too_long input (omega arith))

  never : (es : List Entry) → n < text_end input + 6 → text_read input ≡ taken es → text_end (take n input) ≡ text_end input
  never es h e =
      let long : text_read input ≡ refused TextTooLong 0 = too_long input (omega arith) in
      let z : ◌≡◌ {A = ℕ} 0 1 = cc in
      absurd (omega arith)

pub first-piece-decides : FirstPieceDecides
first-piece-decides input n room =
    ⊎_elim (λ (h : n < text_end input + 6). late input n room h) (λ (h : text_end input + 6 ≤ n). early input n room h)
    (lt-or-le n (text_end input + 6))

pub first-piece-ends : FirstPieceEnds
first-piece-ends input n es room e =
    ⊎_elim (λ (h : n < text_end input + 6). never input n room es h e) (λ (h : text_end input + 6 ≤ n). text.same_end true input n h)
    (lt-or-le n (text_end input + 6))

-- the first piece tells what the text says, and where it ends
module _ (first rest : List ℕ) (large : (8198 ≤ length first) ⊎ (rest ≡ [])) where
  all : rest ≡ [] → first ≡ first ++ rest
  all none = sym (append-nil first) ∙ ap (λ (l : List ℕ). first ++ l) (sym none)

  decides : text_read first ≡ text_read (first ++ rest)
  decides =
      ⊎_elim
      (λ (h : 8198 ≤ length first).
      ap text_read (sym (take-append_seam first rest)) ∙ first-piece-decides (first ++ rest) (length first) h)
      (λ (none : rest ≡ []). ap text_read (all none))
      large

  same_end : (es : List Entry) → text_read (first ++ rest) ≡ taken es → text_end first ≡ text_end (first ++ rest)
  same_end es e =
      ⊎_elim
      (λ (h : 8198 ≤ length first).
      ap text_end (sym (take-append_seam first rest)) ∙ first-piece-ends (first ++ rest) (length first) es h e)
      (λ (none : rest ≡ []). ap text_end (all none))
      large

pub pieces-print : PiecesPrint
unfolding pieces_printed input_printed whole
pieces-print S p room kept first pieces by-start enough size large few =
    ap (λ (r : Reading). behind_text p r room kept (drop (text_end first) first ∷ pieces)) (decides first (whole pieces) large)
    ∙ go (text_read (first ++ whole pieces)) refl
  where
    go :
        (r : Reading)
        → text_read (first ++ whole pieces) ≡ r
        → behind_text p r room kept (drop (text_end first) first ∷ pieces)
        ≡ after_text p r (drop (text_end (first ++ whole pieces)) (first ++ whole pieces))
    go (refused refusal line) e = refl
    go (taken es) e =
        let rest : drop (text_end first) first ++ whole pieces ≡ drop (text_end (first ++ whole pieces)) (first ++ whole pieces) =
        sym (drop-append-le (text_end first) first (whole pieces) (ends.text-within true first))
        ∙ ap (λ (k : ℕ). drop k (first ++ whole pieces)) (same_end first (whole pieces) large es e)
        in
        let fewer : line_ends (drop (text_end first) first ++ whole pieces) < 18446744073709551616 =
        subst (λ (l : List ℕ). line_ends l < 18446744073709551616) (sym rest) few
        in
        let told =
        joins.pieces-tell S (p.tell (table_of es)) p.most room kept p.fresh (drop (text_end first) first ∷ pieces) (by-start (table_of es)) enough size
        fewer
        in
        ap (λ (t : Told S). t.text) told ∙ ap (λ (l : List ℕ). (all_told (p.tell (table_of es)) p.fresh l).text) rest
