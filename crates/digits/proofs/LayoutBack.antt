-- Digits payloads, written and read: the claims of specs/Claims.antt, and what the code stores.
use Prim.Native.Nat.{ℕ, zero, suc, ◌/◌, ◌%◌, ◌≤◌}
use mathlib.Core.Path.{◌≡◌, refl, sym, ap, subst, ◌∙◌}
use mathlib.Core.List.{List, ◌∷◌, ◌++◌}
use mathlib.Core.Bool.{Bool, true, false, not}
use native.Mathlib.Omega.{arith}
use Rattle.std.proofs.lemmas.Bool.Decides.{nat_tests}
use borrow.Author.Tests.{le-ltb, ltb-false, eqb-true, not-false}
use lib.Dec.{eqb}
use lib.ListN.{length, get_or}
use lib.IntN.{ℤ, pos, negsuc, neg_ℤ}
use Rattle.refusal.specs.declared.Refusal.TheVariants.{LengthWrong, ReservedCode, ValueOutOfRange}
use Rattle.octets.proofs.Order.{neither, past}
use Rattle.octets.proofs.MadeBack.{octets-made, same-made, never-made}
use Rattle.octets.specs.Made.{made, fit_of}
use Rattle.levels.specs.Level.{level_of, code_of}
use Rattle.levels.proofs.Laws.{code-of-level}
use Rattle.digits.specs.declared.layout.Window.{Window}
use Rattle.digits.specs.declared.layout.Digits.{Digits}
use Rattle.digits.specs.Layout.{window_of, spare_set, window_reserved, sequence_in, level_in, any_reserved, digits_in, window_wrong, windows_wrong, digits_read, type_and_edge, code_when_on, window_octets, level_low, level_code, digits_octets, digits_made}
use Rattle.digits.specs.Claims.{normal_level, normal_window, normal, DigitsReadBack, heard, unheard, DigitsMadeAgain, DigitsReadAlike}
use Rattle.digits.proofs.LayoutCases as cases
use Rattle.std.specs.declared.result.Result.TheVariants.{Ok, Err}

-- a content that is made into octets: its level and windows are in their ranges
pub record Fitting (d : Digits) : Type 0 where
  pub fair : level_low (code_of 31 d.level) ≡ false
  pub w0 : window_wrong d.current ≡ false
  pub w1 : window_wrong d.recent ≡ false
  pub w2 : window_wrong d.previous ≡ false

pub none-wrong : (d : Digits) → Fitting d → windows_wrong d ≡ false
none-wrong d f = simp (f.w0, f.w1, f.w2)

pub fitting : (d : Digits) (octets : List ℕ) → digits_made d ≡ made octets → Fitting d
unfolding digits_made
fitting d octets e =
    let level = past (level_low (code_of 31 d.level)) _ _ _ (never-made _ _ octets refl) e in
    let windows = past (windows_wrong d) _ _ _ (never-made _ _ octets refl) level.1 in
    let first = neither _ _ windows.0 in
    let others = neither _ _ first.1 in
    record { fair = level.0; w0 = first.0; w1 = others.0; w2 = others.1 }

pub fits : (d : Digits) (n : ℕ) → fit_of (digits_made d) ≡ Ok n → Fitting d
fits d n e = let m = octets-made (digits_made d) n e in fitting d m.0 m.1

pub made-octets : (d : Digits) → Fitting d → digits_made d ≡ made (digits_octets d)
made-octets d f = cases.all_right d f.fair (none-wrong d f)

pub fit_right : (d : Digits) (n : ℕ) → fit_of (digits_made d) ≡ Ok n → windows_wrong d ≡ false
fit_right d n e = none-wrong d (fits d n e)

pub fit_made : (d : Digits) (n : ℕ) → fit_of (digits_made d) ≡ Ok n → digits_made d ≡ made (digits_octets d)
fit_made d n e = made-octets d (fits d n e)

-- a window that was written reads back
record Back (first second : ℕ) (w : Window) : Type 0 where
  free : window_reserved first second ≡ false
  is : window_of first second ≡ normal_window w
  in-range : window_wrong (normal_window w) ≡ false

window-back : (on : Bool) (edge code : ℕ)
    → let w : Window = record { on = on; edge = edge; code = code } in
    window_wrong w ≡ false
    → Back (type_and_edge w) (code_when_on w) w
window-back true edge code e = record { free = grind (arith, nat_tests); is = grind (arith, nat_tests); in-range = e }
window-back false edge code e = record { free = grind (arith, nat_tests); is = grind (arith, nat_tests); in-range = grind (arith, nat_tests) }

-- a level that was written reads back
level-back : (z : ℤ) → level_low (code_of 31 z) ≡ false → (level_code (code_of 31 z) ≤ 31) × (level_of (level_code (code_of 31 z)) ≡ normal_level z)
level-back (pos zero) e = (omega arith, refl)
level-back (pos (suc n)) e = (omega arith, refl)
level-back (negsuc n) e = (grind (arith, nat_tests), grind (arith, nat_tests))

pub digits-read-back : DigitsReadBack
digits-read-back d octets e =
    let f = fitting d octets e in
    let o : List ℕ = digits_octets d in
    let c = d.current in
    let r = d.recent in
    let p = d.previous in
    let b0 = window-back c.on c.edge c.code f.w0 in
    let b1 = window-back r.on r.edge r.code f.w1 in
    let b2 = window-back p.on p.edge p.code f.w2 in
    let level = level-back d.level f.fair in
    let is : digits_in o ≡ normal d = rw (level.1, b0.is, b1.is, b2.is) in
    let bits : spare_set (level_in o) ≡ false = le-ltb 0 (level_in o / 32) (omega (arith, level.0)) in
    let free : any_reserved o ≡ false = simp (bits, b0.free, b1.free, b2.free) in
    let fair : windows_wrong (normal d) ≡ false = simp (b0.in-range, b1.in-range, b2.in-range) in
    ap digits_read (same-made _ octets o e (made-octets d f))
    ∙ cases.right o refl free (ap windows_wrong is ∙ fair)
    ∙ ap Ok is

-- what holds of a payload that was read
record Was (p : List ℕ) (d : Digits) : Type 0 where
  eight : length p ≡ 8
  free : any_reserved p ≡ false
  in-range : windows_wrong (digits_in p) ≡ false
  is : digits_in p ≡ d

was : (p : List ℕ) (d : Digits) → digits_read p ≡ Ok d → Was p d
unfolding digits_read
was p d e =
    let whole = past (not (eqb (length p) 8)) (Err LengthWrong) _ _ (λ q. cc) e in
    let free = past (any_reserved p) (Err ReservedCode) _ _ (λ q. cc) whole.1 in
    let range = past (windows_wrong (digits_in p)) (Err ValueOutOfRange) _ _ (λ q. cc) free.1 in
    record {
      eight = eqb-true (length p) 8 (not-false _ whole.0);
      free = free.0;
      in-range = range.0;
      is = let last = range.1 in cc;
    }

-- a window that was read is normal, and its octets are those that were read
record Again (first second : ℕ) : Type 0 where
  octets-are : window_octets (window_of first second) ≡ heard first second
  normal_is : normal_window (window_of first second) ≡ window_of first second

window-again : (first second : ℕ) → window_reserved first second ≡ false → Again first second
window-again first second free = record { octets-are = grind (arith, nat_tests); normal_is = grind (arith, nat_tests) }

normal-down : (n : ℕ) → normal_level (neg_ℤ (pos n)) ≡ neg_ℤ (pos n)
normal-down zero = refl
normal-down (suc n) = refl

same_row : (sequence : ℕ) {l m : ℕ} {a b c x y z : List ℕ} → l ≡ m → a ≡ x → b ≡ y → c ≡ z → sequence ∷ l ∷ (a ++ (b ++ c)) ≡ sequence ∷ m ∷ (x ++ (y ++ z))
same_row sequence level p q r = cc

-- the octets again, of a payload that was read
again : (p : List ℕ) → any_reserved p ≡ false → windows_wrong (digits_in p) ≡ false → (normal (digits_in p) ≡ digits_in p) × (digits_made (digits_in p) ≡ made (unheard p))
again p free range =
    let level = neither _ _ free in
    let current = neither _ _ level.1 in
    let others = neither _ _ current.1 in
    let w0 = window-again (get_or p 2 0) (get_or p 3 0) current.0 in
    let w1 = window-again (get_or p 4 0) (get_or p 5 0) others.0 in
    let w2 = window-again (get_or p 6 0) (get_or p 7 0) others.1 in
    let clear = ltb-false 0 (level_in p / 32) level.0 in
    let coded : code_of 31 (level_of (level_in p)) ≡ Ok (level_in p) = code-of-level 31 (level_in p) (omega arith) (omega arith) in (
      rw (normal-down (level_in p % 64), w0.normal_is, w1.normal_is, w2.normal_is),
      cases.all_right (digits_in p) (ap level_low coded) range ∙ ap made (same_row (sequence_in p) (ap level_code coded) w0.octets-are w1.octets-are w2.octets-are),
    )

pub digits-made-again : DigitsMadeAgain
digits-made-again d p small e =
    let w = was p d e in
    subst (λ (x : Digits). (normal x ≡ x) × (digits_made x ≡ made (unheard p))) w.is (again p w.free w.in-range)

pub digits-read-alike : DigitsReadAlike
digits-read-alike d p small e =
    let again = digits-made-again d p small e in
    (sym (was p d e).eight, digits-read-back d (unheard p) again.1 ∙ ap Ok again.0)
