-- The newest octets of a body, oldest first; and how many a payload adds.
use Prim.Native.Nat.{ℕ, zero, suc, ◌+◌, ◌-◌, ◌<◌, ◌≤◌}
use mathlib.Core.Path.{◌≡◌, sym, ap, ◌∙◌}
use mathlib.Core.List.{List, [], ◌∷◌, ◌++◌, reverse, reverse-append}
use mathlib.Core.Bool.{Bool, true, false}
use native.Mathlib.Nat.{zero-add}
use native.Mathlib.Omega.{arith}
use borrow.Author.Tests.{eqb-true}
use lib.ListN.{length, get_or, set, take, replicate, length-reverse}
use lib.Seq.{paste, take-suc, length-take-le}
use Rattle.octets.proofs.Writes as writes
use Rattle.std.proofs.lemmas.Bool.Decides.{nat_tests}
use Rattle.fax.specs.declared.Command.{Command}
use Rattle.fax.specs.declared.Command.TheVariants.{Off, On, Page, EndOfFrame, Abort}
use Rattle.fax.specs.Fax.{is_page, body_sized}
use Rattle.faxing.specs.Replay.{add_count, handed_on}

-- one octet more at the older end
one-older : (body : List ℕ) (n : ℕ) → n < length body → reverse (take (suc n) body) ≡ get_or body n 0 ∷ reverse (take n body)
one-older body n there = ap reverse (take-suc body n 0 there) ∙ reverse-append (take n body) (get_or body n 0 ∷ [])

stands : (body : List ℕ) (n i : ℕ) → i < n → n ≤ length body → get_or (reverse (take n body)) i 0 ≡ get_or body (n - 1 - i) 0
stands body zero i less fits = absurd (omega arith)
stands body (suc n) zero less fits =
    ap (λ (l : List ℕ). get_or l 0 0) (one-older body n (omega arith)) ∙ ap (λ (k : ℕ). get_or body k 0) (omega arith)
stands body (suc n) (suc i) less fits =
    ap (λ (l : List ℕ). get_or l (suc i) 0) (one-older body n (omega arith))
    ∙ stands body n i (omega arith) (omega arith)
    ∙ ap (λ (k : ℕ). get_or body k 0) (omega arith)

-- seventy-two places of 0, of which i are filled with the newest n octets
abbrev pub filled : List ℕ → ℕ → ℕ → List ℕ
filled body n i = paste (replicate 72 0) 0 (reverse (take n body)) i

module _ (body : List ℕ) (n : ℕ) (fits : n ≤ length body) (few : n ≤ 72) (octets : List ℕ) (i : ℕ) (is : octets ≡ filled body n i) where
  many : length (reverse (take n body)) ≡ n
  many = length-reverse (take n body) ∙ length-take-le n body fits

  pub one_more : i < n → set octets i (get_or body (n - 1 - i) 0) ≡ filled body n (i + 1)
  one_more less =
      let m = many in
      ap (λ (k : ℕ). set octets k (get_or body (n - 1 - i) 0)) (sym (zero-add i))
      ∙ ap (set octets (0 + i)) (sym (stands body n i less fits))
      ∙ writes.turn (replicate 72 0) (reverse (take n body)) octets 0 i (omega arith) (omega arith) is (omega arith)

  pub all_there : i ≤ n → n ≤ i → octets ≡ handed_on n body
  all_there within all =
      let m = many in
      writes.done (replicate 72 0) (reverse (take n body)) octets 0 i (omega arith) (omega arith) is (omega arith)
      ∙ ap (λ (l : List ℕ). reverse (take n body) ++ l) (writes.zeros-left (0 + length (reverse (take n body))) (72 - n) 72 (omega arith))

page-sized : (n : ℕ) → is_page n ≡ true → (3 ≤ n) × (n ≤ 72)
unfolding is_page
page-sized n sized = grind (arith, nat_tests)

-- how many a payload adds: no more than it has, and these fit the places
pub add_fits : (hdlc : Bool) (command : Command) (step n : ℕ) → body_sized command n ≡ true → (add_count hdlc command step n ≤ n) × (n ≤ 72)
unfolding body_sized
add_fits hdlc Off step n sized = let none = eqb-true n 0 sized in (omega arith, omega arith)
add_fits hdlc (On to_hdlc modulation frequency) step n sized = let none = eqb-true n 0 sized in (omega arith, omega arith)
add_fits true Page step n sized = let size = page-sized n sized in (omega (arith, size.0), size.1)
add_fits false Page step n sized = let size = page-sized n sized in (grind (arith, nat_tests), size.1)
add_fits hdlc EndOfFrame step n sized = let three = eqb-true n 3 sized in (omega arith, omega arith)
add_fits hdlc Abort step n sized = let three = eqb-true n 3 sized in (omega arith, omega arith)
