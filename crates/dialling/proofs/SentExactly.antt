-- Which periods are sent (specs/SenderClaims.antt): the tail tells how long ago a period was on or changed.
use Prim.Native.Nat.{ℕ, ◌-◌}
use mathlib.Core.Path.{◌≡◌, refl, sym, ap, ◌∙◌}
use mathlib.Core.List.{List, [], ◌∷◌, ◌++◌}
use mathlib.Core.Bool.{Bool, true, false, cond}
use lib.Dec.{ltb}
use lib.IntN.{ℤ}
use Rattle.refusal.specs.Order.{◌or◌}
use Rattle.octets.proofs.Order.{picked}
use Rattle.levels.specs.Level.{code_of}
use Rattle.digits.specs.declared.layout.Window.{Window}
use Rattle.digits.specs.Layout.{window_wrong, level_low}
use Rattle.dialling.specs.declared.Entry.{Entry}
use Rattle.dialling.specs.declared.Sender.{Sender}
use Rattle.dialling.specs.Sender.{Taken}
use Rattle.dialling.specs.Sender.{fresh_sender, window_in, stray_edge, loud, due, tail_after, period, sending}
use Rattle.dialling.specs.SenderClaims.{loud_of, sent_of, loud_periods, sent_periods, near_loud, SentExactly}

-- the tail, by whether the last period, the one before it and the one before that were on or changed
abbrev tail_of : Bool → Bool → Bool → ℕ
tail_of a b c = cond a 3 (cond b 2 (cond c 1 0))

some-tail : (a b c : Bool) → ltb 0 (tail_of a b c) ≡ a or b or c
some-tail true b c = refl
some-tail false true c = refl
some-tail false false true = refl
some-tail false false false = refl

next-tail : (now a b c : Bool) → cond now 3 (tail_of a b c - 1) ≡ tail_of now a b
next-tail true a b c = refl
next-tail false true b c = refl
next-tail false false true c = refl
next-tail false false false true = refl
next-tail false false false false = refl

-- a sender whose tail tells this, and what it makes of more entries
module _ (es : List Entry) (goes : (s : Sender) (a b c : Bool) → s.tail ≡ tail_of a b c → sent_periods s es ≡ near_loud a b c (loud_periods s es))
    (s : Sender) (a b c : Bool) (tail : s.tail ≡ tail_of a b c) where
  abbrev Goes : Bool → Taken → Type 0
  Goes now x = sent_of x.answer ++ sent_periods x.sender es ≡ near_loud a b c (loud_of x.answer now ++ loud_periods x.sender es)

  due-is : (w : Window) → due s w ≡ loud s w or a or b or c
  due-is w = ap (λ (n : ℕ). cond (loud s w) true (ltb 0 n)) tail ∙ ap (λ (t : Bool). cond (loud s w) true t) (some-tail a b c)

  tail-is : (w : Window) → tail_after s w ≡ tail_of (loud s w) a b
  tail-is w = ap (λ (n : ℕ). cond (loud s w) 3 (n - 1)) tail ∙ next-tail (loud s w) a b c

  goes_on : (sent now : Bool) (next : Sender) → sent ≡ now or a or b or c → next.tail ≡ tail_of now a b
      → sent ∷ sent_periods next es ≡ near_loud a b c (now ∷ loud_periods next es)
  goes_on sent now next is stands =
      ap (λ (t : Bool). t ∷ sent_periods next es) is ∙ ap (λ (l : List Bool). (now or a or b or c) ∷ l) (goes next now a b stands)

  by-period : (w : Window) (level : ℤ) → Goes (loud s w) (period s w level)
  by-period w level =
      picked (Goes (loud s w)) (due s w) _ _
      (λ e. goes_on true (loud s w) _ (sym e ∙ due-is w) (tail-is w))
      (λ e. goes_on false (loud s w) _ (sym e ∙ due-is w) (tail-is w))

  by-entry : (e : Entry) → Goes (loud s (window_in e)) (sending s e)
  unfolding sending
  by-entry e =
      let w : Window = window_in e in
      picked (Goes (loud s w)) (window_wrong w) _ _ (λ h. goes s a b c tail)
      (λ h.
      picked (Goes (loud s w)) (level_low (code_of 31 e.level)) _ _ (λ h. goes s a b c tail)
      (λ h.
      picked (Goes (loud s w)) (stray_edge s w) _ _ (λ h. goes s a b c tail) (λ h. by-period w e.level)))

goes-all : (es : List Entry) (s : Sender) (a b c : Bool) → s.tail ≡ tail_of a b c → sent_periods s es ≡ near_loud a b c (loud_periods s es)
goes-all [] s a b c tail = refl
goes-all (e ∷ es) s a b c tail = by-entry es (goes-all es) s a b c tail e

pub sent-exactly : SentExactly
sent-exactly es = goes-all es fresh_sender false false false refl
