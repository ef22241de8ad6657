-- Which digit periods are sent (specs/DigitsSent.antt): the sender holds the tone of the entry before.
use Prim.Native.Nat.{ℕ, suc}
use mathlib.Core.Path.{◌≡◌, refl, sym, ap, ap₂, subst, ◌∙◌}
use mathlib.Core.List.{List, [], ◌∷◌, ◌++◌, map}
use mathlib.Core.Bool.{Bool, true, false, not, cond}
use native.Mathlib.Omega.{arith}
use borrow.Author.Tests.{eq-eqb, ne_eqb, eqb-true, eqb-false}
use lib.Dec.{eqb}
use Rattle.refusal.specs.Order.{◌or◌}
use Rattle.octets.proofs.Order.{either}
use Rattle.levels.specs.Level.{code_of}
use Rattle.digits.specs.Layout.{window_wrong, level_low}
use Rattle.dialling.specs.declared.Entry.{Entry}
use Rattle.dialling.specs.declared.Sender.{Sender}
use Rattle.dialling.specs.Sender.{Taken, fresh_sender, window_in, changes, stray_edge, loud, due, period, sending}
use Rattle.dialling.specs.SenderClaims.{answers, loud_of, loud_periods, near_loud}
use Rattle.dialling.proofs.SentExactly.{sent-exactly}
use Rattle.octets.proofs.Order.{picked}
use Rattle.carried.specs.DigitsSent.{tone_of, changes_from, loud_from, refused_from, refusals, louds, is_refused, DigitsSentExactly}

-- the tone that a sender holds
abbrev tone_in : Sender → ℕ
tone_in s = cond s.on (suc s.code) 0

one_more : (a b : ℕ) → eqb a b ≡ eqb (suc a) (suc b)
one_more a b =
    either
    (λ (e : eqb a b ≡ true). let same : a ≡ b = eqb-true a b e in e ∙ sym (eq-eqb (suc a) (suc b) (ap suc same)))
    (λ (e : eqb a b ≡ false). e ∙ sym (ne_eqb (suc a) (suc b) (λ same. eqb-false a b e (omega arith))))
    (eqb a b)
    refl

changed : (held on : Bool) (code now : ℕ) → cond held (cond on (not (eqb code (cond on now 0))) true) on ≡ not (eqb (cond held (suc code) 0) (cond on (suc now) 0))
changed true true code now = ap not (one_more code now)
changed true false code now = ap not (sym (ne_eqb (suc code) 0 (λ same. omega arith)))
changed false true code now = ap not (sym (ne_eqb 0 (suc now) (λ same. omega arith)))
changed false false code now = refl

kept-tone : (on : Bool) (code : ℕ) → cond on (suc (cond on code 0)) 0 ≡ cond on (suc code) 0
kept-tone true code = refl
kept-tone false code = refl

-- three tests in order, and whether one of them holds
in_order : (P : Taken → Bool → Type 0) (a b c : Bool) (x y z last : Taken) → P x true → P y true → P z true → P last false → P (cond a x (cond b y (cond c z last))) (a or b or c)
in_order P true b c x y z last px py pz pl = px
in_order P false true c x y z last px py pz pl = py
in_order P false false true x y z last px py pz pl = pz
in_order P false false false x y z last px py pz pl = pl

-- a sender that holds this tone, an entry, and more entries
module _ (es : List Entry)
    (goes : (s : Sender) (before : ℕ) → tone_in s ≡ before → (map is_refused (answers s es) ≡ refusals before es) × (loud_periods s es ≡ louds before es))
    (s : Sender) (before : ℕ) (holds : tone_in s ≡ before) (e : Entry) where
  abbrev Goes : Taken → Bool → Type 0
  Goes x wrong =
      (is_refused x.answer ∷ map is_refused (answers x.sender es) ≡ cond wrong (true ∷ refusals before es) (false ∷ refusals (tone_of e) es))
      × (loud_of x.answer (loud s (window_in e)) ++ loud_periods x.sender es ≡ cond wrong (louds before es) (loud_from before e ∷ louds (tone_of e) es))

  changes-so : changes s (window_in e) ≡ changes_from before e
  changes-so = changed s.on e.on s.code e.code ∙ ap (λ (t : ℕ). not (eqb t (tone_of e))) holds

  loud-so : loud s (window_in e) ≡ loud_from before e
  loud-so = ap (λ (b : Bool). cond e.on true b) changes-so

  stray-so : stray_edge s (window_in e) ≡ cond (eqb e.edge 0) false (not (changes_from before e))
  stray-so = ap (λ (b : Bool). cond (eqb e.edge 0) false (not b)) changes-so

  is-refused : (true ∷ map is_refused (answers s es) ≡ true ∷ refusals before es) × (loud_periods s es ≡ louds before es)
  is-refused = let rest = goes s before holds in (ap (λ (l : List Bool). true ∷ l) rest.0, rest.1)

  is-period : (next : Sender) → tone_in next ≡ tone_of e
      → (false ∷ map is_refused (answers next es) ≡ false ∷ refusals (tone_of e) es) × (loud s (window_in e) ∷ loud_periods next es ≡ loud_from before e ∷ louds (tone_of e) es)
  is-period next tone = let rest = goes next (tone_of e) tone in (ap (λ (l : List Bool). false ∷ l) rest.0, ap₂ ◌∷◌ loud-so rest.1)

  by-period : Goes (period s (window_in e) e.level) false
  by-period =
      picked (λ (x : Taken). Goes x false) (due s (window_in e)) _ _ (λ h. is-period _ (kept-tone e.on e.code)) (λ h. is-period _ (kept-tone e.on e.code))

  by-entry : Goes (sending s e) (refused_from before e)
  unfolding sending
  by-entry =
      subst (λ (c : Bool). Goes (sending s e) (window_wrong (window_in e) or level_low (code_of 31 e.level) or c)) stray-so
      (in_order Goes (window_wrong (window_in e)) (level_low (code_of 31 e.level)) (stray_edge s (window_in e)) _ _ _ _ is-refused is-refused is-refused by-period)

goes-all : (es : List Entry) (s : Sender) (before : ℕ) → tone_in s ≡ before → (map is_refused (answers s es) ≡ refusals before es) × (loud_periods s es ≡ louds before es)
goes-all [] s before holds = (refl, refl)
goes-all (e ∷ es) s before holds = by-entry es (goes-all es) s before holds e

pub digits-sent-exactly : DigitsSentExactly
digits-sent-exactly =
    record {
      refused = λ es. (goes-all es fresh_sender 0 refl).0;
      sent = λ es. sent-exactly es ∙ ap (near_loud false false false) (goes-all es fresh_sender 0 refl).1;
    }
