-- Which digit periods are sent, over any run of entries and told by the entries alone (document 01, "Senders, per 20 ms"): "A
-- period is sent when it is on or changes, or is one of the three periods after such a one". Proved in proofs/DigitsSent.antt,
-- from `SentExactly` of dialling/specs/SenderClaims.antt, which tells changes by what the sender holds.
use Rattle.std.specs.Prelude.{ℕ, suc, ◌≡◌, List, [], ◌∷◌, map, Bool, true, false, not, cond, eqb, Option, Some, None, Result, Ok, Err}
use Rattle.refusal.specs.declared.Refusal.{Refusal}
use Rattle.refusal.specs.Order.{◌or◌}
use Rattle.levels.specs.Level.{code_of}
use Rattle.digits.specs.declared.layout.Digits.{Digits}
use Rattle.digits.specs.Layout.{window_wrong, level_low}
use Rattle.dialling.specs.declared.Entry.{Entry}
use Rattle.dialling.specs.Sender.{fresh_sender, window_in}
use Rattle.dialling.specs.SenderClaims.{answers, sent_periods, near_loud}

-- "off, on or code": 0 for off, and for on the code and one
abbrev pub tone_of : Entry → ℕ
tone_of e = cond e.on (suc e.code) 0

-- "a change of off, on or code from the entry before", where `before` is the tone of the last entry that was no refusal
abbrev pub changes_from : ℕ → Entry → Bool
changes_from before e = not (eqb before (tone_of e))

-- "it is on or changes"
abbrev pub loud_from : ℕ → Entry → Bool
loud_from before e = e.on or changes_from before e

-- 15; and 17: "Without a change .. the edge must be 0"
abbrev pub refused_from : ℕ → Entry → Bool
refused_from before e =
    window_wrong (window_in e) or level_low (code_of 31 e.level) or cond (eqb e.edge 0) false (not (changes_from before e))

-- of a run: which entries are refused, and of the periods, which are on or change
abbrev pub refusals : ℕ → List Entry → List Bool
refusals before [] = []
refusals before (e ∷ es) = cond (refused_from before e) (true ∷ refusals before es) (false ∷ refusals (tone_of e) es)

abbrev pub louds : ℕ → List Entry → List Bool
louds before [] = []
louds before (e ∷ es) = cond (refused_from before e) (louds before es) (loud_from before e ∷ louds (tone_of e) es)

abbrev pub is_refused : Result (Option Digits) Refusal → Bool
is_refused (Err refusal) = true
is_refused (Ok None) = false
is_refused (Ok (Some d)) = false

-- "Start state: off." Those entries are refused and no others, and a period is sent exactly when it or one of the three before it
-- is on or changes.
pub record DigitsSentExactly : Type 0 where
  pub refused : (es : List Entry) → map is_refused (answers fresh_sender es) ≡ refusals 0 es
  pub sent : (es : List Entry) → sent_periods fresh_sender es ≡ near_loud false false false (louds 0 es)
