-- Every payload that a digit sender emits brings the number and the windows of its period; and the numbers rise.
use Prim.Native.Nat.{ℕ, suc, ◌+◌, ◌%◌, ◌^◌}
use mathlib.Core.Path.{◌≡◌, refl, sym, ap, subst, ◌∙◌}
use mathlib.Core.List.{List, [], ◌∷◌, ◌++◌, map}
use mathlib.Core.Bool.{true, false}
use mathlib.Core.Option.{some}
use native.Mathlib.Nat.{zero-add}
use native.Mathlib.Omega.{arith}
use lib.ListN.{get_or}
use Rattle.std.specs.declared.option.Option as std_option
use Rattle.std.specs.declared.option.Option.TheVariants.{Some, None}
use Rattle.std.specs.declared.result.Result.{Result}
use Rattle.std.specs.declared.result.Result.TheVariants.{Ok, Err}
use Rattle.refusal.specs.declared.Refusal.{Refusal}
use Rattle.octets.specs.Made.{Made, octets_of}
use Rattle.octets.proofs.Order.{either}
use Rattle.counts.proofs.Laws.{laws}
use Rattle.digits.specs.declared.layout.Window.{Window}
use Rattle.digits.specs.declared.layout.Digits.{Digits}
use Rattle.dialling.specs.declared.Entry.{Entry}
use Rattle.dialling.specs.declared.Sender.{Sender}
use Rattle.digits.specs.Layout.{off_window, digits_read, digits_made}
use Rattle.dialling.specs.Sender.{Taken, fresh_sender, window_in, due, payload_of, after_sent, after_unsent, sending}
use Rattle.dialling.specs.SenderClaims.{Proper, ReadsBack}
use Rattle.dialling.proofs.SenderBack.{split, fresh-proper, stays-proper, sent-reads-back}
use Rattle.dialling.proofs.SenderCases as cases
use Rattle.replay.specs.Periods.{pay}
use Rattle.replay.proofs.Sublists.{Each, rising-from, Rising}
use Rattle.carried.specs.Emissions.{Emission}
use Rattle.carried.specs.Digits.{number_after, emitted, emissions, sent_of, sent_by, period_of}
use Rattle.carried.proofs.DigitRule.{read_payload}

-- a payload brings the windows of its period
abbrev pub Brings : (ℕ → Window) → Emission → Type 0
Brings S p = read_payload (digits_read p.octets) ≡ some (pay 8 S p.number)

-- what is still to be sent stands in S from n on, behind the two periods that were sent before
abbrev Ahead : (ℕ → Window) → ℕ → Sender → List Window → Type 0
Ahead S n s ws = (i : ℕ) → S (n + i) ≡ get_or (s.previous ∷ s.recent ∷ ws) i off_window

module _ (S : ℕ → Window) where
  abbrev Run : List Entry → Type 0
  Run es = (s : Sender) (n : ℕ) → Proper s → s.next.0 ≡ n % 2 ^ 8 → Ahead S n s (sent_by s es) → Each (Brings S) (emissions s n es)

  -- the same, of what the sender answered to an entry
  abbrev Answered : Sender → ℕ → Entry → List Entry → Taken → Type 0
  Answered s n e es t =
      Ahead S n s (sent_of t.answer e ++ sent_by t.sender es)
      → Each (Brings S) (emitted n t.answer ++ emissions t.sender (number_after n t.answer) es)

  brings-windows : (s : Sender) (n : ℕ) (e : Entry) (rest : List Window)
      → s.next.0 ≡ n % 2 ^ 8
      → Ahead S n s (window_in e ∷ rest)
      → ReadsBack (payload_of s (window_in e) e.level)
      → Brings S (record { number = n; octets = octets_of (digits_made (payload_of s (window_in e) e.level)) })
  brings-windows s n e rest next ahead back =
      let w0 : s.previous ≡ S n = sym (ahead 0) ∙ ap S (omega arith) in
      let w1 : s.recent ≡ S (n + 1) = sym (ahead 1) in
      let w2 : window_in e ≡ S (n + 2) = sym (ahead 2) in
      ap (λ (m : Made). read_payload (digits_read (octets_of m))) back.written
      ∙ ap read_payload back.read
      ∙ rw (next, w0, w1, w2) refl

  sends : (s : Sender) (n : ℕ) (e : Entry) (es : List Entry) → Run es → Proper s → s.next.0 ≡ n % 2 ^ 8
      → sending s e ≡ record { answer = Ok (Some (payload_of s (window_in e) e.level)); sender = after_sent s (window_in e) }
      → Answered s n e es (record { answer = Ok (Some (payload_of s (window_in e) e.level)); sender = after_sent s (window_in e) })
  sends s n e es run proper next is ahead =
      let w = window_in e in
      let back = sent-reads-back s e (payload_of s w e.level) proper (ap (λ (t : Taken). t.answer) is) in
      let number : (s.next.0 + 1) % 2 ^ 8 ≡ suc n % 2 ^ 8 =
      ap (λ (m : ℕ). (m + 1) % 2 ^ 8) next ∙ (laws 8).goes_on n 1 ∙ ap (λ (m : ℕ). m % 2 ^ 8) (omega arith)
      in
      let proper-after : Proper (after_sent s w) = subst (λ (t : Taken). Proper t.sender) is (stays-proper s e proper) in
      let ahead_after : Ahead S (suc n) (after_sent s w) (sent_by (after_sent s w) es) = λ i. ap S (omega arith) ∙ ahead (suc i) in
      (brings-windows s n e (sent_by (after_sent s w) es) next ahead back, run (after_sent s w) (suc n) proper-after number ahead_after)

  entry-brings : (s : Sender) (n : ℕ) (e : Entry) (es : List Entry) → Run es → Proper s → s.next.0 ≡ n % 2 ^ 8 → Answered s n e es (sending s e)
  entry-brings s n e es run proper next =
      split s e (λ number is. subst (Answered s n e es) (sym is) (λ ahead. run s n proper next ahead))
      (λ passed.
      let w = window_in e in
      either
      (λ (sent : due s w ≡ true).
      let is : sending s e ≡ record { answer = Ok (Some (payload_of s w e.level)); sender = after_sent s w } = passed.is ∙ cases.sent s w e.level sent in
      subst (Answered s n e es) (sym is) (sends s n e es run proper next is))
      (λ (unsent : due s w ≡ false).
      let is : sending s e ≡ record { answer = Ok None; sender = after_unsent s w } = passed.is ∙ cases.unsent s w e.level unsent in
      subst (Answered s n e es) (sym is)
      (λ ahead. run (after_unsent s w) n (subst (λ (t : Taken). Proper t.sender) is (stays-proper s e proper)) next ahead))
      (due s w)
      refl)

  run-brings : (es : List Entry) → Run es
  run-brings [] s n proper next ahead = tt
  run-brings (e ∷ es) s n proper next ahead = entry-brings s n e es (run-brings es) proper next ahead

pub all-bring : (entries : List Entry) → Each (Brings (period_of entries)) (emissions fresh_sender 0 entries)
all-bring entries = run-brings (period_of entries) entries fresh_sender 0 fresh-proper refl (λ i. ap (period_of entries) (zero-add i))

-- the numbers rise

pub all-rise : (s : Sender) (n : ℕ) (es : List Entry) → Rising n (map (λ (p : Emission). p.number) (emissions s n es))
all-rise s n [] = tt
all-rise s n (e ∷ es) = go (sending s e).answer (all-rise (sending s e).sender (number_after n (sending s e).answer) es)
  where
    go : (a : Result (std_option.Option Digits) Refusal)
        → Rising (number_after n a) (map (λ (p : Emission). p.number) (emissions (sending s e).sender (number_after n a) es))
        → Rising n (map (λ (p : Emission). p.number) (emitted n a ++ emissions (sending s e).sender (number_after n a) es))
    go (Ok (Some d)) r = (omega arith, rising-from n (suc n) (map (λ (p : Emission). p.number) (emissions (sending s e).sender (suc n) es)) (omega arith) r)
    go (Ok None) r = r
    go (Err refusal) r = r
