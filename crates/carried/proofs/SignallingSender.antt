-- Every payload that a signalling sender emits brings the number and the windows of its period; and the numbers rise.
use Prim.Native.Nat.{ℕ, suc, ◌+◌, ◌-◌, ◌%◌, ◌^◌, ◌<◌, ◌≤◌}
use mathlib.Core.Path.{◌≡◌, refl, sym, ap, subst, ◌∙◌}
use mathlib.Core.List.{List, [], ◌∷◌, ◌++◌, map, append_assoc}
use mathlib.Core.Bool.{Bool, true, false, cond}
use mathlib.Core.Option.{some}
use mathlib.Core.Logic.{⊎_elim}
use native.Mathlib.Nat.{zero-add, add-mod_right}
use native.Mathlib.Omega.{arith}
use borrow.Author.Tests.{lt-ltb, le-ltb, eq-eqb, ne_eqb}
use lib.Dec.{eqb}
use lib.ListN.{get_or, drop}
use lib.Seq.{drop_at}
use Rattle.std.specs.declared.result.Result.TheVariants.{Ok}
use Rattle.refusal.specs.declared.Refusal.TheVariants.{ValueOutOfRange}
use Rattle.octets.specs.Made.{Made, octets_of}
use Rattle.octets.proofs.Order.{lt-or-le, either}
use Rattle.counts.specs.Round.{onward}
use Rattle.counts.proofs.Laws.{laws}
use Rattle.seizing.specs.declared.Entry.{Entry}
use Rattle.seizing.specs.declared.Sender.{Sender}
use Rattle.signalling.specs.Layout.{all_allowed, signalling_read, signalling_made}
use Rattle.seizing.specs.Sender.{Sent, sender_from, started, is_quiet, windows_after, after_sent, after_unsent, payload_of, going_out, resting, refused, period, sent}
use Rattle.seizing.specs.Claims.{Proper}
use Rattle.seizing.proofs.SenderCases as cases
use Rattle.seizing.proofs.SenderBack.{sender-starts, sender-stays, payload-back}
use Rattle.replay.specs.Periods.{pay}
use Rattle.replay.proofs.Sublists.{Each, rising-from, Rising}
use Rattle.carried.specs.Emissions.{Emission}
use Rattle.carried.specs.Signalling.{tens, repeats, goes_out, octets_sent, emitted, number_after, emissions, sent_of, sent_by, start_period, period_of, TenEach}
use Rattle.carried.proofs.Tens.{Three, tens-of}
use Rattle.carried.proofs.SignallingRule.{read_payload}

-- a payload brings the windows of its period
abbrev pub Brings : (ℕ → List ℕ) → Emission → Type 0
Brings S p = read_payload (signalling_read p.octets) ≡ some (pay 7 S p.number)

-- the answers
module _ (s : Sender) (e : Entry) where
  module _ (fair : all_allowed 10 0 e.samples ≡ true) where
    pub is-loud : is_quiet s e ≡ false → sent s e ≡ going_out (after_sent s e) e.alarm
    unfolding sent period
    is-loud q = simp (fair, q)

    pub is-early : is_quiet s e ≡ true → s.quiet < 25 → sent s e ≡ going_out (after_sent s e) e.alarm
    unfolding sent period
    is-early q less = simp (fair, q, lt-ltb s.quiet 25 less)

    pub is-resting : is_quiet s e ≡ true → 25 ≤ s.quiet → s.quiet < 274 → sent s e ≡ resting (after_unsent s e)
    unfolding sent period
    is-resting q more less = simp (fair, q, le-ltb s.quiet 25 more, lt-ltb s.quiet 274 less)

    pub is-repeat : is_quiet s e ≡ true → 274 ≤ s.quiet → sent s e ≡ going_out (after_unsent s e) e.alarm
    unfolding sent period
    is-repeat q more = let early : 25 ≤ s.quiet = omega arith in simp (fair, q, le-ltb s.quiet 25 early, le-ltb s.quiet 274 more)

  -- one of the four
  split : {A : Type 0}
      → (sent s e ≡ refused s ValueOutOfRange → A)
      → (sent s e ≡ going_out (after_sent s e) e.alarm → A)
      → (0 < s.quiet → sent s e ≡ resting (after_unsent s e) → A)
      → (0 < s.quiet → sent s e ≡ going_out (after_unsent s e) e.alarm → A)
      → A
  split bad sends rests repeated =
      either
      (λ fair.
      either
      (λ q.
      ⊎_elim (λ early. sends (is-early fair q early))
      (λ late.
      ⊎_elim (λ less. rests (omega arith) (is-resting fair q late less)) (λ more. repeated (omega arith) (is-repeat fair q more))
      (lt-or-le s.quiet 274))
      (lt-or-le s.quiet 25))
      (λ q. sends (is-loud fair q))
      (is_quiet s e)
      refl)
      (λ wrong. bad (cases.wrong s e wrong))
      (all_allowed 10 0 e.samples)
      refl

-- a sent period raises the sequence, and a repeat does not
pub raised : (n : ℕ) → eqb (onward 7 n 1) n ≡ false
raised n = ne_eqb (onward 7 n 1) n (λ (e : (n + 1) % 2 ^ 7 ≡ n). omega arith)

module _ (S : ℕ → List ℕ) where
  brings-of : (s : Sender) (alarm : Bool) (m : ℕ) (a b c : List ℕ)
      → Proper s
      → Three a b c
      → s.windows ≡ a ++ (b ++ c)
      → s.last.0 ≡ m % 2 ^ 7
      → a ≡ S m
      → b ≡ S (m + 1)
      → c ≡ S (m + 2)
      → Brings S (record { number = m; octets = octets_of (signalling_made (payload_of s alarm)) })
  brings-of s alarm m a b c proper ten windows number w0 w1 w2 =
      let back = payload-back s alarm proper in
      let three : a ∷ b ∷ c ∷ [] ≡ S m ∷ S (m + 1) ∷ S (m + 2) ∷ [] = cc in
      ap (λ (x : Made). read_payload (signalling_read (octets_of x))) back.1
      ∙ ap read_payload back.2
      ∙ ap (λ (l : List ℕ). some (record { number = s.last.0; windows = tens l })) windows
      ∙ ap (λ (ws : List (List ℕ)). some (record { number = s.last.0; windows = ws })) (tens-of a b c ten ∙ three)
      ∙ ap (λ (n : ℕ). some (record { number = n; windows = S m ∷ S (m + 1) ∷ S (m + 2) ∷ [] })) number

-- P has one period of the start state more in front than S. With n periods sent, the three windows of the state are P n,
-- P (n + 1), P (n + 2), and what is still to be sent follows them.
pub record Stands (s : Sender) (n : ℕ) (z u v : List ℕ) : Type 0 where
  pub proper : Proper s
  pub ten : Three z u v
  pub windows : s.windows ≡ z ++ (u ++ v)
  pub number : s.last.0 ≡ (n + 127) % 2 ^ 7
  pub begun : 0 < s.quiet → 0 < n

module _ (P : ℕ → List ℕ) (start : List ℕ) where
  abbrev S : ℕ → List ℕ
  S j = P (suc j)

  abbrev Ahead : ℕ → List ℕ → List ℕ → List ℕ → List (List ℕ) → Type 0
  Ahead n z u v ws = (i : ℕ) → P (n + i) ≡ get_or (z ∷ u ∷ v ∷ ws) i start

  abbrev Run : List Entry → Type 0
  Run es = (s : Sender) (n : ℕ) (z u v : List ℕ) → TenEach es → Stands s n z u v → Ahead n z u v (sent_by s es) → Each (Brings S) (emissions s n es)

  -- the same, of what the sender answered to an entry
  abbrev Answered : Sender → ℕ → Entry → List Entry → List ℕ → List ℕ → List ℕ → Sent → Type 0
  Answered s n e es z u v t =
      Ahead n z u v (sent_of s t e ++ sent_by t.sender es)
      → Each (Brings S) (emitted s n t ++ emissions t.sender (number_after s n t) es)

  module _ (s : Sender) (n : ℕ) (e : Entry) (es : List Entry) (z u v : List ℕ) (run : Run es) (ten-each : TenEach (e ∷ es)) (stands : Stands s n z u v) where
    sends : Proper (after_sent s e) → Answered s n e es z u v (going_out (after_sent s e) e.alarm)
    sends proper = rw (raised s.last.0) sends-new
      where
        new : Three u v e.samples
        new = record { one = stands.ten.two; two = stands.ten.last; last = ten-each.0 }

        moved : windows_after s.windows e.samples ≡ u ++ (v ++ e.samples)
        moved =
            ap (λ (l : List ℕ). drop 10 l ++ e.samples) stands.windows
            ∙ ap (λ (l : List ℕ). l ++ e.samples) (drop_at z (u ++ v) 10 stands.ten.one)
            ∙ append_assoc u v e.samples

        next : onward 7 s.last.0 1 ≡ (suc n + 127) % 2 ^ 7
        next = ap (λ (m : ℕ). onward 7 m 1) stands.number ∙ (laws 7).goes_on (n + 127) 1 ∙ ap (λ (m : ℕ). m % 2 ^ 7) (omega arith)

        number : onward 7 s.last.0 1 ≡ n % 2 ^ 7
        number = let whole : suc n + 127 ≡ n + 2 ^ 7 = omega arith in next ∙ ap (λ (m : ℕ). m % 2 ^ 7) whole ∙ add-mod_right n (2 ^ 7)

        sends-new : Ahead n z u v (e.samples ∷ sent_by (after_sent s e) es)
            → Brings S (record { number = n; octets = octets_of (signalling_made (payload_of (after_sent s e) e.alarm)) }) × Each (Brings S) (emissions (after_sent s e) (suc n) es)
        sends-new ahead = (
          brings-of S (after_sent s e) e.alarm n u v e.samples proper new moved number
              (sym (ahead 1) ∙ ap P (omega arith))
              (sym (ahead 2) ∙ ap P (omega arith))
              (sym (ahead 3) ∙ ap P (omega arith)),
          run (after_sent s e) (suc n) u v e.samples ten-each.1
              (record { proper = proper; ten = new; windows = moved; number = next; begun = λ _. omega arith })
              (λ i. ap P (omega arith) ∙ ahead (suc i)),
        )

    -- after a period that is not sent
    other : Proper (after_unsent s e) → 0 < n → Stands (after_unsent s e) n z u v
    other proper begun = record { proper = proper; ten = stands.ten; windows = stands.windows; number = stands.number; begun = λ _. begun }

    repeated : Proper (after_unsent s e) → 0 < n → Answered s n e es z u v (going_out (after_unsent s e) e.alarm)
    repeated proper begun = rw (eq-eqb s.last.0 s.last.0 refl) again
      where
        number : s.last.0 ≡ (n - 1) % 2 ^ 7
        number =
            let whole : n + 127 ≡ n - 1 + 2 ^ 7 = omega arith in
            stands.number ∙ ap (λ (m : ℕ). m % 2 ^ 7) whole ∙ add-mod_right (n - 1) (2 ^ 7)

        again : Ahead n z u v (sent_by (after_unsent s e) es)
            → Brings S (record { number = n - 1; octets = octets_of (signalling_made (payload_of (after_unsent s e) e.alarm)) }) × Each (Brings S) (emissions (after_unsent s e) n es)
        again ahead = (
          brings-of S (after_unsent s e) e.alarm (n - 1) z u v proper stands.ten stands.windows number
              (sym (ahead 0) ∙ ap P (omega arith))
              (sym (ahead 1) ∙ ap P (omega arith))
              (sym (ahead 2) ∙ ap P (omega arith)),
          run (after_unsent s e) n z u v ten-each.1 (other proper begun) ahead,
        )

    entry-brings : Answered s n e es z u v (sent s e)
    entry-brings =
        let stays = sender-stays s e stands.proper ten-each.0 in
        split s e (λ is. subst (Answered s n e es z u v) (sym is) (λ ahead. run s n z u v ten-each.1 stands ahead))
        (λ is. subst (Answered s n e es z u v) (sym is) (sends (subst (λ (t : Sent). Proper t.sender) is stays)))
        (λ quiet is.
        subst (Answered s n e es z u v) (sym is)
        (λ ahead.
        run (after_unsent s e) n z u v ten-each.1
        (other (subst (λ (t : Sent). Proper t.sender) is stays) (stands.begun quiet))
        ahead))
        (λ quiet is.
        subst (Answered s n e es z u v) (sym is) (repeated (subst (λ (t : Sent). Proper t.sender) is stays) (stands.begun quiet)))

  run-brings : (es : List Entry) → Run es
  run-brings [] s n z u v ten-each stands ahead = tt
  run-brings (e ∷ es) s n z u v ten-each stands ahead = entry-brings s n e es z u v (run-brings es) ten-each stands ahead

-- the start: an allowed value
stands_at : (start : ℕ) → started start ≡ Ok (sender_from start) → Stands (sender_from start) 0 (start_period start) (start_period start) (start_period start)
stands_at start begins =
    record {
      proper = sender-starts start (sender_from start) begins;
      ten = record { one = refl; two = refl; last = refl };
      windows = refl;
      number = refl;
      begun = λ (quiet : 0 < 0). quiet;
    }

pub all-bring : (start : ℕ) (entries : List Entry) → started start ≡ Ok (sender_from start) → TenEach entries
    → Each (Brings (period_of start entries)) (emissions (sender_from start) 0 entries)
all-bring start entries begins ten-each =
    let ahead : List (List ℕ) = start_period start ∷ start_period start ∷ start_period start ∷ sent_by (sender_from start) entries in
    run-brings (λ (j : ℕ). get_or ahead j (start_period start)) (start_period start) entries (sender_from start) 0 (start_period start)
    (start_period start)
    (start_period start)
    ten-each
    (stands_at start begins)
    (λ i. ap (λ (j : ℕ). get_or ahead j (start_period start)) (zero-add i))

-- The numbers rise: a repeat has that of the last period sent.
abbrev numbers : List Emission → List ℕ
numbers ps = map (λ (p : Emission). p.number) ps

rise-on : (due repeated : Bool) (s : Sender) (n : ℕ) (octets : List ℕ) (es : List Entry)
    → Rising (cond due (cond repeated n (suc n)) n - 1) (numbers (emissions s (cond due (cond repeated n (suc n)) n) es))
    → Rising (n - 1) (numbers (cond due (record { number = cond repeated (n - 1) n; octets = octets } ∷ []) [] ++ emissions s (cond due (cond repeated n (suc n)) n) es))
rise-on true true s n octets es r = (omega arith, r)
rise-on true false s n octets es r = (omega arith, rising-from n (suc n - 1) (numbers (emissions s (suc n) es)) (omega arith) r)
rise-on false repeated s n octets es r = r

rise : (s : Sender) (n : ℕ) (es : List Entry) → Rising (n - 1) (numbers (emissions s n es))
rise s n [] = tt
rise s n (e ∷ es) =
    rise-on (goes_out (sent s e).answer) (repeats s (sent s e)) (sent s e).sender n (octets_sent (sent s e).answer) es
    (rise (sent s e).sender (number_after s n (sent s e)) es)

pub all-rise : (start : ℕ) (entries : List Entry) → Rising 0 (map (λ (p : Emission). p.number) (emissions (sender_from start) 0 entries))
all-rise start entries = rise (sender_from start) 0 entries
