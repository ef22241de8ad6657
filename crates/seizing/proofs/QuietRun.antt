-- The claim on a run of quiet periods: what the count of the run is before each, and what is done with it.
use Prim.Native.Nat.{ℕ, zero, suc, ◌+◌, ◌-◌, ◌%◌, ◌<◌, ◌≤◌}
use mathlib.Core.Path.{◌≡◌, refl, sym, ap, subst, ◌∙◌}
use mathlib.Core.Bool.{Bool, true}
use mathlib.Core.Logic.{◌⊎◌, inl, inr, ⊎_elim}
use native.Mathlib.Omega.{arith}
use borrow.Author.Tests.{lt-ltb, le-ltb, le-leb, lt-leb, eq-eqb, ne_eqb}
use Rattle.octets.proofs.Order.{lt-or-le}
use Rattle.seizing.specs.declared.Entry.{Entry}
use Rattle.seizing.specs.declared.Sender.{Sender}
use Rattle.seizing.specs.declared.Decision.{Decision}
use Rattle.seizing.specs.declared.Decision.TheVariants.{Sends, Repeats, Rests}
use Rattle.signalling.specs.Layout.{all_allowed}
use Rattle.seizing.specs.Sender.{Sent, is_quiet, decision, run_after, decision_of, period, sent}
use Rattle.seizing.specs.Claims.{before, in_quiet_run, QuietRun}
use Rattle.seizing.proofs.SenderCases as cases

-- the count before period n of the run, from 0: n itself, and from 25 on 25 more than what goes round at 250
abbrev Counted : ℕ → ℕ → Type 0
Counted n run = ((n < 25) × (run ≡ n)) ⊎ ((25 ≤ n) × (run ≡ 25 + (n - 25) % 250))

less-next : (run : ℕ) → run < 274 → run_after true run ≡ run + 1
less-next run h = simp (lt-ltb run 274 h)

most-next : (run : ℕ) → 274 ≤ run → run_after true run ≡ 25
most-next run h = simp (le-ltb run 274 h)

counted_next : (n run : ℕ) → Counted n run → Counted (suc n) (run_after true run)
counted_next n run (inl (few, is)) =
    let next = less-next run (omega arith) in
    ⊎_elim (λ (more : suc n < 25). inl (more, omega arith)) (λ (full : 25 ≤ suc n). inr (full, omega arith)) (lt-or-le (suc n) 25)
counted_next n run (inr (many, is)) =
    ⊎_elim (λ (h : run < 274). let next = less-next run h in inr (omega arith, omega arith))
    (λ (h : 274 ≤ run). let next = most-next run h in inr (omega arith, omega arith))
    (lt-or-le run 274)

decided : (n run : ℕ) → Counted n run → decision true run ≡ in_quiet_run (n + 1)
decided n run (inl (few, is)) =
    let less : run < 25 = omega arith in
    let first : n + 1 ≤ 25 = omega arith in
    simp (lt-ltb run 25 less, le-leb (n + 1) 25 first)
decided n run (inr (many, is)) =
    let least : 25 ≤ run = omega arith in
    let later : 25 < n + 1 = omega arith in
    ⊎_elim
    (λ (h : run < 274).
    let no : (n + 1 - 25) % 250 ≡ 0 → ⊥ = λ z. omega arith in
    simp (le-ltb run 25 least, lt-ltb run 274 h, lt-leb (n + 1) 25 later, ne_eqb ((n + 1 - 25) % 250) 0 no))
    (λ (h : 274 ≤ run).
    let yes : (n + 1 - 25) % 250 ≡ 0 = omega arith in
    simp (le-ltb run 25 least, le-ltb run 274 h, lt-leb (n + 1) 25 later, eq-eqb ((n + 1 - 25) % 250) 0 yes))
    (lt-or-le run 274)

-- a period that is taken counts the run on
decided-counts : (s : Sender) (e : Entry) (d : Decision) → (period s e d).sender.quiet ≡ run_after (is_quiet s e) s.quiet
unfolding period
decided-counts s e Sends = refl
decided-counts s e Repeats = refl
decided-counts s e Rests = refl

counts-on : (s : Sender) (e : Entry) → all_allowed 10 0 e.samples ≡ true → (sent s e).sender.quiet ≡ run_after (is_quiet s e) s.quiet
counts-on s e fair = ap (λ (r : Sent). r.sender.quiet) (cases.taken s e fair) ∙ decided-counts s e (decision_of s e)

module _ (s : Sender) (entries : ℕ → Entry) (begins : s.quiet ≡ 0) where
  runs :
      (n : ℕ)
      → ((i : ℕ) → i < n → all_allowed 10 0 (entries i).samples ≡ true)
      → ((i : ℕ) → i < n → is_quiet (before i s entries) (entries i) ≡ true)
      → Counted n (before n s entries).quiet
  unfolding before
  runs zero fair quiet = inl (omega arith, begins)
  runs (suc n) fair quiet =
      let earlier : Counted n (before n s entries).quiet = runs n (λ i h. fair i (omega arith)) (λ i h. quiet i (omega arith)) in
      let this : (before (suc n) s entries).quiet ≡ run_after true (before n s entries).quiet =
      counts-on (before n s entries) (entries n) (fair n (omega arith))
      ∙ ap (λ (q : Bool). run_after q (before n s entries).quiet) (quiet n (omega arith))
      in
      subst (Counted (suc n)) (sym this) (counted_next n (before n s entries).quiet earlier)

pub quiet-run : QuietRun
quiet-run s entries n begins fair quiet =
    ap (λ (q : Bool). decision q (before n s entries).quiet) (quiet n (omega arith))
    ∙ decided n (before n s entries).quiet (runs s entries begins n (λ i h. fair i (omega arith)) (λ i h. quiet i (omega arith)))
