-- What is claimed of the signalling sender.
use Rattle.std.specs.Prelude.{ℕ, zero, suc, ◌+◌, ◌-◌, ◌%◌, ◌≤◌, ◌≡◌, List, true, cond, leb, eqb, length, Some, Ok}
use Rattle.octets.specs.Made.{made}
use Rattle.signalling.specs.Layout.{allowed, all_allowed, signalling_read, signalling_made}
use Rattle.signalling.specs.declared.layout.Signalling.{Signalling}
use Rattle.seizing.specs.declared.Entry.{Entry}
use Rattle.seizing.specs.declared.Sender.{Sender}
use Rattle.seizing.specs.declared.Decision.{Decision}
use Rattle.seizing.specs.declared.Decision.TheVariants.{Sends, Repeats, Rests}
use Rattle.seizing.specs.Sender.{started, is_quiet, decision_of, sent}

-- the state before the n-th entry, from 0, of a run of entries
unfoldable pub before : ℕ → Sender → (ℕ → Entry) → Sender
before zero s entries = s
before (suc n) s entries = (sent (before n s entries) (entries n)).sender

-- Of a run of quiet periods that just begins, the i-th (from 1) is sent exactly when i is at most 25; the last payload is
-- repeated exactly when i - 25 is a multiple of 250 above 0. Proved in proofs/QuietRun.antt.
abbrev pub in_quiet_run : ℕ → Decision
in_quiet_run i = cond (leb i 25) Sends (cond (eqb ((i - 25) % 250) 0) Repeats Rests)

abbrev pub QuietRun : Type 0
QuietRun =
    (s : Sender) (entries : ℕ → Entry) (n : ℕ)
    → s.quiet ≡ 0
    → ((i : ℕ) → i ≤ n → all_allowed 10 0 (entries i).samples ≡ true)
    → ((i : ℕ) → i ≤ n → is_quiet (before i s entries) (entries i) ≡ true)
    → decision_of (before n s entries) (entries n) ≡ in_quiet_run (n + 1)

-- A state that a sender comes to: thirty allowed samples, a number below 128, and an allowed sample before the next period.
pub record Proper (s : Sender) : Type 0 where
  pub thirty : length s.windows ≡ 30
  pub fair : all_allowed 30 0 s.windows ≡ true
  pub within : s.last.0 ≤ 127
  pub level : allowed s.before ≡ true

-- A sender starts in a proper state and stays in one. Proved in proofs/SenderBack.antt.
abbrev pub SenderStarts : Type 0
SenderStarts = (value : ℕ) (s : Sender) → started value ≡ Ok s → Proper s

abbrev pub SenderStays : Type 0
SenderStays = (s : Sender) (e : Entry) → Proper s → length e.samples ≡ 10 → Proper (sent s e).sender

-- What it sends or repeats from there is made and reads back.
abbrev pub SentReadsBack : Type 0
SentReadsBack =
    (s : Sender) (e : Entry) (d : Signalling)
    → Proper s
    → length e.samples ≡ 10
    → (sent s e).answer ≡ Ok (Some d)
    → (octets : List ℕ)
    × (signalling_made d ≡ made octets)
    × (signalling_read octets ≡ Ok d)
