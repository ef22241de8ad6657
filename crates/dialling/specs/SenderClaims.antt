-- What is sent can be written and reads back (proved in proofs/SenderBack.antt), and which periods are sent.
use Rattle.std.specs.Prelude.{ℕ, ◌≡◌, List, [], ◌∷◌, ◌++◌, Bool, true, false, Option, Some, None, Result, Ok, Err}
use Rattle.refusal.specs.declared.Refusal.{Refusal}
use Rattle.refusal.specs.Order.{◌or◌}
use Rattle.octets.specs.Made.{made}
use Rattle.digits.specs.declared.layout.Window.{Window}
use Rattle.digits.specs.declared.layout.Digits.{Digits}
use Rattle.dialling.specs.declared.Entry.{Entry}
use Rattle.dialling.specs.declared.Sender.{Sender}
use Rattle.digits.specs.Layout.{window_wrong, digits_read, digits_made}
use Rattle.digits.specs.Claims.{normal_level, normal_window}
use Rattle.dialling.specs.Sender.{fresh_sender, window_in, loud, sending}

-- What a sender answers to entries, one after the other, and the sender after them.
abbrev pub answers : Sender → List Entry → List (Result (Option Digits) Refusal)
answers s [] = []
answers s (e ∷ es) = (sending s e).answer ∷ answers (sending s e).sender es

abbrev pub sender_after : Sender → List Entry → Sender
sender_after s [] = s
sender_after s (e ∷ es) = sender_after (sending s e).sender es

-- A sent period: edge and code in their ranges, and the code of an off one is 0.
pub record Plain (w : Window) : Type 0 where
  pub right : window_wrong w ≡ false
  pub normal_is : normal_window w ≡ w

-- What holds of a sender at its start and after every entry.
pub record Proper (s : Sender) : Type 0 where
  pub recent : Plain s.recent
  pub previous : Plain s.previous

-- A payload, its level above zero read back as 0.
abbrev pub levelled : Digits → Digits
levelled d =
    record {
      sequence = d.sequence;
      level = normal_level d.level;
      current = d.current;
      recent = d.recent;
      previous = d.previous;
    }

-- a payload that is written, and reads back with its sequence and its windows as they are
pub record ReadsBack (d : Digits) : Type 0 where
  pub octets : List ℕ
  pub written : digits_made d ≡ made octets
  pub read : digits_read octets ≡ Ok (levelled d)

abbrev pub FreshProper : Type 0
FreshProper = Proper fresh_sender

abbrev pub StaysProper : Type 0
StaysProper = (s : Sender) (e : Entry) → Proper s → Proper (sending s e).sender

abbrev pub SentReadsBack : Type 0
SentReadsBack = (s : Sender) (e : Entry) (d : Digits) → Proper s → (sending s e).answer ≡ Ok (Some d) → ReadsBack d

-- All that a fresh sender ever sends.
abbrev pub AllReadsBack : Type 0
AllReadsBack = (es : List Entry) (e : Entry) (d : Digits) → (sending (sender_after fresh_sender es) e).answer ≡ Ok (Some d) → ReadsBack d

-- Of the periods that a run of entries brings, in order: whether each is on or changes, and whether it is sent. A refused entry is
-- no period.
abbrev pub loud_of : Result (Option Digits) Refusal → Bool → List Bool
loud_of (Ok (Some d)) loud = loud ∷ []
loud_of (Ok None) loud = loud ∷ []
loud_of (Err refusal) loud = []

abbrev pub sent_of : Result (Option Digits) Refusal → List Bool
sent_of (Ok (Some d)) = true ∷ []
sent_of (Ok None) = false ∷ []
sent_of (Err refusal) = []

abbrev pub loud_periods : Sender → List Entry → List Bool
loud_periods s [] = []
loud_periods s (e ∷ es) = loud_of (sending s e).answer (loud s (window_in e)) ++ loud_periods (sending s e).sender es

abbrev pub sent_periods : Sender → List Entry → List Bool
sent_periods s [] = []
sent_periods s (e ∷ es) = sent_of (sending s e).answer ++ sent_periods (sending s e).sender es

-- "A period is sent when it is on or changes, or is one of the three periods after such a one": of each, whether it or one of the
-- three before it does, where those before the first are a, b and c, the latest first.
abbrev pub near_loud : Bool → Bool → Bool → List Bool → List Bool
near_loud a b c [] = []
near_loud a b c (now ∷ later) = (now or a or b or c) ∷ near_loud now a b later

-- Exactly those are sent, over any run of entries from the start. Proved in proofs/SentExactly.antt.
abbrev pub SentExactly : Type 0
SentExactly = (es : List Entry) → sent_periods fresh_sender es ≡ near_loud false false false (loud_periods fresh_sender es)
