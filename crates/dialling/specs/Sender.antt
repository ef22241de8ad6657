-- The digit sender, one entry per 20 ms (document 01, "Senders, per 20 ms").
use Rattle.std.specs.Prelude.{ℕ, ◌-◌, [], ◌∷◌, Bool, true, false, not, cond, ltb, eqb, ℤ, Option, Some, None, Result, Ok, Err}
use Rattle.refusal.specs.declared.Refusal.{Refusal}
use Rattle.refusal.specs.declared.Refusal.TheVariants.{ValueOutOfRange, EdgeWithoutChange}
use Rattle.refusal.specs.Order.{◌gives◌, in_order}
use Rattle.counts.specs.Round.{onward}
use Rattle.levels.specs.Level.{code_of}
use Rattle.digits.specs.declared.layout.Window.{Window}
use Rattle.digits.specs.declared.layout.Digits.{Digits}
use Rattle.dialling.specs.declared.Entry.{Entry}
use Rattle.dialling.specs.declared.Sender.{Sender}
use Rattle.digits.specs.Layout.{off_window, window_wrong, level_low}

-- "Start state: off." The sequence goes "from 0", "the start state standing before the first".
abbrev pub fresh_sender : Sender
fresh_sender =
    record {
      next = record { 0 = 0 };
      on = false;
      code = 0;
      tail = 0;
      recent = off_window;
      previous = off_window;
    }

-- The entry's period: "off or on with code, the edge in ms". The level "is no part of the record".
abbrev pub window_in : Entry → Window
window_in e = record { on = e.on; edge = e.edge; code = cond e.on e.code 0 }

-- "a change of off, on or code from the entry before"
abbrev pub changes : Sender → Window → Bool
changes s w = cond s.on (cond w.on (not (eqb s.code w.code)) true) w.on

-- "Without a change .. the edge must be 0"
abbrev pub stray_edge : Sender → Window → Bool
stray_edge s w = cond (eqb w.edge 0) false (not (changes s w))

-- "it is on or changes"
abbrev pub loud : Sender → Window → Bool
loud s w = cond w.on true (changes s w)

-- "or is one of the three periods after such a one"
abbrev pub due : Sender → Window → Bool
due s w = cond (loud s w) true (ltb 0 s.tail)

-- how many of the three are still to come
abbrev pub tail_after : Sender → Window → ℕ
tail_after s w = cond (loud s w) 3 (s.tail - 1)

-- "Its windows are the last three sent periods", and the level that of this entry.
abbrev pub payload_of : Sender → Window → ℤ → Digits
payload_of s w level =
    record {
      sequence = s.next;
      level = level;
      current = w;
      recent = s.recent;
      previous = s.previous;
    }

-- "Each sent period raises the sequence by one"
abbrev pub after_sent : Sender → Window → Sender
after_sent s w =
    record {
      next = record { 0 = onward 8 s.next.0 1 };
      on = w.on;
      code = w.code;
      tail = tail_after s w;
      recent = w;
      previous = s.recent;
    }

-- "Unsent periods have no number."
abbrev pub after_unsent : Sender → Window → Sender
after_unsent s w =
    record {
      next = s.next;
      on = w.on;
      code = w.code;
      tail = tail_after s w;
      recent = s.recent;
      previous = s.previous;
    }

-- What becomes of an entry, refused, unsent or sent as a payload; and the sender after it.
pub record Taken : Type 0 where
  pub answer : Result (Option Digits) Refusal
  pub sender : Sender

abbrev pub period : Sender → Window → ℤ → Taken
period s w level =
    cond (due s w) (record { answer = Ok (Some (payload_of s w level)); sender = after_sent s w })
    (record { answer = Ok None; sender = after_unsent s w })

-- A refused entry is no period: the sender stands.
abbrev pub refused : Sender → Refusal → Taken
refused s refusal = record { answer = Err refusal; sender = s }

-- "(17; 15 comes first)"
unfoldable pub sending : Sender → Entry → Taken
sending s e =
    in_order
    (window_wrong (window_in e) gives ValueOutOfRange
    ∷ level_low (code_of 31 e.level) gives ValueOutOfRange
    ∷ stray_edge s (window_in e) gives EdgeWithoutChange
    ∷ [])
    (refused s)
    (period s (window_in e) e.level)
