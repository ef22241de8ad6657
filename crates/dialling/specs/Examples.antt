-- Worked runs of a digit sender (document 01, "Senders, per 20 ms"), on the definitions. Proved in proofs/Examples.antt.
use Rattle.std.specs.Prelude.{ℕ, ◌≡◌, [], ◌∷◌, map, true, false, ℤ, pos, negsuc, Option, Some, None, Result, Ok, Err}
use Rattle.refusal.specs.declared.Refusal.{Refusal}
use Rattle.refusal.specs.declared.Refusal.TheVariants.{ValueOutOfRange, EdgeWithoutChange}
use Rattle.digits.specs.declared.layout.Digits.{Digits}
use Rattle.digits.specs.declared.layout.Window.{Window}
use Rattle.dialling.specs.declared.Entry.{Entry}
use Rattle.dialling.specs.Sender.{fresh_sender}
use Rattle.dialling.specs.SenderClaims.{answers}

abbrev on : ℕ → ℕ → Window
on code edge = record { on = true; edge = edge; code = code }

abbrev off : ℕ → Window
off edge = record { on = false; edge = edge; code = 0 }

-- the entry of a period at a level
abbrev entry : Window → ℤ → Entry
entry w level = record { on = w.on; code = w.code; edge = w.edge; level = level }

abbrev sends : ℕ → ℤ → Window → Window → Window → Result (Option Digits) Refusal
sends sequence level current recent previous =
    Ok
    (Some
    (record {
      sequence = record { 0 = sequence };
      level = level;
      current = current;
      recent = recent;
      previous = previous;
    }))

-- A tone of two periods, its end, three periods after it, and a tone again: with edge 0 it is a change too. Unsent periods are
-- no windows, and have no number.
abbrev pub ATone : Type 0
ATone =
    answers fresh_sender
    (map (λ (w : Window). entry w (negsuc 6))
    (off 0 ∷ on 5 3 ∷ on 5 0 ∷ off 7 ∷ off 0 ∷ off 0 ∷ off 0 ∷ off 0 ∷ off 0 ∷ on 6 0 ∷ []))
    ≡ Ok None
    ∷ sends 0 (negsuc 6) (on 5 3) (off 0) (off 0)
    ∷ sends 1 (negsuc 6) (on 5 0) (on 5 3) (off 0)
    ∷ sends 2 (negsuc 6) (off 7) (on 5 0) (on 5 3)
    ∷ sends 3 (negsuc 6) (off 0) (off 7) (on 5 0)
    ∷ sends 4 (negsuc 6) (off 0) (off 0) (off 7)
    ∷ sends 5 (negsuc 6) (off 0) (off 0) (off 0)
    ∷ Ok None
    ∷ Ok None
    ∷ sends 6 (negsuc 6) (on 6 0) (off 0) (off 0)
    ∷ []

-- A change of code is a change. The level goes into its own payload alone.
abbrev pub ACode : Type 0
ACode =
    answers fresh_sender (entry (on 5 1) (negsuc 9) ∷ entry (on 6 2) (pos 3) ∷ [])
    ≡ sends 0 (negsuc 9) (on 5 1) (off 0) (off 0) ∷ sends 1 (pos 3) (on 6 2) (on 5 1) (off 0) ∷ []

-- Edge 20, a level of -32 and code 16 are 15, also where an edge stands without a change, which alone is 17. Off with another
-- code is no change. A refused entry is no period.
abbrev pub Refusals : Type 0
Refusals =
    answers fresh_sender
    (entry (off 20) (pos 0)
    ∷ entry (off 5) (negsuc 31)
    ∷ entry (on 16 0) (pos 0)
    ∷ entry (off 5) (pos 0)
    ∷ record { on = false; code = 9; edge = 0; level = pos 0 }
    ∷ entry (on 5 19) (negsuc 30)
    ∷ entry (on 5 1) (pos 0)
    ∷ [])
    ≡ Err ValueOutOfRange
    ∷ Err ValueOutOfRange
    ∷ Err ValueOutOfRange
    ∷ Err EdgeWithoutChange
    ∷ Ok None
    ∷ sends 0 (negsuc 30) (on 5 19) (off 0) (off 0)
    ∷ Err EdgeWithoutChange
    ∷ []
