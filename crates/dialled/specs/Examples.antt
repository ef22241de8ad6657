-- Worked runs of a digit receiver (document 01, "Receivers"; document 02, wish 3), on the definitions. Proved in
-- proofs/Examples.antt.
use Rattle.std.specs.Prelude.{ℕ, ◌≡◌, List, [], ◌∷◌, true, false, Ok, Err}
use Rattle.refusal.specs.declared.Refusal.{Refusal}
use Rattle.refusal.specs.declared.Refusal.TheVariants.{LengthWrong, ReservedCode, ValueOutOfRange, OlderPayload}
use Rattle.digits.specs.declared.layout.Window.{Window}
use Rattle.dialled.specs.declared.Receiver.{Receiver}
use Rattle.dialled.specs.Receiver.{Received, fresh_receiver, received, voice_heard}

abbrev on : ℕ → ℕ → Window
on code edge = record { on = true; edge = edge; code = code }

abbrev off : ℕ → Window
off edge = record { on = false; edge = edge; code = 0 }

-- A payload of three on periods, codes 1, 2, 3 from the oldest, edges 0.
abbrev payload : ℕ → List ℕ
payload sequence = sequence ∷ 0 ∷ 32 ∷ 3 ∷ 32 ∷ 2 ∷ 32 ∷ 1 ∷ []

-- the receiver that last took that payload
abbrev heard_at : ℕ → Receiver
heard_at sequence = record { heard = true; last = record { 0 = sequence }; on = true; code = 3 }

abbrev appends : ℕ → Window → ℕ → List Window → Receiver → Received
appends fills fill carried periods receiver =
    record {
      answer = Ok (record { fills = fills; fill = fill; carried = carried; periods = periods });
      receiver = receiver;
    }

-- The first payload, then the same again, then steps 1, 2, 3, 4 and 127, round 256.
abbrev pub Steps : Type 0
Steps =
    received fresh_receiver (payload 254)
    ∷ received (heard_at 254) (payload 254)
    ∷ received (heard_at 254) (payload 255)
    ∷ received (heard_at 254) (payload 0)
    ∷ received (heard_at 254) (payload 1)
    ∷ received (heard_at 254) (payload 2)
    ∷ received (heard_at 254) (payload 125)
    ∷ []
    ≡ appends 0 (off 0) 3 (on 1 0 ∷ on 2 0 ∷ on 3 0 ∷ []) (heard_at 254)
    ∷ appends 0 (off 0) 0 (off 0 ∷ off 0 ∷ off 0 ∷ []) (heard_at 254)
    ∷ appends 0 (off 0) 1 (on 3 0 ∷ off 0 ∷ off 0 ∷ []) (heard_at 255)
    ∷ appends 0 (off 0) 2 (on 2 0 ∷ on 3 0 ∷ off 0 ∷ []) (heard_at 0)
    ∷ appends 0 (off 0) 3 (on 1 0 ∷ on 2 0 ∷ on 3 0 ∷ []) (heard_at 1)
    ∷ appends 1 (on 3 0) 3 (on 1 0 ∷ on 2 0 ∷ on 3 0 ∷ []) (heard_at 2)
    ∷ appends 124 (on 3 0) 3 (on 1 0 ∷ on 2 0 ∷ on 3 0 ∷ []) (heard_at 125)
    ∷ []

-- After voice a gap is filled with off, until a period is carried; a payload of the same sequence carries none.
abbrev pub AfterVoice : Type 0
AfterVoice =
    received (voice_heard (heard_at 254)) (payload 2)
    ∷ received (received (voice_heard (heard_at 254)) (payload 254)).receiver (payload 2)
    ∷ received (received (voice_heard (heard_at 254)) (payload 255)).receiver (payload 4)
    ∷ []
    ≡ appends 1 (off 0) 3 (on 1 0 ∷ on 2 0 ∷ on 3 0 ∷ []) (heard_at 2)
    ∷ appends 1 (off 0) 3 (on 1 0 ∷ on 2 0 ∷ on 3 0 ∷ []) (heard_at 2)
    ∷ appends 2 (on 3 0) 3 (on 1 0 ∷ on 2 0 ∷ on 3 0 ∷ []) (heard_at 4)
    ∷ []

-- A refused payload appends nothing, and the receiver stands.
abbrev refuses : Refusal → Receiver → Received
refuses refusal receiver = record { answer = Err refusal; receiver = receiver }

-- a reserved bit; and, before 19, an older payload an octet short, with a reserved bit, with an edge of 20
abbrev pub NotTaken : Type 0
NotTaken =
    received (heard_at 254) (2 ∷ 64 ∷ 32 ∷ 3 ∷ 32 ∷ 2 ∷ 32 ∷ 1 ∷ [])
    ∷ received (heard_at 254) (253 ∷ 0 ∷ 32 ∷ 3 ∷ 32 ∷ 2 ∷ 32 ∷ [])
    ∷ received (heard_at 254) (253 ∷ 64 ∷ 32 ∷ 3 ∷ 32 ∷ 2 ∷ 32 ∷ 1 ∷ [])
    ∷ received (heard_at 254) (253 ∷ 0 ∷ 52 ∷ 3 ∷ 32 ∷ 2 ∷ 32 ∷ 1 ∷ [])
    ∷ []
    ≡ refuses ReservedCode (heard_at 254)
    ∷ refuses LengthWrong (heard_at 254)
    ∷ refuses ReservedCode (heard_at 254)
    ∷ refuses ValueOutOfRange (heard_at 254)
    ∷ []

-- Steps 128 and 255 are older, also after voice; a first payload is never older, whatever its number.
abbrev pub OlderOnes : Type 0
OlderOnes =
    received (heard_at 254) (payload 126)
    ∷ received (heard_at 254) (payload 253)
    ∷ received (voice_heard (heard_at 254)) (payload 253)
    ∷ received fresh_receiver (payload 128)
    ∷ received fresh_receiver (payload 255)
    ∷ []
    ≡ refuses OlderPayload (heard_at 254)
    ∷ refuses OlderPayload (heard_at 254)
    ∷ refuses OlderPayload (voice_heard (heard_at 254))
    ∷ appends 0 (off 0) 3 (on 1 0 ∷ on 2 0 ∷ on 3 0 ∷ []) (heard_at 128)
    ∷ appends 0 (off 0) 3 (on 1 0 ∷ on 2 0 ∷ on 3 0 ∷ []) (heard_at 255)
    ∷ []
