-- The starred bench examples 1 to 12 (document 01, "Bench examples"): what the definitions give, and what is due. Proved in
-- proofs/Hold.antt.
use Rattle.std.specs.Prelude.{ℕ, ◌≡◌, List, [], ◌∷◌, ◌++◌, map, true, false, replicate, ℤ, pos, negsuc, Some}
use Rattle.refusal.specs.Numbers.{number}
use Rattle.octets.specs.Made.{Made, made, unmade}
use Rattle.frame.specs.Opening.{opening, number_in}
use Rattle.joining.specs.Joining.{Member, shortest_header, joined}
use Rattle.framing.specs.Claims.{list}
use Rattle.digits.specs.declared.layout.Digits.{Digits}
use Rattle.digits.specs.Layout.{digits_made}
use Rattle.seized.specs.Receiver.{Received, appended_in, fresh_receiver, received}
use Rattle.data.specs.Data.{data_made}
use Rattle.fax.specs.declared.Command.TheVariants.{On}
use Rattle.fax.specs.Fax.{fax_made}

pub record Example : Type 0 where
  pub bench : ℕ
  pub given : List ℕ
  pub due : List ℕ

-- the refusal number of a frame
abbrev pub checked : List ℕ → List ℕ
checked frame = number_in (opening frame) ∷ []

-- what a frame reads as: each sub-frame's CID, type and payload
abbrev pub flat : List Member → List ℕ
flat [] = []
flat (c ∷ cs) = c.cid ∷ c.ptype ∷ c.payload ++ flat cs

-- what writing gives: the refusal number, 0 for none, and the octets
abbrev pub written : Made → List ℕ
written (made octets) = 0 ∷ octets
written (unmade refusal) = number refusal ∷ []

-- three off windows at a level
abbrev pub quiet : ℤ → Digits
quiet level =
    record {
      sequence = record { 0 = 0 };
      level = level;
      current = record { on = false; edge = 0; code = 0 };
      recent = record { on = false; edge = 0; code = 0 };
      previous = record { on = false; edge = 0; code = 0 };
    }

-- what a fresh signalling receiver answers to a second payload, by the two numbers: how many periods are filled and carried
abbrev pub numbered : ℕ → List ℕ
numbered sequence = sequence ∷ replicate 15 0

abbrev pub second : ℕ → ℕ → Received
second one two = received (received fresh_receiver (numbered one)).receiver (numbered two)

abbrev pub replayed : ℕ → ℕ → List ℕ
replayed one two = (appended_in (second one two)).fills ∷ (appended_in (second one two)).carried ∷ []

unfoldable pub examples : List Example
examples =
    record { bench = 1; given = checked []; due = 1 ∷ [] }
    ∷ record { bench = 2; given = checked (0x85 ∷ []); due = 3 ∷ [] }
    ∷ record { bench = 3; given = checked (0x41 ∷ 0x00 ∷ []); due = 4 ∷ [] }
    ∷ record { bench = 4; given = checked (0x85 ∷ 0x10 ∷ []); due = 5 ∷ [] }
    ∷ record { bench = 5; given = checked (0x45 ∷ 0x03 ∷ 0xaa ∷ 0xbb ∷ []); due = 6 ∷ [] }
    ∷ record { bench = 6; given = checked (0x45 ∷ 0x02 ∷ 0xaa ∷ 0xbb ∷ []); due = 7 ∷ [] }
    ∷ record { bench = 7; given = checked (0x85 ∷ 0x00 ∷ 0xaa ∷ []) ++ checked (0x05 ∷ 0xaa ∷ []); due = 0 ∷ 0 ∷ [] }
    ∷ record { bench = 7; given = flat (list (0x85 ∷ 0x00 ∷ 0xaa ∷ [])); due = flat (list (0x05 ∷ 0xaa ∷ [])) }
    ∷ record { bench = 7; given = flat (list (0x85 ∷ 0x00 ∷ 0xaa ∷ [])); due = 5 ∷ 0 ∷ 0xaa ∷ [] }
    ∷ record { bench = 7; given = joined (list (0x85 ∷ 0x00 ∷ 0xaa ∷ [])); due = 0x05 ∷ 0xaa ∷ [] }
    ∷ record { bench = 8; given = shortest_header 200 0 true 0; due = 0x88 ∷ 0xc0 ∷ [] }
    ∷ record { bench = 9; given = written (digits_made (quiet (pos 3))); due = 0 ∷ 0 ∷ 0 ∷ 0 ∷ 0 ∷ 0 ∷ 0 ∷ 0 ∷ 0 ∷ [] }
    ∷ record { bench = 9; given = written (digits_made (quiet (negsuc 30))); due = 0 ∷ 0 ∷ 31 ∷ 0 ∷ 0 ∷ 0 ∷ 0 ∷ 0 ∷ 0 ∷ [] }
    ∷ record { bench = 9; given = written (digits_made (quiet (negsuc 31))); due = 15 ∷ [] }
    ∷ record { bench = 10; given = replayed 126 1; due = 0 ∷ 3 ∷ [] }
    ∷ record { bench = 10; given = replayed 126 2; due = 1 ∷ 3 ∷ [] }
    ∷ record { bench = 11; given = written (data_made true true 300 (0xaa ∷ [])); due = 0 ∷ 0xc1 ∷ 0x2c ∷ 0xaa ∷ [] }
    ∷ record {
      bench = 12;
      given = written (fax_made 0 (Some 1000) (On true 1 0) []);
      due = 0 ∷ 0x81 ∷ 0xe8 ∷ 0x03 ∷ 0x81 ∷ 0x00 ∷ 0x00 ∷ [];
    }
    ∷ []

-- Each gives what is due.
abbrev pub Hold : Type 0
Hold = map (λ (e : Example). e.given) examples ≡ map (λ (e : Example). e.due) examples
