-- Lent room, and what stands in it after a write (document 01, "Refusal numbers": 21, and "all lent memory .. as at entry").
use Rattle.std.specs.Prelude.{ℕ, ◌+◌, List, ◌++◌, cond, ltb, length, take, drop, Result, Ok, Err}
use Rattle.refusal.specs.declared.Refusal.{Refusal}
use Rattle.refusal.specs.declared.Refusal.TheVariants.{RoomTooSmall}

-- the room with octets written from a place on
abbrev pub written : List ℕ → ℕ → List ℕ → List ℕ
written room at octets = take at room ++ octets ++ drop (at + length octets) room

-- 21 exactly when the octets, from that place on, exceed the room
unfoldable pub put : List ℕ → ℕ → List ℕ → Result ℕ Refusal
put room at octets = cond (ltb (length room) (at + length octets)) (Err RoomTooSmall) (Ok (at + length octets))

-- what the room holds then: "all lent memory and state stand as at entry"
abbrev pub left_by : Result ℕ Refusal → List ℕ → ℕ → List ℕ → List ℕ
left_by (Ok next) room at octets = written room at octets
left_by (Err refusal) room at octets = room
