-- What a layout makes of a content, for writing: its octets, or a refusal (document 01, "Refusal numbers").
use Rattle.std.specs.Prelude.{ℕ, List, [], length, Result, Err, Ok}
use Rattle.octets.specs.Room.{put, left_by}
use Rattle.refusal.specs.declared.Refusal.{Refusal}

pub data Made : Type 0 where
  made : List ℕ → Made
  unmade : Refusal → Made

-- the octets; none of what cannot be made
abbrev pub octets_of : Made → List ℕ
octets_of (made octets) = octets
octets_of (unmade refusal) = []

-- how many octets
abbrev pub fit_of : Made → Result ℕ Refusal
fit_of (made octets) = Ok (length octets)
fit_of (unmade refusal) = Err refusal

-- written at a place of lent room
abbrev pub put_made : List ℕ → ℕ → Made → Result ℕ Refusal
put_made room at (made octets) = put room at octets
put_made room at (unmade refusal) = Err refusal

-- what the room holds then
abbrev pub left_made : List ℕ → ℕ → Made → List ℕ
left_made room at (made octets) = left_by (put room at octets) room at octets
left_made room at (unmade refusal) = room
