-- A recording listed piece by piece: each line of a piece that is whole is listed under its number (document 01, "Listing
-- program").
use Rattle.std.specs.Prelude.{ℕ, List}
use Rattle.recording.specs.declared.stream.Begun.{Begun}
use Rattle.recording.specs.Walk.{Walk, piece_told, last_told}
use Rattle.listing.specs.Listing.{lister}

abbrev pub piece_listed : ℕ → List ℕ → Begun → List ℕ → List ℕ → Walk (Unit {0})
piece_listed room table begun kept piece = piece_told (lister.tell table) lister.most room begun kept tt piece

-- what is listed at the end of the input
abbrev pub last_listed : ℕ → List ℕ → Begun → List ℕ → List ℕ
last_listed room table begun kept = (last_told (lister.tell table) lister.most room begun kept tt).text
