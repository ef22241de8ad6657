-- What holds of levels. Proved in proofs/Laws.antt.
use Rattle.std.specs.Prelude.{ℕ, ◌≤◌, ◌<◌, ◌≡◌, ℤ, pos, ◌≤ℤ◌, Ok}
use Rattle.levels.specs.Level.{level_of, code_of}

-- A level that is read is never above zero.
abbrev pub NeverAbove : Type 0
NeverAbove = (octet : ℕ) → level_of octet ≤ℤ pos 0

-- Every magnitude that the octet carries goes and comes back.
abbrev pub CodeOfLevel : Type 0
CodeOfLevel = (most magnitude : ℕ) → most < 64 → magnitude ≤ most → code_of most (level_of magnitude) ≡ Ok magnitude

-- Every level that is coded by its magnitude comes back.
abbrev pub LevelOfCode : Type 0
LevelOfCode = (most magnitude : ℕ) (level : ℤ) → most < 64 → code_of most level ≡ Ok magnitude → (level_of magnitude ≡ level) × (magnitude ≤ most)
