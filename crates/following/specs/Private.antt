-- What the private functions of this crate promise to one another. A reader of the lines can pass this file over.
use Rattle.std.specs.Prelude.{ℕ, ◌≡◌, Bool, cond, List, [], take, Option, Some, None, Result, Ok, Err}
use Rattle.refusal.specs.declared.Refusal.{Refusal}
use Rattle.octets.specs.Text.{ascii}
use Rattle.recording.specs.Walk.{Told, nothing}
use Rattle.trunk.specs.declared.Trunk.{Trunk}
use Rattle.printing.specs.Field.{hex_field}
use Rattle.printing.specs.Room.{Appended}
use Rattle.following.specs.Following.{frame_following, refusing}

-- a text of at most `most` octets stands in room from a place on up to the next, and the trunk is the one behind it
pub record Stands (before : List ℕ) (at : ℕ) (told : Told Trunk) (most : ℕ) (after : List ℕ) (next : ℕ) (t : Trunk) : Type 0 where
  pub text : Appended before at told.text most after next
  pub leaves : t ≡ told.state

-- a period's line, where it is shown
abbrev pub period_line : Bool → List ℕ → List ℕ
period_line shown period = cond shown (hex_field (ascii "period=") period) []

-- what is told of a line that has the number n, by what reading it answers and the octets that stand
abbrev pub following_of : ℕ → List ℕ → ℕ → Result ℕ Refusal → List ℕ → Trunk → Told Trunk
following_of n table cid (Ok size) frame t = frame_following n table cid (take size frame) t
following_of n table cid (Err refusal) frame t = refusing n refusal 0 t

-- the same of a line that is taken; nothing where it goes on
abbrev pub taken_following : ℕ → List ℕ → ℕ → Option (Result ℕ Refusal) → List ℕ → Trunk → Told Trunk
taken_following n table cid (Some read) frame t = following_of n table cid read frame t
taken_following n table cid None frame t = nothing t
