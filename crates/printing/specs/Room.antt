-- A text in lent room.
use Rattle.std.specs.Prelude.{ℕ, ◌+◌, ◌≤◌, ◌≡◌, List, [], cond, ltb, length}
use Rattle.octets.specs.Room.{written}

-- What is put of a text for which room for `most` octets is asked, from a place on: nothing where that is not there.
unfoldable pub fitting : ℕ → List ℕ → ℕ → List ℕ → List ℕ
fitting most room at text = cond (ltb (length room) (at + most)) [] text

-- What private functions promise to one another: a text of at most `most` octets stands in room from a place on, and ends before
-- `next`.
pub record Appended (before : List ℕ) (at : ℕ) (text : List ℕ) (most : ℕ) (after : List ℕ) (next : ℕ) : Type 0 where
  pub ends : next ≡ at + length text
  pub holds : after ≡ written before at text
  pub size : length text ≤ most
