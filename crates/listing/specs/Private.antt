-- What the private functions of this crate promise to one another. A reader of the listing can pass this file over.
use Rattle.std.specs.Prelude.{ℕ, List, [], take, Option, Some, None, Result, Ok, Err}
use Rattle.refusal.specs.declared.Refusal.{Refusal}
use Rattle.refusal.specs.Numbers.{number}
use Rattle.printing.specs.Refused.{refused_listing}
use Rattle.listing.specs.Listing.{frame_listing}

-- what is listed of a line that has the number n, by what reading it answers and the octets that stand
abbrev pub listing_of : ℕ → List ℕ → Result ℕ Refusal → List ℕ → List ℕ
listing_of n table (Ok size) frame = frame_listing n table (take size frame)
listing_of n table (Err refusal) frame = refused_listing n (number refusal) 0

-- the same of a line that is taken; nothing where it goes on
abbrev pub taken_listing : ℕ → List ℕ → Option (Result ℕ Refusal) → List ℕ → List ℕ
taken_listing n table (Some read) frame = listing_of n table read frame
taken_listing n table None frame = []
