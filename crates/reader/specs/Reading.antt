-- The frame reader (document 01: "Opening a frame checks all its headers. A frame reader then holds the lent frame and its
-- place in it, and yields sub-frames in order, payloads as parts of the frame").
use Rattle.std.specs.Prelude.{ℕ, zero, suc, ◌+◌, List, [], ◌∷◌, cond, ltb, length, take, drop, Option, Some, None, Ok, Err}
use Rattle.std.specs.Borrow.{Bor}
use Rattle.std.specs.Option.{option_map_or}
use Rattle.header.specs.declared.SubFrame.{SubFrame}
use Rattle.header.specs.Header.{header_at, end_of}
use Rattle.frame.specs.Opening.{opening}
use Rattle.reader.specs.declared.Place.{Place}
use Rattle.reader.specs.declared.Reader.{Reader}
use Rattle.std.specs.declared.result.Result.{Result}
use Rattle.refusal.specs.declared.Refusal.{Refusal}

-- Before the first sub-frame of a sound frame; at the end of a refused one.
unfoldable pub start_of : List ℕ → ℕ
start_of s = option_map_or (λ refusal. length s) (opening s).refused 0

-- What a header at a place tells a reader: its sub-frame, and the place after it. A header that is refused ends the reading.
abbrev pub met : Result (Option SubFrame) Refusal → ℕ → ℕ → Place
met (Ok (Some sub)) at end = record { at = end_of sub; found = Some sub }
met (Ok None) at end = record { at = at; found = None }
met (Err refusal) at end = record { at = end; found = None }

unfoldable pub next_of : List ℕ → ℕ → Place
next_of s at = met (header_at s at) at (length s)

-- The reader that opening a lent frame gives.
abbrev pub opened : Bor (List ℕ) → Reader
opened frame = record { frame = frame; at = start_of frame.now }

-- A step: what it yields, and the reader after it, which holds the same frame and stands at the next place.
abbrev pub found : Reader → Option SubFrame
found r = (next_of r.frame.now r.at).found

abbrev pub stepped : Reader → Reader
stepped r = record { frame = r.frame; at = (next_of r.frame.now r.at).at }

-- "payloads as parts of the frame": the payload of a sub-frame is the `len` octets of the frame s from `start` on. They lie in a
-- block of memory, at a place in it. Where s has fewer it is nothing, at the frame's first octet.
unfoldable pub payload_of : List ℕ → SubFrame → List ℕ
payload_of s sub = cond (ltb (length s) (end_of sub)) [] (take sub.len (drop sub.start s))

unfoldable pub payload_at : List ℕ → ℕ × ℕ → SubFrame → ℕ × ℕ
payload_at s place sub = cond (ltb (length s) (end_of sub)) place (place.0, place.1 + sub.start)

-- The sub-frame that stands in a list after n others.
abbrev pub after : ℕ → List SubFrame → Option SubFrame
after n [] = None
after zero (sub ∷ subs) = Some sub
after (suc n) (sub ∷ subs) = after n subs

unfoldable pub nth_of : List ℕ → ℕ → Option SubFrame
nth_of s n = after n (opening s).subs
