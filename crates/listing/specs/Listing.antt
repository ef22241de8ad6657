-- The listing (document 01, "Listing program"), as octets.
use Rattle.std.specs.Prelude.{ℕ, ◌+◌, List, [], ◌∷◌, ◌++◌, cond, ltb, length, take, drop, Result, Ok, Err}
use Rattle.std.specs.Option.{option_map_or}
use Rattle.refusal.specs.declared.Refusal.{Refusal}
use Rattle.refusal.specs.declared.Refusal.TheVariants.{RoomTooSmall}
use Rattle.refusal.specs.Numbers.{number}
use Rattle.octets.specs.Text.{ascii}
use Rattle.header.specs.declared.SubFrame.{SubFrame}
use Rattle.frame.specs.Opening.{Opening, opening}
use Rattle.record.specs.Record.{found_at}
use Rattle.payload.specs.Content.{payload_read, number_of}
use Rattle.hexline.specs.Line.{Held, octets, line_read, refused as refused_line}
use Rattle.recording.specs.Walk.{Tell}
use Rattle.recording.specs.Input.{Program, input_printed}
use Rattle.printing.specs.Field.{field}
use Rattle.printing.specs.Refused.{refused_listing, text_listing}

-- "then CID, type, payload octets and refusal (0 none) of each"
unfoldable pub four_fields : ℕ → ℕ → ℕ → ℕ → List ℕ
four_fields cid ptype len answer =
    field (ascii "cid=") cid ++ field (ascii "type=") ptype ++ field (ascii "len=") len ++ field (ascii "answer=") answer

-- the refusal number of a sub-frame of the frame s
abbrev pub number_for : List ℕ → List ℕ → SubFrame → ℕ
number_for table s sub =
    number_of (payload_read (found_at table sub.cid) sub.ptype (take sub.len (drop sub.start s)))

unfoldable pub sub_listing : List ℕ → List ℕ → SubFrame → List ℕ
sub_listing table s sub = four_fields sub.cid sub.ptype sub.len (number_for table s sub)

unfoldable pub subs_listing : List ℕ → List ℕ → List SubFrame → List ℕ
subs_listing table s [] = []
subs_listing table s (sub ∷ subs) = sub_listing table s sub ++ subs_listing table s subs

unfoldable pub opened_listing : ℕ → List ℕ → List ℕ → Opening → List ℕ
opened_listing n table s o =
    option_map_or (λ refusal. refused_listing n (number refusal) o.at) o.refused
    (field (ascii "frame=") n ++ field (ascii "subs=") (length o.subs) ++ subs_listing table s o.subs)

-- the frame s, which has the number n
abbrev pub frame_listing : ℕ → List ℕ → List ℕ → List ℕ
frame_listing n table s = opened_listing n table s (opening s)

abbrev pub read_listing : ℕ → List ℕ → Held → List ℕ
read_listing n table (octets s) = frame_listing n table s
read_listing n table (refused_line refusal) = refused_listing n (number refusal) 0

-- A line that has the number n.
unfoldable pub line_listing : ℕ → List ℕ → List ℕ → List ℕ
line_listing n table line = read_listing n table (line_read line)

-- what the program tells of a line; from line to line no state goes on
abbrev pub tell_line : List ℕ → Tell (Unit {0})
tell_line table n line state = record { text = line_listing n table line; state = state }

-- The room that is asked for a line's listing: 20 digits for every number, 64 sub-frames.
abbrev pub most_listed : ℕ
most_listed = 6709

-- the program
abbrev pub lister : Program (Unit {0})
lister = record { refusing = λ refusal. text_listing (number refusal); tell = tell_line; fresh = tt; most = most_listed }

-- What is printed for a whole input. The code prints it piece by piece (Stream.antt): `PiecesList` (Claims.antt).
abbrev pub listing : List ℕ → List ℕ
listing input = input_printed lister input

-- What putting a listing into lent room from a place on answers: 21 where that room is not there, whatever the line.
unfoldable pub listed : List ℕ → ℕ → List ℕ → Result ℕ Refusal
listed room at text =
    cond (ltb (length room) (at + most_listed)) (Err RoomTooSmall) (Ok (at + length text))
