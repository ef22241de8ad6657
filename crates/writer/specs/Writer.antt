-- The writer (document 01, "Refusal numbers"): "The writer takes one sub-frame at a time, each told last or not. Its order: 24,
-- 4, 11 to 16, 22, 23, 21; 21 exactly when header and payload exceed the room left."
use Rattle.std.specs.Prelude.{ℕ, List, [], ◌++◌, Bool, length, Option, Result, Ok, Err}
use Rattle.octets.specs.Made.{Made, made, unmade, fit_of}
use Rattle.octets.specs.Room.{written}
use Rattle.joining.specs.Joining.{shortest_header}
use Rattle.payload.specs.Content.{Content, kind_of, payload_made}
use Rattle.place.specs.declared.Writer.{Writer}
use Rattle.place.specs.declared.Channel.{Channel}
use Rattle.place.specs.declared.Place.{Place}
use Rattle.place.specs.Place.{channel_for, entered}
use Rattle.record.specs.declared.syntax.Record.{Record}
use Rattle.refusal.specs.declared.Refusal.{Refusal}

-- The order: by the sub-channel, then those.
abbrev pub entered_on : ℕ → Writer → Bool → ℕ → Result Channel Refusal → Result ℕ Refusal → Result Place Refusal
entered_on room w last cid (Err refusal) fit = Err refusal
entered_on room w last cid (Ok channel) fit = entered room w last cid channel.ptype fit

-- What the writer does with a sub-frame: it takes it, as these octets, and goes on; or it refuses it.
pub data Writing : Type 0 where
  writes : List ℕ → Writer → Writing
  refuses : Refusal → Writing

-- A sub-frame's octets: the header, and the payload that is made.
abbrev pub sub_frame : ℕ → Bool → Result Channel Refusal → Made → List ℕ
sub_frame cid last (Ok channel) (made payload) = shortest_header cid channel.ptype last (length payload) ++ payload
sub_frame cid last (Ok channel) (unmade refusal) = []
sub_frame cid last (Err refusal) m = []

abbrev pub taken : Result Place Refusal → List ℕ → Writing
taken (Ok place) octets = writes octets place.next
taken (Err refusal) octets = refuses refusal

-- A content for a sub-channel of this CID, with what is provisioned there, in a lent frame of `room` octets.
unfoldable pub writing : ℕ → Writer → Bool → Option Record → ℕ → Content → Writing
writing room w last found cid content =
    let channel = channel_for w found cid (kind_of content) in
    let m = payload_made found content in
    taken (entered_on room w last cid channel (fit_of m)) (sub_frame cid last channel m)

-- The lent frame then: "all lent memory and state stand as at entry" where it is refused.
abbrev pub left_writing : Writing → List ℕ → ℕ → List ℕ
left_writing (writes octets next) room at = written room at octets
left_writing (refuses refusal) room at = room
