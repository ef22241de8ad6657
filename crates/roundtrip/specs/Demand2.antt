-- Demand 2: "A legal list of sub-frames, written and read again, gives the same list, save that a level above zero and the code
-- of an off window come back as 0; a written frame is the one shortest form."
--
-- It holds of the code by the contracts; Tied.antt says so, and it is proved: `place::fresh` is `fresh_writer`; the six
-- `write_` functions answer and leave what `writing` and `left_writing` give, and results that meet their contracts, call after
-- call, are `fed`; `frame::open` answers `answer (opening ..)`, `record::table::record_of` `found_at`,
-- `payload::layout::layout_of` `layout_of`, each `read_` function its part of `read_as`, and what meets their contracts over a frame
-- is `gotten`. Proved in proofs/.
use Rattle.std.specs.Prelude.{ℕ, ◌<◌, ◌≤◌, ◌≡◌, List, [], ◌∷◌, ◌++◌, map, Bool, true, false, length, take, drop, Ok}
use Rattle.refusal.specs.declared.Refusal.{Refusal}
use Rattle.refusal.specs.declared.Refusal.TheVariants.{RoomTooSmall}
use Rattle.octets.specs.Octets.{Octets}
use Rattle.octets.specs.Made.{made}
use Rattle.octets.specs.Room.{written}
use Rattle.record.specs.Record.{found_at}
use Rattle.header.specs.declared.SubFrame.{SubFrame}
use Rattle.frame.specs.Opening.{opening}
use Rattle.joining.specs.Joining.{joined}
use Rattle.joining.specs.Joining as joining
use Rattle.framing.specs.Claims.{Fits, Sound, list}
use Rattle.payload.specs.Layout.{type_for}
use Rattle.payload.specs.Content.{Content, Reading, reads, payload_read, payload_made, kind_of}
use Rattle.payload.specs.Claims.{normal_content, samples_in}
use Rattle.place.specs.declared.Writer.{Writer}
use Rattle.place.specs.Place.{fresh_writer}
use Rattle.writer.specs.Writer.{Writing, writes, refuses, writing, left_writing}

-- A sub-frame of a list: the CID and the content.
pub record Sub : Type 0 where
  pub cid : ℕ
  pub content : Content

-- The CID is an octet, and a signalling content has thirty samples, as the types of the code have it.
pub record Stated (s : Sub) : Type 0 where
  pub octet : s.cid ≤ 255
  pub thirty : samples_in s.content ≡ 30

abbrev pub AllStated : List Sub → Type 0
AllStated [] = Unit
AllStated (s ∷ ss) = Stated s × AllStated ss

-- "The writer takes one sub-frame at a time, each told last or not."
abbrev pub is_last : List Sub → Bool
is_last [] = true
is_last (s ∷ ss) = false

-- The writer fed a list: it took all, with the writer and the lent frame then; or it stopped, with the refusal, the sub-frames
-- that it did not take, and the writer and the lent frame then.
pub data Fed : Type 0 where
  took : Writer → List ℕ → Fed
  stopped : Refusal → List Sub → Writer → List ℕ → Fed

abbrev pub after : Writing → Writer → Writer
after (writes octets next) w = next
after (refuses refusal) w = w

abbrev pub onwards : Writing → List Sub → Writer → List ℕ → Fed → Fed
onwards (writes octets next) here w frame rest = rest
onwards (refuses refusal) here w frame rest = stopped refusal here w frame

-- what the writer does with the first of a list
abbrev pub first : List ℕ → List ℕ → Writer → Sub → List Sub → Writing
first table frame w s ss = writing (length frame) w (is_last ss) (found_at table s.cid) s.cid s.content

unfoldable pub fed : List ℕ → List ℕ → Writer → List Sub → Fed
fed table frame w [] = took w frame
fed table frame w (s ∷ ss) =
    let does = first table frame w s ss in
    onwards does (s ∷ ss) w frame (fed table (left_writing does frame w.at) (after does w) ss)

-- "A list is legal when the writer takes it to its last": in the lent frame `frame`, which then is `left`.
pub record Legal (table frame : List ℕ) (ss : List Sub) (w : Writer) (left : List ℕ) : Type 0 where
  pub stated : AllStated ss
  pub taken : fed table frame fresh_writer ss ≡ took w left
  pub to_last : w.done ≡ true

-- the frame that was written
abbrev pub frame_of : Writer → List ℕ → List ℕ
frame_of w left = take w.at left

-- Reading: each sub-frame of the opened frame by the record of its sub-channel.
pub record Got : Type 0 where
  pub cid : ℕ
  pub reading : Reading

abbrev pub got_of : List ℕ → List ℕ → SubFrame → Got
got_of table f sub =
    record {
      cid = sub.cid;
      reading = payload_read (found_at table sub.cid) sub.ptype (take sub.len (drop sub.start f));
    }

abbrev pub gotten : List ℕ → List ℕ → List Got
gotten table f = map (got_of table f) (opening f).subs

-- "the same list, save that a level above zero and the code of an off window come back as 0"
abbrev pub same_as : Sub → Got
same_as s = record { cid = s.cid; reading = reads (normal_content s.content) }

-- The written frame lies in the lent one, which beyond it stands as it was; it is sound and reads as the list; and any frame of
-- octets that opens to the same sub-frames is longer, or is this one.
pub record RoundTrip (table frame : List ℕ) (ss : List Sub) (w : Writer) (left : List ℕ) : Type 0 where
  pub inside : w.at ≤ length frame
  pub beyond : left ≡ frame_of w left ++ drop w.at frame
  pub sound : Sound (frame_of w left)
  pub same : gotten table (frame_of w left) ≡ map same_as ss
  pub shortest :
      (f : List ℕ)
      → Octets f
      → Sound f
      → list f ≡ list (frame_of w left)
      → (length (frame_of w left) ≤ length f) × (length f ≡ length (frame_of w left) → f ≡ frame_of w left)

abbrev pub WrittenReadsBack : Type 0
WrittenReadsBack =
    (table frame : List ℕ) (ss : List Sub) (w : Writer) (left : List ℕ) → Legal table frame ss w left → RoundTrip table frame ss w left

-- Which lists are legal: exactly those of which each content is made on its sub-channel, where the sub-frames fit a frame and the
-- lent room. They are then written as joined.
abbrev pub MadeAs : List ℕ → Sub → joining.Member → Type 0
MadeAs table s c =
    (c.cid ≡ s.cid)
    × (type_for (found_at table s.cid) (kind_of s.content) ≡ Ok c.ptype)
    × (payload_made (found_at table s.cid) s.content ≡ made c.payload)

abbrev pub AllMade : List ℕ → List Sub → List joining.Member → Type 0
AllMade table [] [] = Unit
AllMade table [] (c ∷ cs) = ⊥
AllMade table (s ∷ ss) [] = ⊥
AllMade table (s ∷ ss) (c ∷ cs) = MadeAs table s c × AllMade table ss cs

abbrev pub end : List joining.Member → Writer
end cs = record { at = length (joined cs); count = length cs; done = true }

abbrev pub MadeIsTaken : Type 0
MadeIsTaken =
    (table frame : List ℕ) (ss : List Sub) (cs : List joining.Member)
    → AllMade table ss cs
    → Fits cs
    → length (joined cs) ≤ length frame
    → fed table frame fresh_writer ss ≡ took (end cs) (written frame 0 (joined cs))

abbrev pub LegalIsMade : Type 0
LegalIsMade =
    (table frame : List ℕ) (ss : List Sub) (w : Writer) (left : List ℕ)
    → Legal table frame ss w left
    → (cs : List joining.Member)
    × AllMade table ss cs
    × Fits cs
    × (length (joined cs) ≤ length frame)
    × (w ≡ end cs)
    × (left ≡ written frame 0 (joined cs))

-- Less room: the writer stops with 21 at the first sub-frame that does not fit, and behind the sub-frames already written the
-- lent frame stands as it was.
pub record CutShort (table frame small : List ℕ) (ss : List Sub) (left : List ℕ) : Type 0 where
  pub before : List Sub
  pub s : Sub
  pub rest : List Sub
  pub w : Writer
  pub held : List ℕ
  pub next : Writer
  pub octets : List ℕ
  pub stops : fed table small fresh_writer ss ≡ stopped RoomTooSmall (s ∷ rest) w held
  pub split : ss ≡ before ++ s ∷ rest
  pub counted : w.count ≡ length before
  pub fits_before : w.at ≤ length small
  pub would_be : first table frame w s rest ≡ writes octets next
  pub does_not_fit : length small < next.at
  pub stands : held ≡ take w.at left ++ drop w.at small

abbrev pub LessRoom : Type 0
LessRoom =
    (table frame small : List ℕ) (ss : List Sub) (w : Writer) (left : List ℕ)
    → Legal table frame ss w left
    → length small < w.at
    → CutShort table frame small ss left

-- Any room that suffices: a list that is legal in one lent frame is legal in every other that has the octets, and what is written
-- there is the same frame.
abbrev pub AnyRoom : Type 0
AnyRoom =
    (table frame other : List ℕ) (ss : List Sub) (w : Writer) (left : List ℕ)
    → Legal table frame ss w left
    → w.at ≤ length other
    → (there : List ℕ) × Legal table other ss w there × (frame_of w there ≡ frame_of w left)
