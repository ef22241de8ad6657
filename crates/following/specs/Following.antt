-- What `follow` prints of a recording for one sub-channel (docs/FOLLOW.md), as octets; and the trunk, which goes on from sub-frame to
-- sub-frame and from line to line.
use Rattle.std.specs.Prelude.{ℕ, List, [], ◌∷◌, ◌++◌, Bool, cond, eqb, get_or, take, drop, Result, Ok, Err}
use Rattle.std.specs.Option.{option_map_or}
use Rattle.refusal.specs.declared.Refusal.{Refusal}
use Rattle.refusal.specs.Numbers.{number}
use Rattle.octets.specs.Text.{ascii}
use Rattle.header.specs.declared.SubFrame.{SubFrame}
use Rattle.frame.specs.Opening.{Opening, opening}
use Rattle.record.specs.Record.{found_at}
use Rattle.digits.specs.declared.layout.Window.{Window}
use Rattle.digits.specs.Layout.{off_window}
use Rattle.dialled.specs.declared.Appended as dialled
use Rattle.seized.specs.declared.Appended as seized
use Rattle.seized.specs.declared.Receiver.{Receiver}
use Rattle.faxing.specs.declared.Did.{Did}
use Rattle.faxing.specs.declared.Did.TheVariants.{Nothing, Began, Stopped, Added, Ended, Aborted}
use Rattle.faxing.specs.declared.Handed.{Handed}
use Rattle.trunk.specs.declared.Trunk.{Trunk}
use Rattle.trunk.specs.declared.Heard.{Heard}
use Rattle.trunk.specs.declared.Heard.TheVariants.{HeardVoice, HeardSilence, HeardDigits, HeardSignalling, HeardData, HeardFax}
use Rattle.trunk.specs.Trunk as trunk
use Rattle.hexline.specs.Line.{Held, octets, line_read, refused as refused_line}
use Rattle.recording.specs.Walk.{Told, nothing, behind}
use Rattle.recording.specs.Input.{Program, input_printed}
use Rattle.printing.specs.Field.{field, hex_field, line}
use Rattle.printing.specs.Refused.{refused_listing, text_listing}

-- ---- A payload

abbrev pub bit : Bool → ℕ
bit b = cond b 1 0

-- "three octets in lower-case hex: type, edge, code"
abbrev pub window_octets : Window → List ℕ
window_octets w = bit w.on ∷ w.edge ∷ w.code ∷ []

-- the octets of each of three periods, and the ten samples of each of three
abbrev pub windows : List Window → List (List ℕ)
windows ws = window_octets (get_or ws 0 off_window) ∷ window_octets (get_or ws 1 off_window) ∷ window_octets (get_or ws 2 off_window) ∷ []

abbrev pub tens : List ℕ → List (List ℕ)
tens samples = take 10 samples ∷ take 10 (drop 10 samples) ∷ take 10 (drop 20 samples) ∷ []

-- "a line `period=` for each carried period, oldest first"
unfoldable pub period_lines : List (List ℕ) → List ℕ
period_lines [] = []
period_lines (period ∷ periods) = hex_field (ascii "period=") period ++ period_lines periods

-- "`filled=` and the fill count, `with=` and the fill content, `carried=` and the carried count"
unfoldable pub count_lines : ℕ → List ℕ → ℕ → List ℕ
count_lines fills fill carried =
    field (ascii "filled=") fills ++ hex_field (ascii "with=") fill ++ field (ascii "carried=") carried

unfoldable pub dialled_lines : dialled.Appended → List ℕ
dialled_lines d =
    count_lines d.fills (window_octets d.fill) d.carried ++ period_lines (take d.carried (windows d.periods))

-- "`value=` and `alarm=`, the current value and the alarm after it"
unfoldable pub seized_lines : seized.Appended → Receiver → List ℕ
seized_lines s r =
    count_lines s.fills (s.fill ∷ []) s.carried ++ period_lines (take s.carried (tens s.periods))
    ++ field (ascii "value=") r.value ++ field (ascii "alarm=") (bit r.alarm)

-- "`did=` .., and after `began` also `hdlc=` .., `modulation=`, `frequency=`, `stamp=`, after `stopped` also `stamp=`"
unfoldable pub did_lines : Did → List ℕ
did_lines Nothing = line (ascii "did=nothing")
did_lines (Began hdlc modulation frequency stamp) =
    line (ascii "did=began") ++ field (ascii "hdlc=") (bit hdlc) ++ field (ascii "modulation=") modulation
    ++ field (ascii "frequency=") frequency ++ field (ascii "stamp=") stamp
did_lines (Stopped stamp) = line (ascii "did=stopped") ++ field (ascii "stamp=") stamp
did_lines Added = line (ascii "did=added")
did_lines Ended = line (ascii "did=ended")
did_lines Aborted = line (ascii "did=aborted")

-- "`gap=` (0 or 1), `octets=` (hex, oldest first, possibly nothing), `did=`"
abbrev pub page_line : List ℕ → List ℕ
page_line page = hex_field (ascii "octets=") page

unfoldable pub faxed_lines : Handed → List ℕ
faxed_lines f = field (ascii "gap=") (bit f.gap) ++ page_line (take f.count f.octets) ++ did_lines f.did

-- By what was heard, and the signalling receiver after it. "A payload of another kind prints nothing more."
abbrev pub heard_lines : Heard → Receiver → List ℕ
heard_lines (HeardDigits appended) r = dialled_lines appended
heard_lines (HeardSignalling appended) r = seized_lines appended r
heard_lines (HeardFax handed) r = faxed_lines handed
heard_lines HeardVoice r = []
heard_lines HeardSilence r = []
heard_lines HeardData r = []

-- "Where the answer is 0": a refused payload prints nothing more.
abbrev pub answer_lines : Result Heard Refusal → Receiver → List ℕ
answer_lines (Ok heard) r = heard_lines heard r
answer_lines (Err refusal) r = []

-- ---- A sub-frame, a frame, a line

-- "`frame=` .., `type=`, `len=` (payload octets) and `answer=`"
unfoldable pub sub_lines : ℕ → SubFrame → Result Heard Refusal → Receiver → List ℕ
sub_lines n sub answer r =
    field (ascii "frame=") n ++ field (ascii "type=") sub.ptype ++ field (ascii "len=") sub.len
    ++ field (ascii "answer=") (trunk.number_of answer) ++ answer_lines answer r

abbrev pub sub_told : ℕ → SubFrame → trunk.Told → Told Trunk
sub_told n sub told = record { text = sub_lines n sub told.answer told.trunk.signalling; state = told.trunk }

-- A sub-frame of the frame s, which has the number n; one of another sub-channel prints nothing and reaches no trunk.
unfoldable pub sub_following : ℕ → List ℕ → ℕ → List ℕ → SubFrame → Trunk → Told Trunk
sub_following n table cid s sub t =
    cond (eqb sub.cid cid)
    (sub_told n sub (trunk.taken t (found_at table cid) sub.ptype (take sub.len (drop sub.start s))))
    (nothing t)

-- "each sub-frame of the sub-channel .., in its order"
unfoldable pub subs_following : ℕ → List ℕ → ℕ → List ℕ → List SubFrame → Trunk → Told Trunk
subs_following n table cid s [] t = nothing t
subs_following n table cid s (sub ∷ subs) t =
    let first = sub_following n table cid s sub t in
    behind first.text (subs_following n table cid s subs first.state)

-- "A line or a frame that is refused prints `frame=`, `refused=` and `at=` .. It reaches no trunk."
abbrev pub refusing : ℕ → Refusal → ℕ → Trunk → Told Trunk
refusing n refusal at t = record { text = refused_listing n (number refusal) at; state = t }

unfoldable pub opened_following : ℕ → List ℕ → ℕ → List ℕ → Opening → Trunk → Told Trunk
opened_following n table cid s o t =
    option_map_or (λ refusal. refusing n refusal o.at t) o.refused (subs_following n table cid s o.subs t)

-- the frame s, which has the number n
abbrev pub frame_following : ℕ → List ℕ → ℕ → List ℕ → Trunk → Told Trunk
frame_following n table cid s t = opened_following n table cid s (opening s) t

abbrev pub read_following : ℕ → List ℕ → ℕ → Held → Trunk → Told Trunk
read_following n table cid (octets s) t = frame_following n table cid s t
read_following n table cid (refused_line refusal) t = refusing n refusal 0 t

-- A line that has the number n.
unfoldable pub line_following : List ℕ → ℕ → ℕ → List ℕ → Trunk → Told Trunk
line_following table cid n line t = read_following n table cid (line_read line) t

-- ---- A whole input

-- The room that is asked for the text of a line: 20 digits for every number, 64 sub-frames of the sub-channel.
abbrev pub most_followed : ℕ
most_followed = 26176

-- the program, for a sub-channel
abbrev pub follower : ℕ → Program Trunk
follower cid =
    record {
      refusing = λ refusal. text_listing (number refusal);
      tell = λ table. line_following table cid;
      fresh = trunk.fresh_trunk;
      most = most_followed;
    }

-- What is printed for a whole input and a sub-channel. The code prints it piece by piece (Stream.antt): `PiecesFollow`
-- (Claims.antt).
abbrev pub following : ℕ → List ℕ → List ℕ
following cid input = input_printed (follower cid) input
