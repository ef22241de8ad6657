-- The examples of docs/FOLLOW.md, over the definition.
use Prim.Native.Nat.{ℕ}
use Prim.Native.String.{String}
use mathlib.Core.Path.{◌≡◌, refl}
use mathlib.Core.List.{List, [], ◌∷◌, ◌++◌}
use Rattle.octets.specs.Text.{ascii, lf, starts, has_lf}
use Rattle.record.specs.Record.{syntax_at, packed, meaning, found_at}
use Rattle.value.specs.Value.{digit_of, third_digit, second_digit, number_by, word_among, value_line}
use Rattle.provisioning.specs.Line.{line_by}
use Rattle.provisioning.specs.Text.{walk, reading}
use Rattle.header.specs.Header.{told, header_at}
use Rattle.frame.specs.Opening.{scan, scanned, opening}
use Rattle.payload.specs.Layout.{on_voice, on_fax, on_data}
use Rattle.digits.specs.Layout.{digits_read}
use Rattle.dialled.specs.Receiver.{received}
use Rattle.fax.specs.Fax.{front_of, command_of, is_page, body_sized, tone_refused, fax_read}
use Rattle.faxing.specs.Replay.{acting, taken_by}
use Rattle.faxing.specs.Replay.{received as fax-received}
use Rattle.trunk.specs.Trunk.{taken}
use Rattle.hexline.specs.Hex.{hex_value, any_other, paired}
use Rattle.hexline.specs.Line.{line_read}
use Rattle.recording.specs.Pieces.{text_from, line_size}
use Rattle.recording.specs.Walk.{lines_told}
use Rattle.recording.specs.Input.{input_printed}
use Rattle.printing.specs.Decimal.{digits}
use Rattle.printing.specs.Hex.{hex_digit, hex_of}
use Rattle.printing.specs.Field.{field, hex_field, line}
use Rattle.printing.specs.Refused.{refused_listing}
use Rattle.following.specs.Following.{period_lines, count_lines, dialled_lines, seized_lines, did_lines, faxed_lines, sub_lines, sub_following, subs_following, opened_following, line_following, following}

-- lines, each with its LF
abbrev lines : List String → List ℕ
lines [] = []
lines (word ∷ words) = ascii word ++ lf ∷ [] ++ lines words

pub input : List ℕ
input =
    lines
    ("cid=5" ∷ "syntax=acelp" ∷ "m=1" ∷ "seq=0" ∷ "frame=85010000240520050000" ∷ "frame=85010300240520052005" ∷ "frame=85010100200524052005" ∷ [])

pub printed : List ℕ
printed =
    lines
    ("frame=0"
    ∷ "type=1"
    ∷ "len=8"
    ∷ "answer=0"
    ∷ "filled=0"
    ∷ "with=000000"
    ∷ "carried=3"
    ∷ "period=000000"
    ∷ "period=010005"
    ∷ "period=010405"
    ∷ "frame=1"
    ∷ "type=1"
    ∷ "len=8"
    ∷ "answer=0"
    ∷ "filled=0"
    ∷ "with=000000"
    ∷ "carried=3"
    ∷ "period=010005"
    ∷ "period=010005"
    ∷ "period=010405"
    ∷ "frame=2"
    ∷ "type=1"
    ∷ "len=8"
    ∷ "answer=19"
    ∷ [])

pub follows : following 5 input ≡ printed
unfolding input printed input_printed lines_told line_following opened_following refused_listing subs_following sub_following sub_lines dialled_lines seized_lines count_lines period_lines field hex_field hex_of hex_digit digits taken received line_read any_other paired hex_value text_from line_size reading walk line_by value_line number_by second_digit third_digit digit_of word_among starts has_lf opening scanned scan header_at told found_at meaning packed syntax_at on_voice on_fax on_data digits_read
follows = refl

-- A fax call whose first two data payloads are lost.
pub fax-input : List ℕ
fax-input =
    lines
    ("cid=9" ∷ "syntax=fax" ∷ "m=1" ∷ "seq=0" ∷ "frame=0981e803810000" ∷ "frame=091a434241" ∷ [])

pub fax-printed : List ℕ
fax-printed =
    lines
    ("frame=0"
    ∷ "type=0"
    ∷ "len=6"
    ∷ "answer=0"
    ∷ "gap=0"
    ∷ "octets="
    ∷ "did=began"
    ∷ "hdlc=1"
    ∷ "modulation=1"
    ∷ "frequency=0"
    ∷ "stamp=1000"
    ∷ "frame=1"
    ∷ "type=0"
    ∷ "len=4"
    ∷ "answer=0"
    ∷ "gap=0"
    ∷ "octets=414243"
    ∷ "did=added"
    ∷ [])

pub fax-follows : following 9 fax-input ≡ fax-printed
unfolding fax-input fax-printed input_printed lines_told line_following opened_following refused_listing subs_following sub_following sub_lines faxed_lines did_lines field hex_field line hex_of hex_digit digits taken fax-received taken_by acting line_read any_other paired hex_value text_from line_size reading walk line_by value_line number_by second_digit third_digit digit_of word_among starts has_lf opening scanned scan header_at told found_at meaning packed syntax_at on_voice on_fax on_data fax_read front_of command_of is_page body_sized tone_refused
fax-follows = refl
