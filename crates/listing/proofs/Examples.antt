-- Document 01's example of the listing, "Listing program", over the definition.
use Prim.Native.Nat.{ℕ}
use Prim.Native.String.{String}
use mathlib.Core.Path.{◌≡◌, refl}
use mathlib.Core.List.{List, [], ◌∷◌, ◌++◌}
use Rattle.octets.specs.Text.{ascii, lf, starts, has_lf}
use Rattle.record.specs.Record.{syntax_at, packed, meaning, found_at}
use Rattle.value.specs.Value.{digit_of, third_digit, second_digit, number_by, word_among, value_line}
use Rattle.provisioning.specs.Line.{line_by}
use Rattle.provisioning.specs.Text.{walk, reading}
use Rattle.header.specs.Header.{told, header_at}
use Rattle.frame.specs.Opening.{scan, scanned, opening}
use Rattle.payload.specs.Layout.{on_voice, on_fax, on_data}
use Rattle.digits.specs.Layout.{digits_read}
use Rattle.hexline.specs.Hex.{hex_value, any_other, paired}
use Rattle.hexline.specs.Line.{line_read}
use Rattle.recording.specs.Pieces.{text_from, line_size}
use Rattle.recording.specs.Walk.{lines_told}
use Rattle.recording.specs.Input.{input_printed}
use Rattle.printing.specs.Decimal.{digits}
use Rattle.printing.specs.Field.{field}
use Rattle.printing.specs.Refused.{refused_listing}
use Rattle.listing.specs.Listing.{four_fields, sub_listing, subs_listing, opened_listing, line_listing, listing}

-- lines, each with its LF
abbrev lines : List String → List ℕ
lines [] = []
lines (word ∷ words) = ascii word ++ lf ∷ [] ++ lines words

pub input : List ℕ
input = lines ("cid=5" ∷ "syntax=acelp" ∷ "m=1" ∷ "seq=0" ∷ "frame=c50108000a23070000000006aa" ∷ [])

pub printed : List ℕ
printed =
    lines
    ("frame=0" ∷ "subs=2" ∷ "cid=5" ∷ "type=1" ∷ "len=8" ∷ "answer=0" ∷ "cid=6" ∷ "type=0" ∷ "len=1" ∷ "answer=11" ∷ [])

pub lists : listing input ≡ printed
unfolding input printed input_printed lines_told line_listing opened_listing refused_listing subs_listing sub_listing four_fields field digits line_read any_other paired hex_value text_from line_size reading walk line_by value_line number_by second_digit third_digit digit_of word_among starts has_lf opening scanned scan header_at told found_at meaning packed syntax_at on_voice on_fax on_data digits_read
lists = refl
