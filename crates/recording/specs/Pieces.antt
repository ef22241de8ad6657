-- Where the provisioning text and a line end in a piece of the input (document 01, "Listing program"): "The text ends before
-- the first line that starts with `frame=`."
use Rattle.std.specs.Prelude.{ℕ, suc, ◌+◌, ◌-◌, List, [], ◌∷◌, Bool, true, cond, ◌&&◌, eqb, length, take}
use Rattle.octets.specs.Text.{lf, starts, has_lf}
use Rattle.hexline.specs.Line.{frame_key}
use Rattle.recording.specs.declared.pieces.Line.{Line}
use Rattle.recording.specs.declared.pieces.Kept.{Kept}

-- the octets before the first line that starts with `frame=`; `begins` says whether a line begins here
unfoldable pub text_from : Bool → List ℕ → ℕ
text_from begins [] = 0
text_from begins (x ∷ xs) = cond (begins && starts (x ∷ xs) frame_key) 0 (suc (text_from (eqb x lf) xs))

abbrev pub text_end : List ℕ → ℕ
text_end s = text_from true s

-- the octets of the line that s starts with, its LF included
unfoldable pub line_size : List ℕ → ℕ
line_size [] = 0
line_size (x ∷ xs) = cond (eqb x lf) 1 (suc (line_size xs))

-- how many lines end in s
unfoldable pub line_ends : List ℕ → ℕ
line_ends [] = 0
line_ends (x ∷ xs) = cond (eqb x lf) (suc (line_ends xs)) (line_ends xs)

-- the line that s starts with: its octets, and whether it ends
abbrev pub line_end : List ℕ → Line
line_end s = record { size = line_size s; whole = has_lf s }

-- what is kept of a piece in room for `room` octets, behind `have` octets of the same line
abbrev pub to_keep : ℕ → ℕ → List ℕ → List ℕ
to_keep room have piece = take (room - have) (take (line_size piece) piece)

-- what keeping it answers
abbrev pub keeping : ℕ → ℕ → List ℕ → Kept
keeping room have piece =
    record { taken = line_size piece; have = have + length (to_keep room have piece); whole = has_lf piece }
