-- The values of the lines of a provisioning text, as they start a list of octets (document 01, "Provisioning text").
use Rattle.std.specs.Prelude.{ℕ, ◌+◌, ◌-◌, ◌*◌, List, [], ◌∷◌, ◌++◌, ◌&&◌, cond, leb, eqb, length, get_or, drop, Option, Some, None, option_and_then, option_map}
use Rattle.octets.specs.Text.{lf, starts, has_lf}
use Rattle.record.specs.declared.syntax.Syntax.{Syntax}
use Rattle.record.specs.declared.syntax.Syntax.TheVariants.{Acelp, Pcm, G727, G728, G7231, Data, Fax}
use Rattle.record.specs.Record.{word, place}
use Rattle.value.specs.declared.Value.{Value}

-- a value, and how many octets it takes with its LF
abbrev pub valued : ℕ → ℕ → Value
valued value size = record { value = value; size = size }

-- the value of a digit
unfoldable pub digit_of : ℕ → Option ℕ
digit_of octet = cond (leb 48 octet && leb octet 57) (Some (octet - 48)) None

-- "Numbers have one to three digits and no leading zero (0 itself allowed)": by the first four octets, of which LF is the
-- one after the last digit. Any other number is malformed.
unfoldable pub third_digit : ℕ → ℕ → ℕ → Option Value
third_digit n third fourth = option_and_then (λ d. cond (eqb fourth lf) (Some (valued (n * 10 + d) 4)) None) (digit_of third)

unfoldable pub second_digit : ℕ → ℕ → ℕ → ℕ → Option Value
second_digit n second third fourth =
    option_and_then
    (λ d. cond (eqb third lf) (Some (valued (n * 10 + d) 3)) (third_digit (n * 10 + d) third fourth))
    (digit_of second)

unfoldable pub number_by : ℕ → ℕ → ℕ → ℕ → Option Value
number_by first second third fourth =
    option_and_then
    (λ d. cond (eqb second lf) (Some (valued d 2)) (cond (eqb d 0) None (second_digit d second third fourth)))
    (digit_of first)

abbrev pub number_of : List ℕ → Option Value
number_of s = number_by (get_or s 0 0) (get_or s 1 0) (get_or s 2 0) (get_or s 3 0)

-- a word of the list tells the place of its syntax, and any other word, if its LF comes, 0
unfoldable pub word_among : List Syntax → List ℕ → Option Value
word_among [] s = cond (has_lf s) (Some (valued 0 0)) None
word_among (x ∷ xs) s = cond (starts s (word x ++ lf ∷ [])) (Some (valued (place x) (length (word x ++ lf ∷ [])))) (word_among xs s)

abbrev pub syntaxes : List Syntax
syntaxes = Acelp ∷ Pcm ∷ G727 ∷ G728 ∷ G7231 ∷ Data ∷ Fax ∷ []

abbrev pub word_of : List ℕ → Option Value
word_of s = word_among syntaxes s

abbrev pub further : ℕ → Value → Value
further n v = valued v.value (n + v.size)

-- a key, then a value that is read so
unfoldable pub value_line : List ℕ → (List ℕ → Option Value) → List ℕ → Option Value
value_line key read s = cond (starts s key) (option_map (further (length key)) (read (drop (length key) s))) None
