-- A field on its line: its name with `=`, a number or octets, LF; and a line of another text.
use Rattle.std.specs.Prelude.{ℕ, List, [], ◌∷◌, ◌++◌}
use Rattle.octets.specs.Text.{lf}
use Rattle.printing.specs.Decimal.{decimal}
use Rattle.printing.specs.Hex.{hex_of}

-- a number in decimal digits
unfoldable pub field : List ℕ → ℕ → List ℕ
field name n = name ++ (decimal n ++ lf ∷ [])

-- octets in hex
unfoldable pub hex_field : List ℕ → List ℕ → List ℕ
hex_field name octets = name ++ (hex_of octets ++ lf ∷ [])

-- a text
unfoldable pub line : List ℕ → List ℕ
line text = text ++ lf ∷ []
