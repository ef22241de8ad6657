-- What is printed of a refused frame and of a refused text (document 01, "Listing program").
use Rattle.std.specs.Prelude.{ℕ, List, ◌++◌}
use Rattle.octets.specs.Text.{ascii}
use Rattle.printing.specs.Field.{field}

-- "A refused frame prints `frame=`, `refused=`, `at=`"
unfoldable pub refused_listing : ℕ → ℕ → ℕ → List ℕ
refused_listing n number at = field (ascii "frame=") n ++ field (ascii "refused=") number ++ field (ascii "at=") at

-- "refused text prints `text=`, `line=` and stops"
unfoldable pub text_listing : ℕ → ℕ → List ℕ
text_listing number line = field (ascii "text=") number ++ field (ascii "line=") line
