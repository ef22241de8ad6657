-- Round counts (document 01, "Receivers" and "The digit count, the signalling count, the voice count and the data count"),
-- once over the width k in bits: 8 for digits, 7 for signalling, 4 for voice, 13 for data, and 4 for fax (document 02, wish 1).
use Rattle.std.specs.Prelude.{ℕ, ◌+◌, ◌-◌, ◌%◌, ◌^◌}

-- going on from a count by n, round the width
abbrev pub onward : ℕ → ℕ → ℕ → ℕ
onward k count n = (count + n) % 2 ^ k

-- "Step = new sequence minus last, modulo" 2 ^ k
abbrev pub step : ℕ → ℕ → ℕ → ℕ
step k last new = (new + (2 ^ k - last % 2 ^ k)) % 2 ^ k
