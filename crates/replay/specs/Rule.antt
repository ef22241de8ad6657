-- The receivers' rule, once for digits and signalling (document 01, "Receivers"; document 02, wish 3): which payloads are older, and
-- which periods another one appends, by its step. The fax replay counts octets by `carried_count`.
use Rattle.std.specs.Prelude.{ℕ, ◌-◌, min, List, Bool, cond, ltb, drop}

-- "First payload: append all three windows (house)": a step of 3.
abbrev pub step_taken : Bool → ℕ → ℕ
step_taken heard step = cond heard step 3

-- "take steps of 64 to 127 for signalling, and 128 to 255 for digits, as older and change nothing": those beyond the farthest step
-- that is replayed. A first payload, at a step of 3, is never older.
abbrev pub older : ℕ → ℕ → Bool
older farthest step = ltb farthest step

-- "Step 4 or more: step - 3 filled periods, then three."
abbrev pub fill_count : ℕ → ℕ
fill_count step = step - 3

-- "Step 1, 2, 3: the newest 1, 2, 3", and three from there on.
abbrev pub carried_count : ℕ → ℕ
carried_count step = min step 3

-- How many of the three windows of a payload are not appended, and leave their places unused.
abbrev pub unused_count : ℕ → ℕ
unused_count step = 3 - step

-- The newest windows; they stand oldest first.
abbrev pub newest : {A : Type 0} → ℕ → List A → List A
newest step windows = drop (unused_count step) windows
