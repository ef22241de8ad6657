-- What the private functions of this crate promise to one another. A reader of voice payloads can pass this file over.
use Rattle.std.specs.Prelude.{ℕ, ◌+◌, ◌*◌, cond, not, List, [], ◌∷◌, eqb, Result, Ok, Err}
use Rattle.refusal.specs.Order.{◌gives◌, in_order}
use Rattle.refusal.specs.declared.Refusal.{Refusal}
use Rattle.refusal.specs.declared.Refusal.TheVariants.{LengthWrong}
use Rattle.record.specs.declared.syntax.Syntax.TheVariants.{Pcm, G727}
use Rattle.record.specs.Record.{place}
use Rattle.voice.specs.Voice.{pcm_bits, g727_bits}

-- What is answered to a body of so many octets that is to be m blocks of so many octets each: sound, or 13.
abbrev pub length_judged : ℕ → ℕ → ℕ → Result Unit Refusal
length_judged m each len = in_order (not (eqb len (m * each)) gives LengthWrong ∷ []) Err (Ok tt)

-- A list as one number: a hex digit for each entry, the first entry in the last digit.
abbrev pub in_hex : List ℕ → ℕ
in_hex [] = 0
in_hex (n ∷ ns) = in_hex ns * 16 + n

-- How many times five octets each coding type has, of a syntax whose body is m blocks, by its place in document 01's list of syntax
-- words: under pcm and g727 as many as bits per sample; acelp and g728 have 10 octets. No other place is asked.
abbrev pub fives_at : ℕ → List ℕ
fives_at at = cond (eqb at (place Pcm)) pcm_bits (cond (eqb at (place G727)) g727_bits (2 ∷ []))
