-- Which numbers reading digits gives: below 19.
use Prim.Native.Nat.{ℕ, ◌<◌}
use mathlib.Core.Path.{refl}
use mathlib.Core.List.{List, [], ◌∷◌}
use mathlib.Core.Bool.{not}
use native.Mathlib.Omega.{arith}
use lib.Dec.{eqb}
use lib.ListN.{length}
use Rattle.refusal.specs.Numbers.{sound, number}
use Rattle.refusal.specs.Order.{◌gives◌}
use Rattle.refusal.proofs.Order.{below}
use Rattle.digits.specs.Layout.{any_reserved, windows_wrong, digits_in, digits_read}
use Rattle.digits.specs.declared.layout.Digits.{Digits}
use Rattle.refusal.specs.declared.Refusal.{Refusal}
use Rattle.std.specs.declared.result.Result.{Result}
use Rattle.refusal.specs.declared.Refusal.TheVariants.{LengthWrong, ReservedCode, ValueOutOfRange, OlderPayload}
use Rattle.std.specs.declared.result.Result.TheVariants.{Ok, Err}

abbrev pub number_in : Result Digits Refusal → ℕ
number_in (Ok d) = sound
number_in (Err refusal) = number refusal

pub reads-below : (p : List ℕ) → number_in (digits_read p) < number OlderPayload
unfolding digits_read
reads-below p =
    below number_in Err (Ok (digits_in p)) (number OlderPayload) (λ n. refl) (omega arith)
    (not (eqb (length p) 8) gives LengthWrong ∷ any_reserved p gives ReservedCode ∷ windows_wrong (digits_in p) gives ValueOutOfRange ∷ [])
    (tt, (tt, (tt, tt)))
