-- What `digits_read` and `digits_made` give in each of their cases.
use Prim.Native.Nat.{ℕ}
use mathlib.Core.Path.{◌≡◌}
use mathlib.Core.List.{List}
use mathlib.Core.Bool.{true, false}
use borrow.Author.Tests.{eq-eqb, ne_eqb}
use lib.ListN.{length}
use Rattle.octets.specs.Made.{made, unmade}
use Rattle.levels.specs.Level.{code_of}
use Rattle.digits.specs.declared.layout.Digits.{Digits}
use Rattle.digits.specs.Layout.{any_reserved, digits_in, windows_wrong, digits_read, level_low, digits_octets, digits_made}
use Rattle.refusal.specs.declared.Refusal.TheVariants.{LengthWrong, ReservedCode, ValueOutOfRange}
use Rattle.std.specs.declared.result.Result.TheVariants.{Ok, Err}

module _ (p : List ℕ) where
  pub wrong : (length p ≡ 8 → ⊥) → digits_read p ≡ Err LengthWrong
  unfolding digits_read
  wrong h = simp (ne_eqb (length p) 8 h)

  module _ (eight : length p ≡ 8) where
    pub reserved : any_reserved p ≡ true → digits_read p ≡ Err ReservedCode
    unfolding digits_read
    reserved h = simp (eq-eqb (length p) 8 eight, h)

    module _ (free : any_reserved p ≡ false) where
      pub out : windows_wrong (digits_in p) ≡ true → digits_read p ≡ Err ValueOutOfRange
      unfolding digits_read
      out h = simp (eq-eqb (length p) 8 eight, free, h)

      pub right : windows_wrong (digits_in p) ≡ false → digits_read p ≡ Ok (digits_in p)
      unfolding digits_read
      right h = simp (eq-eqb (length p) 8 eight, free, h)

module _ (d : Digits) where
  pub low : level_low (code_of 31 d.level) ≡ true → digits_made d ≡ unmade ValueOutOfRange
  unfolding digits_made
  low h = simp h

  module _ (fair : level_low (code_of 31 d.level) ≡ false) where
    pub wrongs : windows_wrong d ≡ true → digits_made d ≡ unmade ValueOutOfRange
    unfolding digits_made
    wrongs h = simp (fair, h)

    pub all_right : windows_wrong d ≡ false → digits_made d ≡ made (digits_octets d)
    unfolding digits_made
    all_right h = simp (fair, h)
