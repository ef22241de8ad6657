-- No refusal has the number 0.
use mathlib.Core.Path.{◌≡◌, refl}
use native.Mathlib.Omega.{arith}
use Rattle.std.specs.declared.option.Option.{Option}
use Rattle.std.specs.declared.option.Option.TheVariants.{Some, None}
use Rattle.std.specs.Option.{option_map_or}
use Rattle.refusal.specs.declared.Refusal.{Refusal}
use Rattle.refusal.specs.Numbers.{sound, number}
use Rattle.frame.specs.Opening.{NumberTells}

never : (refusal : Refusal) → number refusal ≡ sound → ⊥
never refusal e = grind arith

tells : (r : Option Refusal) → option_map_or number r sound ≡ sound → r ≡ None
tells None e = refl
tells (Some refusal) e = absurd (never refusal e)

pub number-tells : NumberTells
number-tells o = tells o.refused
