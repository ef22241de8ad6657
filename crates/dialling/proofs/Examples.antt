-- The worked runs of specs/Examples.antt, by computing.
use mathlib.Core.Path.{refl}
use Rattle.dialling.specs.Sender.{sending}
use Rattle.dialling.specs.Examples.{ATone, ACode, Refusals}

pub a-tone : ATone
unfolding sending
a-tone = refl

pub a-code : ACode
unfolding sending
a-code = refl

pub refusals : Refusals
unfolding sending
refusals = refl
