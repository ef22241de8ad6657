-- The worked runs of specs/Examples.antt, by computing.
use mathlib.Core.Path.{refl}
use Rattle.digits.specs.Layout.{digits_read}
use Rattle.dialled.specs.Receiver.{received}
use Rattle.dialled.specs.Examples.{Steps, AfterVoice, NotTaken, OlderOnes}

pub steps : Steps
unfolding received digits_read
steps = refl

pub after-voice : AfterVoice
unfolding received digits_read
after-voice = refl

pub not_taken : NotTaken
unfolding received digits_read
not_taken = refl

pub older-ones : OlderOnes
unfolding received digits_read
older-ones = refl
