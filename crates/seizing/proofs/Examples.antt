-- Worked examples of the sender, on the definitions.
use Prim.Native.Nat.{ℕ}
use mathlib.Core.Path.{◌≡◌, refl}
use mathlib.Core.List.{List, [], ◌∷◌, ◌++◌}
use mathlib.Core.Bool.{Bool, true, false}
use lib.ListN.{replicate}
use Rattle.seizing.specs.declared.Entry.{Entry}
use Rattle.seizing.specs.declared.Sender.{Sender}
use Rattle.seizing.specs.Sender.{sender_from, all_equal, period, refused, sent}
use Rattle.std.specs.declared.option.Option.TheVariants.{Some}
use Rattle.std.specs.declared.result.Result.TheVariants.{Ok}
use Rattle.refusal.specs.declared.Refusal.TheVariants.{ValueOutOfRange}
use Rattle.signalling.specs.Layout.{all_allowed}

-- thirty samples: the first two are 1, the last 2 and the others 4
abbrev samples : List ℕ
samples = 1 ∷ 1 ∷ replicate 27 4 ++ (2 ∷ [])

abbrev entry : Bool → ℕ → Entry
entry alarm sample = record { alarm = alarm; samples = replicate 10 sample }

-- the first number is 0, and the start state stands before the first period
pub first-sent :
    (sent (sender_from 5) (entry false 5)).answer ≡ Ok (Some (record { alarm = false; sequence = record { 0 = 0 }; samples = replicate 30 5 }))
unfolding sent period all_allowed all_equal
first-sent = refl

-- ten equal samples at a new value are not quiet
pub new-value : (sent (sender_from 5) (entry false 6)).sender.quiet ≡ 0
unfolding sent period all_allowed all_equal
new-value = refl

-- a repeat: the last number and windows, the alarm fresh, and 25 quiet periods behind it
abbrev long : Sender
long = record { last = record { 0 = 9 }; before = 5; quiet = 274; windows = samples }

pub repeat :
    sent long (entry true 5)
    ≡ record {
      answer = Ok (Some (record { alarm = true; sequence = record { 0 = 9 }; samples = samples }));
      sender = record { last = record { 0 = 9 }; before = 5; quiet = 25; windows = samples };
    }
unfolding sent period all_allowed all_equal
repeat = refl

-- a sample of 16 is refused, and the state stands
pub wrong : sent long (entry true 16) ≡ refused long ValueOutOfRange
unfolding sent period all_allowed all_equal
wrong = refl
