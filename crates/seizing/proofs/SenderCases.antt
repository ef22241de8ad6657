-- What `sent` gives in each of its cases.
use mathlib.Core.Path.{◌≡◌}
use mathlib.Core.Bool.{true, false}
use Rattle.refusal.specs.declared.Refusal.TheVariants.{ValueOutOfRange}
use Rattle.seizing.specs.declared.Entry.{Entry}
use Rattle.seizing.specs.declared.Sender.{Sender}
use Rattle.signalling.specs.Layout.{all_allowed}
use Rattle.seizing.specs.Sender.{decision_of, period, refused, sent}

module _ (s : Sender) (e : Entry) where
  pub taken : all_allowed 10 0 e.samples ≡ true → sent s e ≡ period s e (decision_of s e)
  unfolding sent
  taken h = simp h

  pub wrong : all_allowed 10 0 e.samples ≡ false → sent s e ≡ refused s ValueOutOfRange
  unfolding sent
  wrong h = simp h
