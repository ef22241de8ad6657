-- What `sending` gives in each of its cases.
use mathlib.Core.Path.{◌≡◌, ap}
use mathlib.Core.Bool.{true, false}
use lib.IntN.{ℤ}
use Rattle.levels.specs.Level.{code_of}
use Rattle.digits.specs.declared.layout.Window.{Window}
use Rattle.dialling.specs.declared.Entry.{Entry}
use Rattle.dialling.specs.declared.Sender.{Sender}
use Rattle.std.specs.declared.option.Option.TheVariants.{Some, None}
use Rattle.std.specs.declared.result.Result.TheVariants.{Ok}
use Rattle.digits.specs.Layout.{window_wrong, level_low}
use Rattle.dialling.specs.Sender.{Taken, window_in, stray_edge, due, payload_of, after_sent, after_unsent, period, refused, sending}
use Rattle.refusal.specs.declared.Refusal.TheVariants.{ValueOutOfRange, EdgeWithoutChange}

module _ (s : Sender) (e : Entry) where
  pub wrong : window_wrong (window_in e) ≡ true → sending s e ≡ refused s ValueOutOfRange
  unfolding sending
  wrong h = simp h

  module _ (right : window_wrong (window_in e) ≡ false) where
    pub low : level_low (code_of 31 e.level) ≡ true → sending s e ≡ refused s ValueOutOfRange
    unfolding sending
    low h = simp (right, h)

    module _ (fair : level_low (code_of 31 e.level) ≡ false) where
      pub stray : stray_edge s (window_in e) ≡ true → sending s e ≡ refused s EdgeWithoutChange
      unfolding sending
      stray h = simp (right, fair, h)

      pub in_place : stray_edge s (window_in e) ≡ false → sending s e ≡ period s (window_in e) e.level
      unfolding sending
      in_place h = simp (right, fair, h)

      pub period_answer : stray_edge s (window_in e) ≡ false → (sending s e).answer ≡ (period s (window_in e) e.level).answer
      period_answer h = ap (λ (t : Taken). t.answer) (in_place h)

      pub period_sender : stray_edge s (window_in e) ≡ false → (sending s e).sender ≡ (period s (window_in e) e.level).sender
      period_sender h = ap (λ (t : Taken). t.sender) (in_place h)

module _ (s : Sender) (w : Window) (level : ℤ) where
  pub sent : due s w ≡ true → period s w level ≡ record { answer = Ok (Some (payload_of s w level)); sender = after_sent s w }
  sent h = simp h

  pub unsent : due s w ≡ false → period s w level ≡ record { answer = Ok None; sender = after_unsent s w }
  unsent h = simp h
