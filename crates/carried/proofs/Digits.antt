-- Demand 3 for digits: the claims of specs/Digits.antt, by the replay theorem at 8 bits.
use Prim.Native.Nat.{ℕ}
use mathlib.Core.Path.{◌≡◌, refl, ap, ◌∙◌}
use mathlib.Core.List.{List, [], ◌∷◌, map}
use mathlib.Core.Option.{Option}
use native.Mathlib.Omega.{arith}
use Rattle.digits.specs.declared.layout.Window.{Window}
use Rattle.dialling.specs.Sender.{fresh_sender}
use Rattle.dialled.specs.declared.Receiver.{Receiver}
use Rattle.dialled.specs.Receiver.{fresh_receiver, farthest, number_in, received, voice_heard}
use Rattle.replay.specs.Periods.{Payload, pay}
use Rattle.replay.specs.Claims.{brought_by, joined_to, answer_to, answers_of}
use Rattle.replay.proofs.Sublists.{Each, each_in, sublist-map, sublist-in, sublist-of, sublist-among, rising-some, rising-fresh, in_order}
use Rattle.replay.proofs.Replay.{two-receivers}
use Rattle.carried.specs.Emissions.{Emission}
use Rattle.carried.specs.Digits.{emissions, period_of, Heard, came, voice, payloads_of, arrivals, answers, numbers_in, most_behind, DigitsCarried, DigitsInOrder}
use Rattle.carried.proofs.DigitRule.{digit_receiver, brings, by-rule, record_is}
use Rattle.carried.proofs.DigitSender.{Brings, all-bring, all-rise}

module _ (S : ℕ → Window) where
  brought : (hs : List Heard) → Each (Brings S) (payloads_of hs) → brought_by brings hs ≡ map (pay 8 S) (arrivals hs)
  brought [] each = refl
  brought (came p ∷ hs) each =
      ap (λ (o : Option (Payload Window)). joined_to o (brought_by brings hs)) each.0
      ∙ ap {B = List (Payload Window)} (λ ps. pay 8 S p.number ∷ ps) (brought hs each.1)
  brought (voice ∷ hs) each = brought hs each

  -- what it answers to them
  answers-are : (r : Receiver) (hs : List Heard) → Each (Brings S) (payloads_of hs) → answers_of digit_receiver brings r hs ≡ numbers_in (answers r hs)
  answers-are r [] each = refl
  answers-are r (came p ∷ hs) each =
      let after = (received r p.octets).receiver in
      ap (λ (o : Option (Payload Window)). answer_to o (number_in (received r p.octets)) (answers_of digit_receiver brings after hs)) each.0
      ∙ ap (λ (ns : List ℕ). number_in (received r p.octets) ∷ ns) (answers-are after hs each.1)
  answers-are r (voice ∷ hs) each = answers-are (voice_heard r) hs each

pub digits-carried : DigitsCarried
digits-carried entries one two given =
    let S = period_of entries in
    let sent = emissions fresh_sender 0 entries in
    let each = each_in (Brings S) (payloads_of one) sent given.some (all-bring entries) in
    let each2 = each_in (Brings S) (payloads_of two) sent given.some2 (all-bring entries) in
    rw (← record_is fresh_receiver one, ← record_is fresh_receiver two, ← answers-are S fresh_receiver one each, ← answers-are S fresh_receiver two each2)
    (two-receivers Window 8 farthest digit_receiver brings S fresh_receiver one two farthest most_behind (arrivals one) (arrivals two) by-rule refl
    (brought S one each)
    (brought S two each2)
    (record { first = omega arith; ahead = omega arith; behind = omega arith })
    given.arriving
    given.arriving2
    given.more)

pub digits-in-order : DigitsInOrder
digits-in-order entries one two given =
    let sent = emissions fresh_sender 0 entries in
    let number : Emission → ℕ = λ p. p.number in
    let some = given.some in
    let within = sublist-map number (payloads_of one) (payloads_of two) given.more in
    let rising2 = rising-some 0 (arrivals two) (map number sent) (sublist-map number (payloads_of two) sent some) (all-rise fresh_sender 0 entries) in
    let rising = rising-some 0 (arrivals one) (arrivals two) within rising2 in
    let fresh = rising-fresh (arrivals one) rising in
    let fresh2 = rising-fresh (arrivals two) rising2 in
    rw (fresh, fresh2) at
    (digits-carried entries one two
    (record {
      some = sublist-in (payloads_of one) sent (sublist-of (payloads_of one) (payloads_of two) sent given.more some);
      some2 = sublist-in (payloads_of two) sent some;
      arriving = in_order farthest most_behind (arrivals one) rising given.near;
      arriving2 = in_order farthest most_behind (arrivals two) rising2 given.near2;
      more = rw (fresh, fresh2) (sublist-among (arrivals one) (arrivals two) within);
    })
    ).both
