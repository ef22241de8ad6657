-- Demand 3 for signalling: the claims of specs/Signalling.antt, by the replay theorem at 7 bits.
use Prim.Native.Nat.{ℕ}
use mathlib.Core.Path.{◌≡◌, refl, ap, ◌∙◌}
use mathlib.Core.List.{List, [], ◌∷◌, map}
use mathlib.Core.Option.{Option}
use native.Mathlib.Omega.{arith}
use Rattle.seizing.specs.Sender.{sender_from}
use Rattle.seized.specs.declared.Receiver.{Receiver}
use Rattle.seized.specs.Receiver.{fresh_receiver, farthest, number_in, received}
use Rattle.replay.specs.Periods.{Payload, pay}
use Rattle.replay.specs.Claims.{brought_by, joined_to, answer_to, answers_of}
use Rattle.replay.proofs.Sublists.{Each, each_in, sublist-map, sublist-in, rising-some, rising-fresh, in_order}
use Rattle.replay.proofs.Replay.{two-receivers}
use Rattle.carried.specs.Emissions.{Emission}
use Rattle.carried.specs.Signalling.{emissions, period_of, arrivals, answers, numbers_in, most_behind, SignallingCarried, SignallingInOrder}
use Rattle.carried.proofs.SignallingRule.{signalling_receiver, brings, by-rule, record_is}
use Rattle.carried.proofs.SignallingSender.{Brings, all-bring, all-rise}

module _ (S : ℕ → List ℕ) where
  brought : (ps : List Emission) → Each (Brings S) ps → brought_by brings ps ≡ map (pay 7 S) (arrivals ps)
  brought [] each = refl
  brought (p ∷ ps) each =
      ap (λ (o : Option (Payload (List ℕ))). joined_to o (brought_by brings ps)) each.0
      ∙ ap {B = List (Payload (List ℕ))} (λ qs. pay 7 S p.number ∷ qs) (brought ps each.1)

  -- what it answers to them
  answers-are : (r : Receiver) (ps : List Emission) → Each (Brings S) ps → answers_of signalling_receiver brings r ps ≡ numbers_in (answers r ps)
  answers-are r [] each = refl
  answers-are r (p ∷ ps) each =
      let after = (received r p.octets).receiver in
      ap (λ (o : Option (Payload (List ℕ))). answer_to o (number_in (received r p.octets)) (answers_of signalling_receiver brings after ps)) each.0
      ∙ ap (λ (ns : List ℕ). number_in (received r p.octets) ∷ ns) (answers-are after ps each.1)

pub signalling-carried : SignallingCarried
signalling-carried start entries one two given =
    let S = period_of start entries in
    let sent = emissions (sender_from start) 0 entries in
    let bring = all-bring start entries given.begins given.ten in
    let each = each_in (Brings S) one sent given.some bring in
    let each2 = each_in (Brings S) two sent given.some2 bring in
    rw (← record_is fresh_receiver one, ← record_is fresh_receiver two, ← answers-are S fresh_receiver one each, ← answers-are S fresh_receiver two each2)
    (two-receivers (List ℕ) 7 farthest signalling_receiver brings S fresh_receiver one two farthest most_behind (arrivals one) (arrivals two) by-rule refl
    (brought S one each)
    (brought S two each2)
    (record { first = omega arith; ahead = omega arith; behind = omega arith })
    given.arriving
    given.arriving2
    given.more)

pub signalling-in-order : SignallingInOrder
signalling-in-order start entries one two given =
    let sent = emissions (sender_from start) 0 entries in
    let number : Emission → ℕ = λ p. p.number in
    let rise = all-rise start entries in
    let rising = rising-some 0 (arrivals one) (map number sent) (sublist-map number one sent given.some) rise in
    let rising2 = rising-some 0 (arrivals two) (map number sent) (sublist-map number two sent given.some2) rise in
    let fresh = rising-fresh (arrivals one) rising in
    let fresh2 = rising-fresh (arrivals two) rising2 in
    rw (fresh, fresh2) at
    (signalling-carried start entries one two
    (record {
      begins = given.begins;
      ten = given.ten;
      some = sublist-in one sent given.some;
      some2 = sublist-in two sent given.some2;
      arriving = in_order farthest most_behind (arrivals one) rising given.near;
      arriving2 = in_order farthest most_behind (arrivals two) rising2 given.near2;
      more = rw (fresh, fresh2) given.more;
    })
    ).both
