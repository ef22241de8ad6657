-- The contracts say the definitions that the theorems speak of (specs/Tied.antt).
use Prim.Native.Nat.{ℕ}
use mathlib.Core.Path.{◌≡◌, refl, ap, ap₂, ◌∙◌}
use mathlib.Core.List.{List, ◌++◌}
use Rattle.contracts.proofs.Coming.{comes_of}
use Rattle.faxing.specs.declared.Receiver.{Receiver}
use Rattle.faxing.specs.Replay.{Received, fresh_receiver, received}
use Rattle.faxing.proofs.Receiver.receive.Kinds as receive-kinds
use Rattle.faxing.proofs.Receiver.receive.Reads as receive-reads
use Rattle.faxed.specs.Events.{Event, handed_by, handed}
use Rattle.faxed.specs.Tied.{Tied, no_more, goes_on, CallsAreHanded, CallsHandComplete}
use Rattle.faxed.proofs.Complete.{handed-complete}

pub tied : Tied
tied =
    record {
      put = λ κs a x s p. p.0;
      left = λ κs a x s p. p.1;
      fresh = λ κs a x s p. p;
      receive = λ κs a x s p. p.0;
      receiver_after = λ κs a x s p. p.1;
      trunk = λ κs a x s p. p;
      take = λ κs a x s p. p.0;
      trunk_after = λ κs a x s p. p.1;
    }

pub calls-are-handed : CallsAreHanded
calls-are-handed r0 ps0 es0 (no_more r) = refl
calls-are-handed r0 ps0 es0 (goes_on r p ps x es call more) =
    let is : x ≡ received r p =
    comes_of 2 receive-kinds.ps receive-kinds.r receive-reads.Post _ _ (λ (i : Receiver × List ℕ). received i.0 i.1)
    (λ κs a x s p. ap₂ (λ y t. record { answer = y; receiver = t }) p.0 p.1)
    (r, p)
    x
    call
    in
    ap (λ (l : List Event). handed_by x.answer ++ l) (calls-are-handed x.receiver ps es more)
    ∙ ap (λ (y : Received). handed_by y.answer ++ handed y.receiver ps) is

pub calls-hand-complete : CallsHandComplete
calls-hand-complete f s came es honest arrives calls =
    calls-are-handed fresh_receiver came es calls ∙ (handed-complete f s came honest arrives).0
