-- Payloads one after the other: what they hand on, and the replay after them.
use Prim.Native.Nat.{ℕ, zero, suc}
use mathlib.Core.Path.{◌≡◌, refl, sym, ap, ◌∙◌}
use mathlib.Core.List.{List, [], ◌∷◌, ◌++◌, append_assoc}
use lib.ListN.{replicate}
use Rattle.faxing.specs.declared.Receiver.{Receiver}
use Rattle.faxing.specs.Replay.{Received, nothing_done, received}
use Rattle.faxed.specs.Events.{Event, handed_by, handed, after}

pub record Runs (r : Receiver) (ps : List (List ℕ)) (es : List Event) (to : Receiver) : Type 0 where
  pub hands : handed r ps ≡ es
  pub leaves : after r ps ≡ to

pub empty : {r : Receiver} → Runs r [] [] r
empty = record { hands = refl; leaves = refl }

-- a payload, and then more
pub first : {r to : Receiver} {p : List ℕ} {ps : List (List ℕ)} {es fs : List Event} {a : Received}
    → received r p ≡ a
    → Runs a.receiver ps es to
    → handed_by a.answer ++ es ≡ fs
    → Runs r (p ∷ ps) fs to
first is rest all = record { hands = rw (is, rest.hands) all; leaves = rw (is, rest.leaves) }

-- copies that do nothing
pub copies : {r : Receiver} (p : List ℕ) (k : ℕ) → received r p ≡ nothing_done r → Runs r (replicate k p) [] r
copies p zero same = empty
copies p (suc k) same = first same (copies p k same) refl

-- payloads, and then more
handed-joined : (r : Receiver) (ps qs : List (List ℕ)) → handed r (ps ++ qs) ≡ handed r ps ++ handed (after r ps) qs
handed-joined r [] qs = refl
handed-joined r (p ∷ ps) qs =
    ap (λ (es : List Event). handed_by (received r p).answer ++ es) (handed-joined (received r p).receiver ps qs)
    ∙ sym (append_assoc (handed_by (received r p).answer) _ _)

after-joined : (r : Receiver) (ps qs : List (List ℕ)) → after r (ps ++ qs) ≡ after (after r ps) qs
after-joined r [] qs = refl
after-joined r (p ∷ ps) qs = after-joined (received r p).receiver ps qs

pub joined : {r between to : Receiver} {ps qs : List (List ℕ)} {es fs : List Event}
    → Runs r ps es between
    → Runs between qs fs to
    → Runs r (ps ++ qs) (es ++ fs) to
joined {r} {ps} {qs} a b =
    record {
      hands = rw (handed-joined r ps qs, a.hands, a.leaves, b.hands);
      leaves = rw (after-joined r ps qs, a.leaves, b.leaves);
    }
