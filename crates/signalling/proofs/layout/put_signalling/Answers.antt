-- `signalling::layout::put_signalling` meets its contract: what fits is made, and its first octet and its pairs are put.
use Prim.Native.Nat.{ℕ}
use mathlib.Core.Path.{◌≡◌, sym, ap₂, ◌∙◌}
use mathlib.Core.List.{List, ◌∷◌}
use Rattle.octets.specs.Made.{made, put_made, left_made}
use Rattle.octets.proofs.MadeBack as back
use Rattle.signalling.specs.Layout.{signalling_made}
use Rattle.signalling.proofs.LayoutBack as layout
use Rattle.signalling.proofs.layout.put_signalling.Goals as goal
use Rattle.signalling.proofs.layout.put_signalling.Goals.{After-put_both}

written : (c : After-put_both) → let a = c.args in
    let m = signalling_made a.signalling in
    (c.put_both.result ≡ put_made a.room.now a.at m) × (c.put_both.new.room ≡ left_made a.room.now a.at m)
written c =
    let a = c.args in
    back.written-made a.room.now a.at _ _ _ _
    (layout.made-octets a.signalling (layout.fits _ _ (sym c.fit_signalling.ensures ∙ c.in_ok-fit_signalling.was))
    ∙ ap₂ (λ (x : ℕ) (l : List ℕ). made (x ∷ l)) (sym c.first_octet.ensures) (sym c.pairs_of-pairs.ensures))
    c.put_both.ensures.answer
    c.put_both.ensures.holds

pub first_octet-requires : goal.first_octet-requires
first_octet-requires c = (layout.fits _ _ (sym c.fit_signalling.ensures ∙ c.in_ok-fit_signalling.was)).within

pub pairs_of-pairs-requires : goal.pairs_of-pairs-requires
pairs_of-pairs-requires c = (layout.fits _ _ (sym c.fit_signalling.ensures ∙ c.in_ok-fit_signalling.was)).fair

pub returns-clause-answer : goal.returns-clause-answer
returns-clause-answer c = (written (goal.at.returns-clause-answer c).After-put_both).0

pub returns-clause-holds : goal.returns-clause-holds
returns-clause-holds c = (written (goal.at.returns-clause-holds c).After-put_both).1
