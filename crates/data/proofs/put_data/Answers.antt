-- `data::put_data` meets its contract: what fits is made, and its two front octets and its body are put.
use mathlib.Core.Path.{◌≡◌, sym, ap, ◌∙◌}
use mathlib.Core.List.{List, ◌++◌}
use Prim.Native.Nat.{ℕ}
use Rattle.octets.specs.Made.{made, put_made, left_made}
use Rattle.octets.proofs.MadeBack as back
use Rattle.data.specs.Data.{data_made}
use Rattle.data.proofs.DataCases as cases
use Rattle.data.proofs.put_data.Goals as goal
use Rattle.data.proofs.put_data.Goals.{After-put_both}

written : (c : After-put_both) → let a = c.args in
    let m = data_made a.begins a.ends a.sequence.0 a.body.now in
    (c.put_both.result ≡ put_made a.room.now a.at m) × (c.put_both.new.room ≡ left_made a.room.now a.at m)
written c =
    let a = c.args in
    let f = cases.fits a.begins a.ends _ _ _ (sym (c.fit_data.ensures a.begins a.ends) ∙ c.in_ok-fit_data.was) in
    back.written-made a.room.now a.at _ _ _ _
    (cases.made-right a.begins a.ends _ _ f.0 f.1 ∙ ap (λ (head : List ℕ). made (head ++ a.body.now)) (sym c.front-head.ensures))
    c.put_both.ensures.answer
    c.put_both.ensures.holds

pub front-head-requires : goal.front-head-requires
front-head-requires c = let a = c.args in (cases.fits a.begins a.ends _ _ _ (sym (c.fit_data.ensures a.begins a.ends) ∙ c.in_ok-fit_data.was)).1

pub returns-clause-answer : goal.returns-clause-answer
returns-clause-answer c = (written (goal.at.returns-clause-answer c).After-put_both).0

pub returns-clause-holds : goal.returns-clause-holds
returns-clause-holds c = (written (goal.at.returns-clause-holds c).After-put_both).1
