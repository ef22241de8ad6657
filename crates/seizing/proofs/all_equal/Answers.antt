-- `seizing::all_equal` meets its contract.
use Prim.Native.Nat.{ℕ}
use mathlib.Core.Path.{refl, ◌∙◌}
use mathlib.Core.List.{List}
use lib.Dec.{eqb}
use lib.ListN.{get_or}
use Rattle.std.proofs.Common.{rules, tests}
use Rattle.std.proofs.lemmas.Iterator.{YieldsList-from_slice}
use Rattle.std.proofs.lemmas.Iterator.Search.{all_from_yields_List}
use Rattle.signalling.proofs.Samples.{Looks, listed}
use Rattle.seizing.specs.Sender.{all_equal}
use Rattle.seizing.proofs.all_equal.Goals as goal

equal-looks : (sample : ℕ) (samples : List ℕ) → Looks (λ (i : ℕ). eqb sample (get_or samples i 0)) (λ (n i : ℕ). all_equal sample n i samples)
unfolding all_equal
equal-looks sample samples = record { none = λ i. refl; more = λ n i. refl }

pub returns : goal.returns
returns c =
    let a = c.args in
    all_from_yields_List (eqb a.sample) _ _ _ c.all.ensures.ran (YieldsList-from_slice a.samples (cc)) (λ x b q k. search (rules, tests))
    ∙ listed (eqb a.sample) a.samples _ (equal-looks a.sample a.samples) 10 0 (search rules)
