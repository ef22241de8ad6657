-- `seizing::ten_allowed` meets its contract.
use mathlib.Core.Path.{◌∙◌}
use Rattle.std.proofs.Common.{rules, tests}
use Rattle.std.proofs.lemmas.Iterator.{YieldsList-from_slice}
use Rattle.std.proofs.lemmas.Iterator.Search.{all_from_yields_List}
use Rattle.signalling.specs.Layout.{allowed}
use Rattle.signalling.proofs.Samples.{listed, allowed-looks}
use Rattle.seizing.proofs.ten_allowed.Goals as goal

pub returns : goal.returns
returns c =
    let samples = c.args.samples in
    all_from_yields_List allowed _ _ _ c.all.ensures.ran (YieldsList-from_slice samples (cc)) (λ x b q k. search (rules, tests))
    ∙ listed allowed samples _ (allowed-looks samples) 10 0 (search rules)
