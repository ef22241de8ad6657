-- `console::hex::decode` meets its contract: each turn makes one octet of two characters, or stops.
use Rattle.std.proofs.Common.{arith, [], ◌≡◌, ◌∙◌, ◌+◌, ◌*◌, drop, sym, ap}
use Rattle.console.specs.Hex.{digit, leading}
use Rattle.console.proofs.Decoding as decoding
use Rattle.console.proofs.hex.decode.Goals as goal
use Rattle.console.proofs.hex.decode.Goals.{After-from_residual, After-from_residual-in_err-low, After-loop-n}

no-high : (c : After-from_residual) → leading (drop (c.args.from + c.loop-n.n * 2) c.args.text.now) ≡ []
no-high c = decoding.no_high c.args.text.now (c.args.from + c.loop-n.n * 2) (omega arith) (sym (c.digit.ensures ∙ ap digit c.octet.ensures) ∙ c.in_err-high.was)

pub returns-in_err-high-clause-says : goal.returns-in_err-high-clause-says
returns-in_err-high-clause-says c = c.from_residual.ensures ∙ decoding.stopped c.loop-n.invariant (no-high c) (omega arith)

pub returns-in_err-high-clause-holds : goal.returns-in_err-high-clause-holds
returns-in_err-high-clause-holds c = decoding.holds c.loop-n.invariant (no-high c)

no-low : (c : After-from_residual-in_err-low) → leading (drop (c.args.from + c.loop-n.n * 2) c.args.text.now) ≡ []
no-low c = decoding.no_low c.args.text.now (c.args.from + c.loop-n.n * 2) (omega arith) (sym (c.digit-in-loop-n.ensures ∙ ap digit c.octet-in-loop-n.ensures) ∙ c.in_err-low.was)

pub returns-in_err-low-clause-says : goal.returns-in_err-low-clause-says
returns-in_err-low-clause-says c = c.from_residual-in_err-low.ensures ∙ decoding.stopped c.loop-n.invariant (no-low c) (omega arith)

pub returns-in_err-low-clause-holds : goal.returns-in_err-low-clause-holds
returns-in_err-low-clause-holds c = decoding.holds c.loop-n.invariant (no-low c)

pub loop-n-preserved : goal.loop-n-preserved
loop-n-preserved c =
    let text = c.args.text.now in
    let at = c.args.from + c.loop-n.n * 2 in
    let high = sym (c.digit.ensures ∙ ap digit c.octet.ensures) ∙ c.in_ok-high.was in
    let low = sym (c.digit-in-loop-n.ensures ∙ ap digit c.octet-in-loop-n.ensures) ∙ c.in_ok-low.was in
    let on : at + 2 ≡ c.args.from + (c.loop-n.n + 1) * 2 = omega arith in
    rw on at (decoding.turn c.loop-n.invariant (decoding.follows text at (omega arith) high low) (decoding.within text at (omega arith) high low) (omega arith) (omega arith))

at-end : (c : After-loop-n) → leading (drop (c.args.from + c.loop-n.n * 2) c.args.text.now) ≡ []
at-end c = decoding.at_end c.args.text.now (c.args.from + c.loop-n.n * 2) (omega arith)

pub returns-clause-says : goal.returns-clause-says
returns-clause-says c =
    let same : c.loop-n.n ≡ c.div_ceil-pairs.result = omega arith in
    rw same at (decoding.all c.loop-n.invariant (at-end c) (omega arith))

pub returns-clause-holds : goal.returns-clause-holds
returns-clause-holds c = decoding.holds c.loop-n.invariant (at-end c)
