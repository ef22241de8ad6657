-- `printing::field::put_number` meets its contract: the digits before the last four, by itself, and these.
use native.Mathlib.Omega.{arith}
use Rattle.printing.proofs.Appending as appending
use Rattle.printing.proofs.Spelling as spelling
use Rattle.printing.proofs.field.+put_number.Goals as goal

pub put_four_digits-requires-clause-at_in_bounds : goal.put_four_digits-requires-clause-at_in_bounds
put_four_digits-requires-clause-at_in_bounds t c =
    let first = c.put_number-next.ensures in
    omega (arith, first.ends, spelling.leading-size c.args.n c.ranges.n.fits, c.requires, appending.same_length first c.requires)

pub returns : goal.returns
returns t c =
    let n = c.args.n in
    let fits = c.ranges.n.fits in
    let first = appending.tighter c.put_number-next.ensures 16 (spelling.leading-size n fits) in
    appending.reads (appending.then first c.put_four_digits.ensures (omega (arith, c.requires)))
    (spelling.many-digits n c.if-n-lt10000.false fits)
