-- `printing::field::append_small_field` meets its contract: the name, the digits, LF.
use native.Mathlib.Omega.{arith}
use Rattle.printing.proofs.Appending as appending
use Rattle.printing.proofs.field.append_small_field.Goals as goal

pub returns : goal.returns
returns c = let start = c.before in
    let digits = appending.within c.put_small-end.ensures 20 (omega arith) in
    appending.put-field start.args.key.now start.args.n start.requires.key_in_bounds c.put_text-value.ensures digits c.put_octet.ensures
