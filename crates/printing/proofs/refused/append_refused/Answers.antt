-- `printing::refused::append_refused` meets its contract: three fields, one behind the other.
use native.Mathlib.Omega.{arith}
use Rattle.printing.proofs.Appending as appending
use Rattle.printing.specs.Refused.{refused_listing}
use Rattle.printing.proofs.refused.append_refused.Goals as goal

pub returns : goal.returns
unfolding refused_listing
returns c = let two = appending.then c.append_field-past_frame.ensures c.append_field-past_number.ensures (omega (arith, c.requires)) in
    appending.then two c.append_field.ensures (omega (arith, c.requires))
