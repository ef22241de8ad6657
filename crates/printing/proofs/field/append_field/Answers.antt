-- `printing::field::append_field` meets its contract: the name, the digits, LF.
use Rattle.printing.proofs.Appending as appending
use Rattle.printing.proofs.field.append_field.Goals as goal

pub returns : goal.returns
returns c = let start = c in
    appending.put-field start.args.key.now start.args.n start.requires c.put_text-value.ensures c.put_number-end.ensures c.put_octet.ensures
