-- `printing::hex::append_hex_field` meets its contract: the name, the digits, LF.
use Rattle.printing.proofs.Appending as appending
use Rattle.printing.proofs.hex.append_hex_field.Goals as goal

pub returns : goal.returns
returns c = let start = c.before in
    appending.put-hex-field start.args.key.now start.args.octets.now start.requires c.put_text-value.ensures c.put_hex-end.ensures c.put_octet.ensures
