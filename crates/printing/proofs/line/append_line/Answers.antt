-- `printing::line::append_line` meets its contract: the text, LF.
use Rattle.printing.proofs.Appending as appending
use Rattle.printing.proofs.line.append_line.Goals as goal

pub returns : goal.returns
returns c = let start = c.before in
    appending.put-line start.args.text.now start.requires c.put_text-end.ensures c.put_octet.ensures
