-- `printing::field::put_small` meets its contract: one to four digits.
use native.Mathlib.Omega.{arith}
use Rattle.printing.proofs.Appending as appending
use Rattle.printing.proofs.Spelling as spelling
use Rattle.printing.proofs.field.put_small.Goals as goal

pub returns-then-n-lt10 : goal.returns-then-n-lt10
returns-then-n-lt10 c = appending.reads (appending.within c.put_octet.ensures 4 (omega arith)) (spelling.one-digit c.args.n c.if-n-lt10.true)

pub returns-then-n-lt100 : goal.returns-then-n-lt100
returns-then-n-lt100 c = let two = appending.then c.put_octet-ones.ensures c.put_octet-then-n-lt100.ensures (omega arith) in
    appending.reads (appending.within two 4 (omega arith)) (spelling.two_digits c.args.n c.if-n-lt10.false c.if-n-lt100.true)

pub returns-then-n-lt1000 : goal.returns-then-n-lt1000
returns-then-n-lt1000 c = let two = appending.then c.put_octet-tens.ensures c.put_octet-ones-then-n-lt1000.ensures (omega arith) in
    let three = appending.then two c.put_octet-then-n-lt1000.ensures (omega arith) in
    appending.reads (appending.within three 4 (omega arith)) (spelling.three-digits c.args.n c.if-n-lt100.false c.if-n-lt1000.true)

pub returns : goal.returns
returns c = appending.reads c.put_four_digits.ensures (spelling.four-digits c.args.n c.if-n-lt1000.false c.requires.n_bound)
