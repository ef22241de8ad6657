-- The measure of `printing::field::put_number` is the number.
use Rattle.printing.proofs.field.+put_number.Given as goal

abbrev pub decreases-put_number : goal.decreases-put_number
decreases-put_number l = l.n
