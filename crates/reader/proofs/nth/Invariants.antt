-- `reader::nth` meets its contract: what stands after n others is what is found after the steps that are left.
use mathlib.Core.Path.{◌≡◌}
use Prim.Native.Nat.{◌-◌}
use Rattle.reader.specs.Reading.{nth_of}
use Rattle.reader.proofs.Yields.{ahead}
use Rattle.reader.proofs.nth.Given as goal

abbrev pub invariant-loop : goal.invariant-loop
invariant-loop l = ahead (l.n - l.counter) l.found l.reader ≡ nth_of l.frame l.n
