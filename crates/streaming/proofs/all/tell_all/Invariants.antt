-- `streaming::all::tell_all` is safe: the room of the input keeps its length.
use Rattle.std.proofs.Common.{◌≡◌, length}
use Rattle.streaming.proofs.all.tell_all.Given as goal

abbrev pub invariant-loop : goal.invariant-loop
invariant-loop g l = length l.input ≡ length l.initial.input
