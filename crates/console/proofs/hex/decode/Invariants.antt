-- Each turn makes one octet of two characters, or stops.
use Rattle.std.proofs.Common.{◌+◌, ◌*◌}
use Rattle.console.proofs.Decoding as decoding
use Rattle.console.proofs.hex.decode.Given as goal

abbrev pub invariant-loop-n : goal.invariant-loop-n
invariant-loop-n l = decoding.Going l.text l.initial.room l.room l.from (l.from + l.n * 2) l.n
