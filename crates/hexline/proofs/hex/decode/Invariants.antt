-- `hexline::hex::decode` meets its contract: each turn makes one octet of two characters.
use Rattle.std.proofs.Common.{◌/◌, length}
use Rattle.hexline.proofs.Decoding as decoding
use Rattle.hexline.proofs.hex.decode.Given as goal

abbrev pub invariant-loop-i : goal.invariant-loop-i
invariant-loop-i l = decoding.Going l.chars l.initial.frame l.frame (length l.chars / 2) l.i
