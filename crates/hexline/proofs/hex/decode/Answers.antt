-- `hexline::hex::decode` meets its contract: each turn makes one octet of two characters.
use Rattle.hexline.proofs.Decoding as decoding
use Rattle.hexline.proofs.hex.decode.Goals as goal

pub octet_of-requires-clause-both_bound : goal.octet_of-requires-clause-both_bound
octet_of-requires-clause-both_bound c = decoding.first c.loop-i.invariant c.requires.chars_value c.requires.chars_in_bounds c.loop-i-test.true c.double.ensures

pub octet_of-requires-clause-both_bound_2 : goal.octet_of-requires-clause-both_bound_2
octet_of-requires-clause-both_bound_2 c = decoding.second c.loop-i.invariant c.requires.chars_value c.requires.chars_in_bounds c.loop-i-test.true c.double.ensures

pub loop-i-preserved : goal.loop-i-preserved
loop-i-preserved c = decoding.turn c.loop-i.invariant c.requires.chars_value c.requires.chars_in_bounds c.loop-i-test.true c.double.ensures c.octet_of.ensures

pub returns : goal.returns
returns c = decoding.done c.loop-i.invariant c.requires.chars_value c.requires.chars_in_bounds c.loop-i-test.false
