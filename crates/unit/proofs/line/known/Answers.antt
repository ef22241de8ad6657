-- `unit::line::known` is safe: a key is a part of its line.
use Rattle.std.proofs.Common.{rules, ◌≤◌, length}
use Rattle.console.proofs.Keys.{within}
use Rattle.unit.proofs.line.known.Goals as goal

pub slice_bounds-kind_of-end : goal.slice_bounds-kind_of-end
slice_bounds-kind_of-end c =
    let part : c.size-at.result ≤ length c.args.text.now = rw c.size-at.ensures (within c.args.text.now) in
    search rules
