-- `header::sub_at` meets its contract.
use mathlib.Core.Path.{◌∙◌}
use native.Mathlib.Omega.{arith}
use Rattle.header.proofs.HeaderRead as header
use Rattle.header.proofs.sub_at.Goals as goal
use Rattle.header.proofs.sub_at.Goals.{After-cid_of-cid, then-octet1-gt127, else-octet1-gt127}

begun :
    (c : After-cid_of-cid)
    → header.Begun c.args.frame.now c.args.at c.if-octet1-gt127.octet1a c.if-octet1-gt127.next c.cid_of-cid.result
begun c =
    let a = c.args in
    record {
      here = c.if-frame-at.false;
      way =
          elim c.if-octet1-gt127.branch [
            | then-octet1-gt127 w ↦ header.with-1a a.frame.now a.at w.if-octet1-gt127.true (omega (arith, c.type_inv.frame a.at)) (w.octet1a-is ∙ w.octet-octet1a.ensures) w.next-is
            | else-octet1-gt127 w ↦ header.without-1a a.frame.now a.at w.if-octet1-gt127.false w.octet1a-is w.next-is
          ];
      cid-is = c.cid_of-cid.ensures;
    }

pub returns-then-frame-at : goal.returns-then-frame-at
returns-then-frame-at c = let a = c.args in header.none-there a.frame.now a.at c.if-frame-at.true

pub returns-then-octet1-eq0 : goal.returns-then-octet1-eq0
returns-then-octet1-eq0 c = header.at_last (begun (goal.at.returns-then-octet1-eq0 c).After-cid_of-cid) c.if-octet1-eq0.true c.saturating_sub.ensures

pub returns : goal.returns
returns c = header.at_more (begun (goal.at.returns c).After-cid_of-cid) c.if-octet1-eq0.false (c.wide.ensures ∙ c.octet.ensures)
