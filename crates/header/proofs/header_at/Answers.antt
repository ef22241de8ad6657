-- `header::header_at` meets its contract: at each return the tests that led there say which case of `told` holds.
use mathlib.Core.Path.{sym, ap, ◌∙◌}
use Prim.Native.Nat.{◌≤◌}
use lib.ListN.{length}
use native.Mathlib.Omega.{arith}
use Rattle.std.specs.declared.result.Result.TheVariants.{Err}
use Rattle.std.proofs.lemmas.Result.{err_from_is_err_and}
use Rattle.header.proofs.HeaderCases as cases
use Rattle.header.proofs.HeaderRead as header
use Rattle.header.proofs.header_at.Goals as goal
use Rattle.header.proofs.header_at.Goals.{After-cid_of-cid, then-octet1-gt127+else-frame-next, else-octet1-gt127}

-- octet 1a was read, or is not there
way : (c : After-cid_of-cid) → header.Way c.args.frame.now c.args.at c.if-octet1-gt127.octet1a c.if-octet1-gt127.next
way c =
    let a = c.args in
    elim c.if-octet1-gt127.branch [
      | then-octet1-gt127+else-frame-next w ↦ header.with-1a a.frame.now a.at w.if-octet1-gt127.true (omega (arith, c.type_inv.frame a.at)) w.octet1a-is w.next-is
      | else-octet1-gt127 w ↦ header.without-1a a.frame.now a.at w.if-octet1-gt127.false w.octet1a-is w.next-is
    ]

within : (c : After-cid_of-cid) → c.if-octet1-gt127.next ≤ length c.args.frame.now
within c =
    elim c.if-octet1-gt127.branch [
      | then-octet1-gt127+else-frame-next w ↦ omega (arith, w.if-frame-next.false, w.next-is)
      | else-octet1-gt127 w ↦ omega (arith, w.next-is, c.if-frame-at.false)
    ]

begun :
    (c : After-cid_of-cid)
    → header.Begun c.args.frame.now c.args.at c.if-octet1-gt127.octet1a c.if-octet1-gt127.next c.cid_of-cid.result
begun c = record { here = c.if-frame-at.false; way = way c; cid-is = c.cid_of-cid.ensures }

pub returns-then-frame-at : goal.returns-then-frame-at
returns-then-frame-at c = let a = c.args in sym (cases.nothing a.frame.now a.at c.if-frame-at.true)

pub returns-then-frame-next : goal.returns-then-frame-next
returns-then-frame-next c = let a = c.args in
    header.no-1a a.frame.now a.at c.if-octet1-gt127.true c.if-frame-at.false c.if-frame-next.true

pub returns-in_err-unless_reserved : goal.returns-in_err-unless_reserved
returns-in_err-unless_reserved c = let d = (goal.at.returns-in_err-unless_reserved c).After-cid_of-cid in
    let p = err_from_is_err_and c.from_residual.result c.from_residual.ensures.1 in
    p.1 ∙ ap Err p.2
    ∙ header.last-refused (begun d) (within d) c.if-octet1-eq0.true _ (sym c.unless_reserved.ensures ∙ c.in_err-unless_reserved.was)

pub returns-then-octet1-eq0 : goal.returns-then-octet1-eq0
returns-then-octet1-eq0 c = let d = (goal.at.returns-then-octet1-eq0 c).After-cid_of-cid in
    header.last_one (begun d) (within d) c.if-octet1-eq0.true _ (sym c.unless_reserved.ensures ∙ c.in_ok-unless_reserved.was)

pub returns-then-left-eq0 : goal.returns-then-left-eq0
returns-then-left-eq0 c = let d = (goal.at.returns-then-left-eq0 c).After-cid_of-cid in
    header.cut (begun d) c.if-octet1-eq0.false c.if-left-eq0.true

pub returns-in_err-sub : goal.returns-in_err-sub
returns-in_err-sub c = let d = (goal.at.returns-in_err-sub c).After-cid_of-cid in
    let p = err_from_is_err_and c.from_residual-in_err-sub.result c.from_residual-in_err-sub.ensures.1 in
    p.1 ∙ ap Err p.2
    ∙ header.more-refused (begun d) c.if-octet1-eq0.false c.if-left-eq0.false _ (sym c.unless_reserved-2.ensures ∙ c.in_err-sub.was)

pub returns-then-len-rest : goal.returns-then-len-rest
returns-then-len-rest c = let d = (goal.at.returns-then-len-rest c).After-cid_of-cid in
    header.another (begun d) c.if-octet1-eq0.false c.if-left-eq0.false _ (sym c.unless_reserved-2.ensures ∙ c.in_ok-sub.was) c.if-len-rest.true

pub returns-then-rest-len : goal.returns-then-rest-len
returns-then-rest-len c = let d = (goal.at.returns-then-rest-len c).After-cid_of-cid in
    header.past (begun d) c.if-octet1-eq0.false c.if-left-eq0.false _ (sym c.unless_reserved-2.ensures ∙ c.in_ok-sub.was) c.if-rest-len.true

pub returns : goal.returns
returns c = let d = (goal.at.returns c).After-cid_of-cid in
    header.ends (begun d) c.if-octet1-eq0.false c.if-left-eq0.false _ (sym c.unless_reserved-2.ensures ∙ c.in_ok-sub.was) c.if-rest-len.false
    c.if-len-rest.false
