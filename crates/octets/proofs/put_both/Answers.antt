-- `octets::put_both` meets its contract: the tests pass exactly when both runs fit.
use Prim.Native.Nat.{ℕ, ◌+◌, ◌≤◌}
use mathlib.Core.Path.{ap, ◌∙◌}
use mathlib.Core.List.{List, ◌++◌}
use native.Mathlib.Nat.{add_assoc}
use native.Mathlib.Omega.{arith}
use lib.ListN.{length, length-append}
use Rattle.octets.specs.Room.{written}
use Rattle.octets.proofs.Writes as writes
use Rattle.octets.proofs.put_both.Goals as goal

pub returns-then-room-at-clause-answer : goal.returns-then-room-at-clause-answer
returns-then-room-at-clause-answer c = let a = c.args in writes.too_small a.room.now (a.head.now ++ a.body.now) a.at (simp length-append (omega arith))

pub returns-then-left-head-clause-answer : goal.returns-then-left-head-clause-answer
returns-then-left-head-clause-answer c = let a = c.args in writes.too_small a.room.now (a.head.now ++ a.body.now) a.at (simp length-append (omega arith))

pub returns-then-left-head-2-clause-answer : goal.returns-then-left-head-2-clause-answer
returns-then-left-head-2-clause-answer c = let a = c.args in writes.too_small a.room.now (a.head.now ++ a.body.now) a.at (simp length-append (omega arith))

pub returns-clause-answer : goal.returns-clause-answer
returns-clause-answer c = let a = c.args in
    let fits : a.at + length a.head.now + length a.body.now ≤ length a.room.now = omega arith in rw (add_assoc, ← (length-append a.head.now a.body.now))
    (writes.room_for a.room.now (a.head.now ++ a.body.now) a.at (simp length-append (omega arith)))

pub returns-clause-holds : goal.returns-clause-holds
returns-clause-holds c = let a = c.args in
    let first = writes.copied a.room.now a.head.now c.copy_from_slice.new.self a.at _ (omega arith) (omega arith) c.copy_from_slice.ensures.after in
    let same = writes.as_long a.room.now a.head.now _ a.at (omega arith) first in
    let second = writes.copied _ a.body.now c.copy_from_slice-2.new.self (a.at + length a.head.now) _ (omega arith) (omega arith) c.copy_from_slice-2.ensures.after in
    second
    ∙ ap (λ (l : List ℕ). written l (a.at + length a.head.now) a.body.now) first
    ∙ writes.written_twice a.room.now a.head.now a.body.now a.at (omega arith)
