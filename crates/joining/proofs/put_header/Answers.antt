-- `joining::put_header` meets its contract: the tests say which refusal or which of the header's four shapes is due, and each
-- shape's octets fit the room.
use mathlib.Core.List.{[], ◌∷◌}
use Prim.Native.Nat.{◌+◌, ◌*◌, ◌/◌, ◌%◌}
use native.Mathlib.Numerals.{add-one, add-two}
use native.Mathlib.Omega.{arith}
use lib.ListN.{length-set}
use Rattle.joining.proofs.HeaderWritten as header
use Rattle.joining.proofs.put_header.Goals as goal
use Rattle.joining.proofs.put_header.Goals.{Else-last, Else-last-2, Then-last, Then-last-2}

-- past the tests the header fits what is left of the room: its four shapes
one :
    (c : Then-last)
    → let a = c.args in
    header.Stored a.room.now ((a.cid % 64) ∷ []) a.at a.cid a.ptype a.last a.len
one c =
    let a = c.args in
    header.stored a.room.now a.at a.cid a.ptype a.last a.len c.if-cid-lt4.false c.if-ptype-gt15.false c.if-room-at.false
    (rw c.header_size.ensures at c.if-room-at-2.false)
    _
    (header.alone _ _ _ _ c.if-octet1a-eq0.true c.if-last.true)

two :
    (c : Else-last)
    → let a = c.args in
    header.Stored a.room.now ((64 + a.cid % 64) ∷ a.len ∷ []) a.at a.cid a.ptype a.last a.len
two c =
    let a = c.args in
    header.stored a.room.now a.at a.cid a.ptype a.last a.len c.if-cid-lt4.false c.if-ptype-gt15.false c.if-room-at.false
    (rw c.header_size.ensures at c.if-room-at-2.false)
    _
    (header.with-1b _ _ _ _ c.if-octet1a-eq0.true c.if-last.false)

two-more :
    (c : Then-last-2)
    → let a = c.args in
    header.Stored a.room.now ((128 + a.cid % 64) ∷ (a.cid / 64 * 64 + a.ptype) ∷ []) a.at a.cid a.ptype a.last a.len
two-more c =
    let a = c.args in
    header.stored a.room.now a.at a.cid a.ptype a.last a.len c.if-cid-lt4.false c.if-ptype-gt15.false c.if-room-at.false
    (rw c.header_size.ensures at c.if-room-at-2.false)
    _
    (header.with-1a _ _ _ _ c.if-octet1a-eq0.false c.if-last-2.true)

three :
    (c : Else-last-2)
    → let a = c.args in
    header.Stored a.room.now ((192 + a.cid % 64) ∷ (a.cid / 64 * 64 + a.ptype) ∷ a.len ∷ []) a.at a.cid a.ptype a.last a.len
three c =
    let a = c.args in
    header.stored a.room.now a.at a.cid a.ptype a.last a.len c.if-cid-lt4.false c.if-ptype-gt15.false c.if-room-at.false
    (rw c.header_size.ensures at c.if-room-at-2.false)
    _
    (header.with-both _ _ _ _ c.if-octet1a-eq0.false c.if-last-2.false)

pub returns-then-cid-lt4-clause-answer : goal.returns-then-cid-lt4-clause-answer
returns-then-cid-lt4-clause-answer c = header.reserved _ _ _ _ _ c.if-cid-lt4.true

pub returns-then-ptype-gt15-clause-answer : goal.returns-then-ptype-gt15-clause-answer
returns-then-ptype-gt15-clause-answer c = header.beyond _ _ _ _ _ c.if-cid-lt4.false c.if-ptype-gt15.true

pub returns-then-room-at-clause-answer : goal.returns-then-room-at-clause-answer
returns-then-room-at-clause-answer c = let a = c.args in
    let some = header.some-room a.cid a.ptype a.last in header.small _ _ _ _ _ c.if-cid-lt4.false c.if-ptype-gt15.false (omega arith)

pub returns-then-room-at-2-clause-answer : goal.returns-then-room-at-2-clause-answer
returns-then-room-at-2-clause-answer c = header.small _ _ _ _ _ c.if-cid-lt4.false c.if-ptype-gt15.false
    (rw c.header_size.ensures at c.if-room-at-2.true)

pub bounds-room-at : goal.bounds-room-at
bounds-room-at c = omega (arith, (one (goal.at.bounds-room-at c).Then-last).within)

pub returns-then-last-clause-answer : goal.returns-then-last-clause-answer
returns-then-last-clause-answer c = (one (goal.at.returns-then-last-clause-answer c).Then-last).answer

pub returns-then-last-clause-holds : goal.returns-then-last-clause-holds
returns-then-last-clause-holds c = (one (goal.at.returns-then-last-clause-holds c).Then-last).holds

pub bounds-room-at-then-octet1a-eq0 : goal.bounds-room-at-then-octet1a-eq0
bounds-room-at-then-octet1a-eq0 c = omega (arith, (two (goal.at.bounds-room-at-then-octet1a-eq0 c).Else-last).within)

pub bounds-room-at-then-octet1a-eq0-2 : goal.bounds-room-at-then-octet1a-eq0-2
bounds-room-at-then-octet1a-eq0-2 c = simp length-set (omega (arith, (two (goal.at.bounds-room-at-then-octet1a-eq0-2 c).Else-last).within))

pub returns-then-octet1a-eq0-clause-answer : goal.returns-then-octet1a-eq0-clause-answer
returns-then-octet1a-eq0-clause-answer c = (two (goal.at.returns-then-octet1a-eq0-clause-answer c).Else-last).answer

pub returns-then-octet1a-eq0-clause-holds : goal.returns-then-octet1a-eq0-clause-holds
returns-then-octet1a-eq0-clause-holds c = rw (add-one _) (two (goal.at.returns-then-octet1a-eq0-clause-holds c).Else-last).holds

pub bounds-room-at-then-last-2 : goal.bounds-room-at-then-last-2
bounds-room-at-then-last-2 c = omega (arith, (two-more (goal.at.bounds-room-at-then-last-2 c).Then-last-2).within)

pub bounds-room-at-then-last-2-2 : goal.bounds-room-at-then-last-2-2
bounds-room-at-then-last-2-2 c = simp length-set (omega (arith, (two-more (goal.at.bounds-room-at-then-last-2-2 c).Then-last-2).within))

pub returns-then-last-2-clause-answer : goal.returns-then-last-2-clause-answer
returns-then-last-2-clause-answer c = (two-more (goal.at.returns-then-last-2-clause-answer c).Then-last-2).answer

pub returns-then-last-2-clause-holds : goal.returns-then-last-2-clause-holds
returns-then-last-2-clause-holds c = rw (add-one _) (two-more (goal.at.returns-then-last-2-clause-holds c).Then-last-2).holds

pub bounds-room-at-2 : goal.bounds-room-at-2
bounds-room-at-2 c = omega (arith, (three (goal.at.bounds-room-at-2 c).Else-last-2).within)

pub bounds-room-at-3 : goal.bounds-room-at-3
bounds-room-at-3 c = simp length-set (omega (arith, (three (goal.at.bounds-room-at-3 c).Else-last-2).within))

pub bounds-room-at-4 : goal.bounds-room-at-4
bounds-room-at-4 c = simp length-set (omega (arith, (three (goal.at.bounds-room-at-4 c).Else-last-2).within))

pub returns-clause-answer : goal.returns-clause-answer
returns-clause-answer c = (three (goal.at.returns-clause-answer c).Else-last-2).answer

pub returns-clause-holds : goal.returns-clause-holds
returns-clause-holds c = rw (add-one _, add-two _) (three (goal.at.returns-clause-holds c).Else-last-2).holds
