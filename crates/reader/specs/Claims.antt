-- What a frame reader yields. `opened`, `found` and `stepped` are what `open` and `step` answer by their contracts; `opening` is
-- what `frame::open` answers by its contract. Proved in proofs/Yields.antt, proofs/Parts.antt and proofs/OneAnswer.antt.
use Rattle.std.specs.Prelude.{ℕ, zero, suc, ◌+◌, ◌≤◌, ◌≡◌, List, [], ◌∷◌, ◌++◌, map, length, replicate, take, drop, Option, Some, None}
use Rattle.std.specs.Borrow.{Bor}
use Rattle.header.specs.declared.SubFrame.{SubFrame}
use Rattle.header.specs.Header.{end_of}
use Rattle.frame.specs.Opening.{opening}
use Rattle.reader.specs.declared.Reader.{Reader}
use Rattle.reader.specs.Reading.{opened, found, stepped, payload_of, payload_at}

-- What a number of steps finds, in order.
abbrev pub yields : ℕ → Reader → List (Option SubFrame)
yields zero r = []
yields (suc n) r = found r ∷ yields n (stepped r)

-- Stepping through a frame yields exactly the opened list, in order, and then says that there is none, however often it is
-- asked. A refused frame's list is empty.
abbrev pub YieldsTheOpenedList : Type 0
YieldsTheOpenedList =
    (frame : Bor (List ℕ)) (more : ℕ)
    → yields (length (opening frame.now).subs + more) (opened frame)
    ≡ map Some (opening frame.now).subs ++ replicate more None

-- A reader says whether its frame is sound: the first step yields a sub-frame if it is, and else no step yields any.
pub record FirstYields (frame : Bor (List ℕ)) : Type 0 where
  pub sub : SubFrame
  pub is : found (opened frame) ≡ Some sub

pub record SaysSo : Type 0 where
  pub if_sound : (frame : Bor (List ℕ)) → (opening frame.now).refused ≡ None → FirstYields frame
  pub if_refused :
      (frame : Bor (List ℕ)) (steps : ℕ)
      → ((opening frame.now).refused ≡ None → ⊥)
      → yields steps (opened frame) ≡ replicate steps None

-- "payloads as parts of the frame": the payload of a sub-frame that a step yields lies within the frame: its `len` octets
-- from `start` on.
pub record WithinTheFrame (r : Reader) (sub : SubFrame) : Type 0 where
  pub within : end_of sub ≤ length r.frame.now
  pub octets : payload_of r.frame.now sub ≡ take sub.len (drop sub.start r.frame.now)
  pub place : payload_at r.frame.now r.frame.ref_ptr sub ≡ (r.frame.ref_ptr.0, r.frame.ref_ptr.1 + sub.start)

abbrev pub PayloadsArePartsOfTheFrame : Type 0
PayloadsArePartsOfTheFrame = (r : Reader) (sub : SubFrame) → found r ≡ Some sub → WithinTheFrame r sub

-- One answer only: two results that meet a contract for the same arguments are the same, and so are two readers that a step
-- leaves. A reader's frame is the same part of memory, and a payload has the same octets in the same place. That these are the
-- contracts of `open`, `step` and `payload` is shown in proofs/OneAnswer.antt.
abbrev pub IsStep : Reader → Option SubFrame → Reader → Type 0
IsStep r f left = (f ≡ found r) × (left ≡ stepped r)

abbrev pub IsPayload : Reader → SubFrame → Bor (List ℕ) → Type 0
IsPayload r sub x =
    (x.now ≡ payload_of r.frame.now sub) × (x.ref_ptr ≡ payload_at r.frame.now r.frame.ref_ptr sub)

pub record OneAnswer : Type 0 where
  pub open_one : (frame : Bor (List ℕ)) (p q : Reader) → p ≡ opened frame → q ≡ opened frame → p ≡ q
  pub step_one : (r : Reader) (f g : Option SubFrame) (p q : Reader) → IsStep r f p → IsStep r g q → (f ≡ g) × (p ≡ q)
  pub payload_one :
      (r : Reader) (sub : SubFrame) (x y : Bor (List ℕ))
      → IsPayload r sub x
      → IsPayload r sub y
      → (x.now ≡ y.now) × (x.ref_ptr ≡ y.ref_ptr)
