-- The header of a sub-frame, read (document 01, "Frame and sub-frame" and refusals 3 to 7; FRF.11, Figure 3-2).
--
--             bit 8   7   6   5   4   3   2   1
--   octet 1       EI  LI  CID, its low six bits
--   octet 1a      CID     0   0   payload type      exactly when EI is 1: the high bits of the CID, two spare bits, the type
--   octet 1b      payload length                    exactly when LI is 1
--   payload
use Rattle.std.specs.Prelude.{ℕ, ◌+◌, ◌-◌, ◌*◌, ◌/◌, ◌%◌, ◌≡◌, List, [], ◌∷◌, Bool, false, cond, ltb, eqb, length, get_or, drop, Option, Some, None, Result, Ok, Err}
use Rattle.refusal.specs.Order.{◌gives◌, in_order}
use Rattle.header.specs.declared.SubFrame.{SubFrame}
use Rattle.refusal.specs.declared.Refusal.{Refusal}
use Rattle.refusal.specs.declared.Refusal.TheVariants.{HeaderCut, CidReserved, SpareBitSet, LengthPastField, LastWithLength}

-- Octet 1: bit 8 EI, bit 7 LI, bits 6 to 1 the low six bits of the CID.
abbrev pub ei : ℕ → ℕ
ei octet1 = octet1 / 128

abbrev pub li : ℕ → ℕ
li octet1 = octet1 / 64 % 2

abbrev pub low_bits : ℕ → ℕ
low_bits octet1 = octet1 % 64

-- Octet 1a: bits 8 and 7 the high bits of the CID, bits 6 and 5 spare, bits 4 to 1 the payload type.
abbrev pub high_bits : ℕ → ℕ
high_bits octet1a = octet1a / 64

abbrev pub spare : ℕ → ℕ
spare octet1a = octet1a / 16 % 4

abbrev pub payload_type : ℕ → ℕ
payload_type octet1a = octet1a % 16

-- the octets of a header that begins with octet 1
abbrev pub size : ℕ → ℕ
size octet1 = 1 + ei octet1 + li octet1

-- The octets from a sub-frame's first octet to the end of the field are f.
abbrev pub octet1 : List ℕ → ℕ
octet1 f = get_or f 0 0

-- "Without it both are 0."
abbrev pub octet1a : List ℕ → ℕ
octet1a f = cond (eqb (ei (octet1 f)) 0) 0 (get_or f 1 0)

abbrev pub octet1b : List ℕ → ℕ
octet1b f = get_or f (ei (octet1 f) + li (octet1 f)) 0

abbrev pub cid_of : ℕ → ℕ → ℕ
cid_of o a = high_bits a * 64 + low_bits o

-- "LI is 1 on all sub-frames but the last."
abbrev pub is_last : ℕ → Bool
is_last o = eqb (li o) 0

-- The sub-frame that the octets o, a and b of a header tell, with n octets from its first one on, which stands at `at`: "the
-- last payload is all that remains".
abbrev pub sub_of : ℕ → ℕ → ℕ → ℕ → ℕ → SubFrame
sub_of at o a b n =
    record {
      cid = cid_of o a;
      ptype = payload_type a;
      start = at + size o;
      len = cond (is_last o) (n - size o) b;
      last = is_last o;
    }

-- where a sub-frame ends
abbrev pub end_of : SubFrame → ℕ
end_of sub = sub.start + sub.len

-- a test that is for all sub-frames but some
infix 85 ◌unless◌
abbrev pub ◌unless◌ : Bool → Bool → Bool
test unless exempt = cond exempt false test

-- What these octets tell: the refusals in the order 3, 4, 5, 6, 7, or the sub-frame.
unfoldable pub told : ℕ → ℕ → ℕ → ℕ → ℕ → Result (Option SubFrame) Refusal
told at o a b n =
    in_order
    (ltb n (size o) gives HeaderCut
    ∷ ltb (cid_of o a) 4 gives CidReserved
    ∷ ltb 0 (spare a) gives SpareBitSet
    ∷ ltb (n - size o) b unless is_last o gives LengthPastField
    ∷ eqb (n - size o) b unless is_last o gives LastWithLength
    ∷ [])
    Err
    (Ok (Some (sub_of at o a b n)))

-- The header whose first octet stands at `at` in the frame s.
unfoldable pub header_at : List ℕ → ℕ → Result (Option SubFrame) Refusal
header_at s at =
    let f = drop at s in
    cond (ltb at (length s)) (told at (octet1 f) (octet1a f) (octet1b f) (length f)) (Ok None)

-- no sub-frame
abbrev pub unused : SubFrame
unused = record { cid = 0; ptype = 0; start = 0; len = 0; last = false }

-- The sub-frame whose header stands at `at`, where headers are known to be sound: what `header_at` tells, without its tests. An
-- octet past the end is 0.
unfoldable pub sub_at : List ℕ → ℕ → SubFrame
sub_at s at =
    let f = drop at s in
    cond (ltb at (length s)) (sub_of at (octet1 f) (octet1a f) (octet1b f) (length f)) unused

-- Where `header_at` tells a sub-frame, it is that one. Proved in proofs/HeaderInverse.antt.
abbrev pub SubAtTells : Type 0
SubAtTells = (s : List ℕ) (at : ℕ) (sub : SubFrame) → header_at s at ≡ Ok (Some sub) → sub_at s at ≡ sub
