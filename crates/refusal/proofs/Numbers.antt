-- No refusal has the number 0.
use mathlib.Core.Path.{◌≡◌}
use native.Mathlib.Omega.{arith}
use Rattle.refusal.specs.declared.Refusal.{Refusal}
use Rattle.refusal.specs.declared.Refusal.TheVariants.{FieldEmpty, FieldTooLong, HeaderCut, CidReserved, SpareBitSet, LengthPastField, LastWithLength, TooManySubFrames, HexMalformed, NotProvisioned, TypeNotAllowed, LengthWrong, ReservedCode, ValueOutOfRange, CodingTypeUnknown, EdgeWithoutChange, StateNotAllowed, OlderPayload, RoomTooSmall, TooLongNotLast, FrameFull, AlreadyLast, LineMalformed, ValueNotListed, CidNotRising, TextTooLong, NoModulation, AgainstModulation, SizeOutOfRange, FragmentOutOfPlace, CodingNotConverted, RunTooLong, NothingKept, SyntaxOutsideProfile, MOutsideProfile}
use Rattle.refusal.specs.Numbers.{sound, number}

pub some : (r : Refusal) → number r ≡ sound → ⊥
some FieldEmpty e = omega (arith, e)
some FieldTooLong e = omega (arith, e)
some HeaderCut e = omega (arith, e)
some CidReserved e = omega (arith, e)
some SpareBitSet e = omega (arith, e)
some LengthPastField e = omega (arith, e)
some LastWithLength e = omega (arith, e)
some TooManySubFrames e = omega (arith, e)
some HexMalformed e = omega (arith, e)
some NotProvisioned e = omega (arith, e)
some TypeNotAllowed e = omega (arith, e)
some LengthWrong e = omega (arith, e)
some ReservedCode e = omega (arith, e)
some ValueOutOfRange e = omega (arith, e)
some CodingTypeUnknown e = omega (arith, e)
some EdgeWithoutChange e = omega (arith, e)
some StateNotAllowed e = omega (arith, e)
some OlderPayload e = omega (arith, e)
some RoomTooSmall e = omega (arith, e)
some TooLongNotLast e = omega (arith, e)
some FrameFull e = omega (arith, e)
some AlreadyLast e = omega (arith, e)
some LineMalformed e = omega (arith, e)
some ValueNotListed e = omega (arith, e)
some CidNotRising e = omega (arith, e)
some TextTooLong e = omega (arith, e)
some NoModulation e = omega (arith, e)
some AgainstModulation e = omega (arith, e)
some SizeOutOfRange e = omega (arith, e)
some FragmentOutOfPlace e = omega (arith, e)
some CodingNotConverted e = omega (arith, e)
some RunTooLong e = omega (arith, e)
some NothingKept e = omega (arith, e)
some SyntaxOutsideProfile e = omega (arith, e)
some MOutsideProfile e = omega (arith, e)
