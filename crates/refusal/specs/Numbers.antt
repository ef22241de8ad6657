-- The refusal numbers of document 01, "Refusal numbers", and those of document 02 (18, 19, 41 to 49), each with its words.
use Rattle.std.specs.Prelude.{ℕ}
use Rattle.refusal.specs.declared.Refusal.{Refusal}
use Rattle.refusal.specs.declared.Refusal.TheVariants.{FieldEmpty, FieldTooLong, HeaderCut, CidReserved, SpareBitSet, LengthPastField, LastWithLength, TooManySubFrames, HexMalformed, NotProvisioned, TypeNotAllowed, LengthWrong, ReservedCode, ValueOutOfRange, CodingTypeUnknown, EdgeWithoutChange, StateNotAllowed, OlderPayload, RoomTooSmall, TooLongNotLast, FrameFull, AlreadyLast, LineMalformed, ValueNotListed, CidNotRising, TextTooLong, NoModulation, AgainstModulation, SizeOutOfRange, FragmentOutOfPlace, CodingNotConverted, RunTooLong, NothingKept, SyntaxOutsideProfile, MOutsideProfile}

-- no refusal
abbrev pub sound : ℕ
sound = 0

abbrev pub number : Refusal → ℕ
-- field empty
number FieldEmpty = 1
-- field over 1,600 octets
number FieldTooLong = 2
-- octet 1a or 1b missing
number HeaderCut = 3
-- CID 0 to 3
number CidReserved = 4
-- a spare bit set
number SpareBitSet = 5
-- length exceeds the octets left
number LengthPastField = 6
-- LI set, payload ends the field
number LastWithLength = 7
-- a 65th sub-frame begins
number TooManySubFrames = 8
-- listing: hex line malformed
number HexMalformed = 9
-- CID not provisioned
number NotProvisioned = 11
-- payload type not allowed there
number TypeNotAllowed = 12
-- payload length wrong
number LengthWrong = 13
-- reserved bit or code
number ReservedCode = 14
-- value out of range
number ValueOutOfRange = 15
-- coding type not in its table, or not 0 under E, H, I
number CodingTypeUnknown = 16
-- sender: edge not 0 without a change
number EdgeWithoutChange = 17
-- a sample or start value breaks the rule of its number of states (wish 4)
number StateNotAllowed = 18
-- older payload (wish 3)
number OlderPayload = 19
-- writer: lent room too small
number RoomTooSmall = 21
-- writer: over 255 octets and not last
number TooLongNotLast = 22
-- writer: frame would pass 1,600 octets or 64 sub-frames
number FrameFull = 23
-- writer: last sub-frame already written
number AlreadyLast = 24
-- provisioning: wrong key, malformed number or missing LF
number LineMalformed = 31
-- provisioning: value not listed
number ValueNotListed = 32
-- provisioning: CID not above the one before
number CidNotRising = 33
-- provisioning: over 8,192 octets
number TextTooLong = 34
-- fax data, end-of-frame or abort while no modulation is on (wish 1)
number NoModulation = 41
-- fax data length against the modulation, or end-of-frame or abort without HDLC (wish 1)
number AgainstModulation = 42
-- data frame empty or over 4,096 octets, or fragment size out of range (wish 5)
number SizeOutOfRange = 43
-- fragment without B where no frame is in hand or a number is missing (wish 5)
number FragmentOutOfPlace = 44
-- a coding type other than 6 to 9 (wish 9)
number CodingNotConverted = 45
-- a run over 64,000 octets (wish 12)
number RunTooLong = 46
-- no sub-frame can be kept (wish 13)
number NothingKept = 47
-- syntax outside the profile (wish 14)
number SyntaxOutsideProfile = 48
-- acelp's m other than 2 and missing from either list (wish 14)
number MOutsideProfile = 49
