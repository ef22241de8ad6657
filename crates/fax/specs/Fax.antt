-- Fax payloads (document 01, "Payload types": fax; FRF.11, Figures D-1 to D-7).
--
--   octet         bit 8   7   6   5   4   3   2   1
--   0, first        EI1   sequence      command
--   1, stamp        its low eight bits                    exactly when EI1 is 1
--   2               EI2   its high seven bits             EI2 is 0
--   3, on          HDLC   0   0   0   modulation          exactly under the command on, which has a stamp
--   4               frequency, its low octet
--   5               frequency, its high octet
--   data octets     as many as the command says
use Rattle.std.specs.Prelude.{ℕ, ◌+◌, ◌-◌, ◌*◌, ◌/◌, ◌%◌, List, [], ◌∷◌, ◌++◌, Bool, false, cond, not, ◌&&◌, ltb, leb, eqb, length, get_or, Option, None, Some, Result, Ok, Err}
use Rattle.refusal.specs.declared.Refusal.{Refusal}
use Rattle.refusal.specs.declared.Refusal.TheVariants.{LengthWrong, ReservedCode, ValueOutOfRange}
use Rattle.refusal.specs.Order.{Test, ◌gives◌, in_order, ◌or◌}
use Rattle.octets.specs.Made.{Made, made, unmade}
use Rattle.fax.specs.declared.Command.{Command}
use Rattle.fax.specs.declared.Command.TheVariants.{Off, On, Page, EndOfFrame, Abort}
use Rattle.fax.specs.declared.Fax.{Fax}

-- The octets in front of the data octets, as they are written.
abbrev pub ei1_for : Option ℕ → ℕ
ei1_for None = 0
ei1_for (Some time) = 1

abbrev pub code_of : Command → ℕ
code_of Off = 0
code_of (On hdlc modulation frequency) = 1
code_of Page = 2
code_of EndOfFrame = 3
code_of Abort = 4

abbrev pub first_octet : ℕ → Option ℕ → Command → ℕ
first_octet sequence stamp command = ei1_for stamp * 128 + sequence * 8 + code_of command

abbrev pub stamp_octets : Option ℕ → List ℕ
stamp_octets None = []
stamp_octets (Some time) = (time % 256) ∷ (time / 256) ∷ []

abbrev pub on_octet : Bool → ℕ → ℕ
on_octet hdlc modulation = cond hdlc 128 0 + modulation

abbrev pub command_octets : Command → List ℕ
command_octets Off = []
command_octets (On hdlc modulation frequency) = on_octet hdlc modulation ∷ (frequency % 256) ∷ (frequency / 256) ∷ []
command_octets Page = []
command_octets EndOfFrame = []
command_octets Abort = []

abbrev pub head_octets : ℕ → Option ℕ → Command → List ℕ
head_octets sequence stamp command = first_octet sequence stamp command ∷ (stamp_octets stamp ++ command_octets command)

-- how many they are
unfoldable pub front_of : Option ℕ → Command → ℕ
front_of stamp command = 1 + length (stamp_octets stamp) + length (command_octets command)

-- The same octets, as they are read.
abbrev pub bit8 : ℕ → Bool
bit8 octet = leb 128 octet

abbrev pub ei1_in : List ℕ → Bool
ei1_in payload = bit8 (get_or payload 0 0)

abbrev pub sequence_in : List ℕ → ℕ
sequence_in payload = get_or payload 0 0 / 8 % 16

abbrev pub code_in : List ℕ → ℕ
code_in payload = get_or payload 0 0 % 8

abbrev pub time_in : List ℕ → ℕ
time_in payload = get_or payload 2 0 % 128 * 256 + get_or payload 1 0

abbrev pub stamp_in : List ℕ → Option ℕ
stamp_in payload = cond (ei1_in payload) (Some (time_in payload)) None

abbrev pub ei2_in : List ℕ → Bool
ei2_in payload = ei1_in payload && bit8 (get_or payload 2 0)

abbrev pub on_in : List ℕ → Command
on_in payload = On (bit8 (get_or payload 3 0)) (get_or payload 3 0 % 16) (get_or payload 5 0 * 256 + get_or payload 4 0)

abbrev pub zero_bits_in : List ℕ → ℕ
zero_bits_in payload = get_or payload 3 0 / 16 % 8

-- the command of a code, with what the payload says of on
unfoldable pub command_of : ℕ → Command → Command
command_of code on = get_or (Off ∷ on ∷ Page ∷ EndOfFrame ∷ Abort ∷ []) code Abort

abbrev pub command_in : List ℕ → Command
command_in payload = command_of (code_in payload) (on_in payload)

-- "Off and on need EI1, else 14": commands 0 and 1.
abbrev pub unstamped : Option ℕ → Command → Bool
unstamped None command = ltb (code_of command) 2
unstamped (Some time) command = false

abbrev pub is_one : ℕ → List ℕ → Bool
is_one n [] = false
is_one n (x ∷ xs) = eqb n x or is_one n xs

-- "2 data, 3, 12, 24, 36, 48, 60 or 72 octets"
unfoldable pub is_page : ℕ → Bool
is_page n = is_one n (3 ∷ 12 ∷ 24 ∷ 36 ∷ 48 ∷ 60 ∷ 72 ∷ [])

-- Whether a command takes n data octets: "0 off, nothing more"; "3 end of frame and 4 abort, 3 octets".
unfoldable pub body_sized : Command → ℕ → Bool
body_sized Off n = eqb n 0
body_sized (On hdlc modulation frequency) n = eqb n 0
body_sized Page n = is_page n
body_sized EndOfFrame n = eqb n 3
body_sized Abort n = eqb n 3

-- "modulation 0 to 11, frequency .. (0 unless modulation is 0, else 14)"
unfoldable pub tone_refused : ℕ → ℕ → Bool
tone_refused modulation frequency = ltb 11 modulation or (ltb 0 modulation && ltb 0 frequency)

abbrev pub refused_on : Command → Bool
refused_on Off = false
refused_on (On hdlc modulation frequency) = tone_refused modulation frequency
refused_on Page = false
refused_on EndOfFrame = false
refused_on Abort = false

-- The refusals of a payload with this stamp and this command. Order: "13 when an octet that decides the length is missing; .. 14 for
-- a code that decides the length (.. fax command with EI1); 13; any other 14".
abbrev pub read_refusals : List ℕ → Option ℕ → Command → List Test
read_refusals payload stamp command =
    eqb (length payload) 0 gives LengthWrong
    ∷ ltb 4 (code_in payload) gives ReservedCode
    ∷ unstamped stamp command gives ReservedCode
    ∷ ltb (length payload) (front_of stamp command) gives LengthWrong
    ∷ not (body_sized command (length payload - front_of stamp command)) gives LengthWrong
    ∷ ei2_in payload gives ReservedCode
    ∷ (eqb (code_in payload) 1 && ltb 0 (zero_bits_in payload)) gives ReservedCode
    ∷ refused_on command gives ReservedCode
    ∷ []

-- What a payload tells.
unfoldable pub fax_read : List ℕ → Result Fax Refusal
fax_read payload =
    let stamp = stamp_in payload in
    let command = command_in payload in
    in_order (read_refusals payload stamp command) Err
    (Ok (record { sequence = sequence_in payload; stamp = stamp; command = command; front = front_of stamp command }))

abbrev pub stamp_number : Option ℕ → ℕ
stamp_number None = 0
stamp_number (Some time) = time

-- The refusals of a content, for writing: in the reader's order, then 15 for a sequence or a stamp beyond its bits.
abbrev pub write_refusals : ℕ → Option ℕ → Command → List ℕ → List Test
write_refusals sequence stamp command body =
    unstamped stamp command gives ReservedCode
    ∷ not (body_sized command (length body)) gives LengthWrong
    ∷ refused_on command gives ReservedCode
    ∷ ltb 15 sequence gives ValueOutOfRange
    ∷ ltb 32767 (stamp_number stamp) gives ValueOutOfRange
    ∷ []

-- The octets of a fax payload.
unfoldable pub fax_made : ℕ → Option ℕ → Command → List ℕ → Made
fax_made sequence stamp command body =
    in_order (write_refusals sequence stamp command body) unmade (made (head_octets sequence stamp command ++ body))
