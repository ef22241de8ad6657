-- An honest HDLC run (document 02, wish 1; FRF.11, D.4.1): what is sent, and what of it arrives.
use Rattle.std.specs.Prelude.{ℕ, suc, ◌+◌, ◌%◌, ◌^◌, ◌<◌, ◌≤◌, ◌≡◌, List, [], ◌∷◌, ◌++◌, Bool, true, false, replicate, Option, Some}
use Rattle.octets.specs.Made.{octets_of}
use Rattle.fax.specs.declared.Command.{Command}
use Rattle.fax.specs.declared.Command.TheVariants.{Off, On, Page, EndOfFrame, Abort}
use Rattle.fax.specs.Fax.{fax_made, stamp_number, tone_refused}

-- ---- What is sent

-- a data payload, sent once; or a command payload, sent three times
pub data Sending : Type 0 where
  once : List ℕ → Sending
  thrice : List ℕ → Sending

-- the payload number n, counted on from modulation-on; it is written modulo 16
abbrev pub payload : ℕ → Option ℕ → Command → List ℕ → List ℕ
payload n stamp command body = octets_of (fax_made (n % 2 ^ 4) stamp command body)

-- one after the other: an octet of the frame at hand, or the end of that frame by end-of-frame or abort; any of them may have a stamp
pub data Closing : Type 0 where
  ended : Closing
  aborted : Closing

pub data Item : Type 0 where
  octet : ℕ → Option ℕ → Item
  close : Closing → Option ℕ → Item

abbrev pub command_of : Closing → Command
command_of ended = EndOfFrame
command_of aborted = Abort

-- a fax call: the number and the stamp of its modulation-on, the modulation, the items, the stamp of its modulation-off
pub record FaxCall : Type 0 where
  pub first : ℕ
  pub begun : ℕ
  pub modulation : ℕ
  pub frequency : ℕ
  pub items : List Item
  pub stopped : ℕ

-- What is sent after the payload number n, where x, y, z are the newest octets, newest first. Data has "the newest octet first and
-- its two predecessors"; an end has "the same three bytes of data as the previous data payload" (D.4.1); "Modulation-off takes the
-- number after the last payload before it (house)".
abbrev pub sent_after : ℕ → ℕ → ℕ → ℕ → List Item → ℕ → List Sending
sent_after n x y z [] stopped = thrice (payload (n + 1) (Some stopped) Off []) ∷ []
sent_after n x y z (octet o stamp ∷ items) stopped =
    once (payload (n + 1) stamp Page (o ∷ x ∷ y ∷ [])) ∷ sent_after (n + 1) o x y items stopped
sent_after n x y z (close c stamp ∷ items) stopped =
    thrice (payload (n + 1) stamp (command_of c) (x ∷ y ∷ z ∷ [])) ∷ sent_after (n + 1) x y z items stopped

-- What stands in the places of octets before the first: "all 1's" (D.4.1), 255 each.
pub record Fillers : Type 0 where
  pub newest : ℕ
  pub middle : ℕ
  pub oldest : ℕ

abbrev pub ones : Fillers
ones = record { newest = 255; middle = 255; oldest = 255 }

-- a call
abbrev pub sent : Fillers → FaxCall → List Sending
sent f s =
    thrice (payload s.first (Some s.begun) (On true s.modulation s.frequency) [])
    ∷ sent_after s.first f.newest f.middle f.oldest s.items s.stopped

-- "each frame closed by end-of-frame or abort": so it stands before the items, and so behind them
abbrev pub closed_after : Bool → List Item → Bool
closed_after closed [] = closed
closed_after closed (octet o stamp ∷ items) = closed_after false items
closed_after closed (close c stamp ∷ items) = closed_after true items

abbrev pub StampsFit : List Item → Type 0
StampsFit [] = Unit
StampsFit (octet o stamp ∷ items) = (stamp_number stamp ≤ 32767) × StampsFit items
StampsFit (close c stamp ∷ items) = (stamp_number stamp ≤ 32767) × StampsFit items

-- an honest call: every value can be written, and each frame is closed
pub record Honest (s : FaxCall) : Type 0 where
  pub begun : s.begun ≤ 32767
  pub stopped : s.stopped ≤ 32767
  pub tone : tone_refused s.modulation s.frequency ≡ false
  pub stamps : StampsFit s.items
  pub closed : closed_after true s.items ≡ true

-- ---- What arrives

-- "with at most two successive data payloads lost .. if one of each three command payloads arrives": `lost` counts the data payloads
-- lost since the last arrival, of data or a command. A command arrives once and as many times again as one likes.
pub data Arrives : ℕ → List Sending → List (List ℕ) → Type 0 where
  all : {lost : ℕ} → Arrives lost [] []
  gone : {lost : ℕ} {p : List ℕ} {more : List Sending} {came : List (List ℕ)} → lost < 2 → Arrives (suc lost) more came → Arrives lost (once p ∷ more) came
  came : {lost : ℕ} {p : List ℕ} {more : List Sending} {behind : List (List ℕ)} → Arrives 0 more behind → Arrives lost (once p ∷ more) (p ∷ behind)
  some : {lost : ℕ} {p : List ℕ} {more : List Sending} {behind : List (List ℕ)} → (again : ℕ) → Arrives 0 more behind → Arrives lost (thrice p ∷ more) (p ∷ replicate again p ++ behind)
