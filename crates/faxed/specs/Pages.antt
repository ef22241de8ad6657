-- A call without HDLC (document 02, wish 1; FRF.11, D.4.2): T.4 data, or a single tone, which has none; what is handed on of what
-- arrives. Proved in proofs/Pages.antt.
use Rattle.std.specs.Prelude.{ℕ, zero, suc, ◌+◌, ◌*◌, ◌/◌, ◌<◌, ◌≤◌, ◌≡◌, List, [], ◌∷◌, ◌++◌, map, reverse, false, length, get_or, replicate, Option, Some}
use Rattle.fax.specs.declared.Command.TheVariants.{Off, On, Page}
use Rattle.fax.specs.Fax.{stamp_number, tone_refused}
use Rattle.faxing.specs.Replay.{fresh_receiver}
use Rattle.faxed.specs.Events.{Event, begins, page, gap, stops, handed, after}
use Rattle.faxed.specs.Run.{payload}

-- the octets of one payload, oldest first; any may have a stamp
pub record Block : Type 0 where
  pub octets : List ℕ
  pub stamp : Option ℕ

-- a payload that arrives, or is lost
pub data Fate : Type 0 where
  arrives : Block → Fate
  lost : Block → Fate

-- A call: the number and the stamp of its modulation-on, the modulation, the frequency of a single tone, the payloads in the order
-- sent, the stamp of its modulation-off. On and off arrive once and so many times again.
pub record PageCall : Type 0 where
  pub first : ℕ
  pub begun : ℕ
  pub modulation : ℕ
  pub frequency : ℕ
  pub blocks : List Fate
  pub stopped : ℕ
  pub on_again : ℕ
  pub off_again : ℕ

-- What arrives behind the payload number n: each payload has the number after the one sent before it, and its octets newest first.
abbrev pub came_after : ℕ → List Fate → ℕ → ℕ → List (List ℕ)
came_after n [] stopped again =
    payload (n + 1) (Some stopped) Off [] ∷ replicate again (payload (n + 1) (Some stopped) Off [])
came_after n (arrives b ∷ more) stopped again =
    payload (n + 1) b.stamp Page (reverse b.octets) ∷ came_after (n + 1) more stopped again
came_after n (lost b ∷ more) stopped again = came_after (n + 1) more stopped again

abbrev pub on_of : PageCall → List ℕ
on_of s = payload s.first (Some s.begun) (On false s.modulation s.frequency) []

abbrev pub came : PageCall → List (List ℕ)
came s = on_of s ∷ replicate s.on_again (on_of s) ++ came_after s.first s.blocks s.stopped s.off_again

-- bits a second, by the codes of Figure D-7; a payload has the octets of 40 ms (D.3.4)
abbrev pub rates : List ℕ
rates = 0 ∷ 300 ∷ 2400 ∷ 4800 ∷ 7200 ∷ 9600 ∷ 12000 ∷ 14400 ∷ 7200 ∷ 9600 ∷ 12000 ∷ 14400 ∷ []

abbrev pub size_at : ℕ → ℕ
size_at modulation = get_or rates modulation 0 * 40 / 8000

abbrev pub block_of : Fate → Block
block_of (arrives b) = b
block_of (lost b) = b

-- every payload has the length of the modulation, which is neither a single tone nor V.21, and a stamp that can be written
abbrev pub AllSized : ℕ → List Fate → Type 0
AllSized modulation [] = Unit
AllSized modulation (f ∷ more) =
    (2 ≤ modulation) × (length (block_of f).octets ≡ size_at modulation) × (stamp_number (block_of f).stamp ≤ 32767)
    × AllSized modulation more

-- at most 14 are lost in a row, of which so many are already
abbrev pub FewLost : ℕ → List Fate → Type 0
FewLost already [] = Unit
FewLost already (arrives b ∷ more) = FewLost 0 more
FewLost already (lost b ∷ more) = (already < 14) × FewLost (suc already) more

pub record HonestPages (s : PageCall) : Type 0 where
  pub begun : s.begun ≤ 32767
  pub stopped : s.stopped ≤ 32767
  pub tone : tone_refused s.modulation s.frequency ≡ false
  pub sized : AllSized s.modulation s.blocks
  pub few : FewLost 0 s.blocks

-- what is due: the octets that arrived, in order, and a gap where, and only where, payloads before them were lost
abbrev pub gap_after : ℕ → List Event
gap_after zero = []
gap_after (suc n) = gap ∷ []

abbrev pub due : ℕ → List Fate → ℕ → List Event
due already [] stopped = gap_after already ++ stops stopped ∷ []
due already (arrives b ∷ more) stopped = gap_after already ++ (map page b.octets ++ due 0 more stopped)
due already (lost b ∷ more) stopped = due (suc already) more stopped

abbrev pub all_due : PageCall → List Event
all_due s = begins false s.modulation s.frequency s.begun ∷ due 0 s.blocks s.stopped

-- A replay with no modulation on hands on what is due, and no modulation is on then.
abbrev pub PagesHanded : Type 0
PagesHanded =
    (s : PageCall)
    → HonestPages s
    → (handed fresh_receiver (came s) ≡ all_due s) × (after fresh_receiver (came s) ≡ fresh_receiver)

-- Where every payload arrives: what was sent, in order, without a gap.
abbrev pub all_of : List Block → List Event
all_of [] = []
all_of (b ∷ more) = map page b.octets ++ all_of more

abbrev pub PagesComplete : Type 0
PagesComplete =
    (s : PageCall) (blocks : List Block)
    → HonestPages s
    → s.blocks ≡ map arrives blocks
    → handed fresh_receiver (came s) ≡ begins false s.modulation s.frequency s.begun ∷ all_of blocks ++ stops s.stopped ∷ []
