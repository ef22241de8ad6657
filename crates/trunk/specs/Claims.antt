-- What a payload leaves alone, and its number. Proved in proofs/Leaves.antt.
use Rattle.std.specs.Prelude.{ℕ, ◌≡◌, List, false, Option, Ok, Err}
use Rattle.refusal.specs.declared.Refusal.{Refusal}
use Rattle.refusal.specs.Numbers.{sound}
use Rattle.record.specs.declared.syntax.Record.{Record}
use Rattle.record.specs.declared.syntax.Syntax.{Syntax}
use Rattle.dialled.specs.Receiver as dialled
use Rattle.seized.specs.Receiver as seized
use Rattle.faxing.specs.Replay as faxing
use Rattle.payload.specs.declared.layout.Layout.TheVariants.{OfVoice, OfDigits, OfSignalling, OfFax, OfSid, OfData}
use Rattle.payload.specs.Content.{payload_read, number_of}
use Rattle.payload.specs.Layout.{layout_of}
use Rattle.trunk.specs.declared.Trunk.{Trunk}
use Rattle.trunk.specs.Trunk.{number_in, taken, refusing}

-- The number is that of the digit receiver, the signalling receiver or the fax replay under their layouts, and that of reading the
-- payload under every other: since reading never gives them (`ReadingGives`, payload/specs/Claims.antt), 19, 41 and 42 come from
-- these three alone.
pub record Numbers : Type 0 where
  pub digits : (t : Trunk) (found : Option Record) (ptype : ℕ) (p : List ℕ) → layout_of found ptype ≡ Ok OfDigits → number_in (taken t found ptype p) ≡ dialled.number_in (dialled.received t.digits p)
  pub signalling : (t : Trunk) (found : Option Record) (ptype : ℕ) (p : List ℕ) → layout_of found ptype ≡ Ok OfSignalling → number_in (taken t found ptype p) ≡ seized.number_in (seized.received t.signalling p)
  pub fax : (t : Trunk) (found : Option Record) (ptype : ℕ) (p : List ℕ) → layout_of found ptype ≡ Ok OfFax → number_in (taken t found ptype p) ≡ faxing.number_in (faxing.received t.fax p)
  pub others : (t : Trunk) (found : Option Record) (ptype : ℕ) (p : List ℕ)
      → (layout_of found ptype ≡ Ok OfDigits → ⊥)
      → (layout_of found ptype ≡ Ok OfSignalling → ⊥)
      → (layout_of found ptype ≡ Ok OfFax → ⊥)
      → number_in (taken t found ptype p) ≡ number_of (payload_read found ptype p)

-- What reading refuses is refused with its number under every layout; and a refused payload changes nothing and appends nothing.
abbrev pub ReadingRefuses : Type 0
ReadingRefuses =
    (t : Trunk) (found : Option Record) (ptype : ℕ) (p : List ℕ)
    → (number_of (payload_read found ptype p) ≡ sound → ⊥)
    → number_in (taken t found ptype p) ≡ number_of (payload_read found ptype p)

abbrev pub RefusedStands : Type 0
RefusedStands =
    (t : Trunk) (found : Option Record) (ptype : ℕ) (p : List ℕ) (refusal : Refusal)
    → (taken t found ptype p).answer ≡ Err refusal
    → taken t found ptype p ≡ refusing t refusal

-- Each field is over all trunks, sub-channels, types and payloads; the layout that the record and the type name tells the kind.
pub record Leaves : Type 0 where
  -- a refused payload leaves the whole trunk, whatever its kind
  pub refused : (t : Trunk) (found : Option Record) (ptype : ℕ) (p : List ℕ) (refusal : Refusal) → (taken t found ptype p).answer ≡ Err refusal → (taken t found ptype p).trunk ≡ t
  -- a silence descriptor and data leave the whole trunk
  pub silence : (t : Trunk) (found : Option Record) (ptype : ℕ) (p : List ℕ) (s : Syntax) → layout_of found ptype ≡ Ok (OfSid s) → (taken t found ptype p).trunk ≡ t
  pub fragments : (t : Trunk) (found : Option Record) (ptype : ℕ) (p : List ℕ) → layout_of found ptype ≡ Ok OfData → (taken t found ptype p).trunk ≡ t
  -- a digits payload leaves the signalling receiver and the fax replay, and the digit receiver is then as after `received`
  pub digits : (t : Trunk) (found : Option Record) (ptype : ℕ) (p : List ℕ) → layout_of found ptype ≡ Ok OfDigits → (taken t found ptype p).trunk ≡ record { digits = (dialled.received t.digits p).receiver; signalling = t.signalling; fax = t.fax }
  -- a signalling payload leaves the digit receiver and the fax replay, and the signalling receiver is then as after `received`
  pub signalling : (t : Trunk) (found : Option Record) (ptype : ℕ) (p : List ℕ) → layout_of found ptype ≡ Ok OfSignalling → (taken t found ptype p).trunk ≡ record { digits = t.digits; signalling = (seized.received t.signalling p).receiver; fax = t.fax }
  -- a fax payload leaves the digit receiver and the signalling receiver, and the fax replay is then as after `received`
  pub fax : (t : Trunk) (found : Option Record) (ptype : ℕ) (p : List ℕ) → layout_of found ptype ≡ Ok OfFax → (taken t found ptype p).trunk ≡ record { digits = t.digits; signalling = t.signalling; fax = (faxing.received t.fax p).receiver }
  -- accepted voice leaves the signalling receiver and the fax replay, and of the digit receiver all but the tone: that is then off
  pub voice : (t : Trunk) (found : Option Record) (ptype : ℕ) (p : List ℕ) (r : Record) → layout_of found ptype ≡ Ok (OfVoice r) → number_in (taken t found ptype p) ≡ sound → (taken t found ptype p).trunk ≡ record { digits = record { heard = t.digits.heard; last = t.digits.last; on = false; code = 0 }; signalling = t.signalling; fax = t.fax }
  -- where no tone sounds and its code is 0, as every payload leaves it, voice leaves the whole trunk
  pub voice_untoned : (t : Trunk) (found : Option Record) (ptype : ℕ) (p : List ℕ) (r : Record) → layout_of found ptype ≡ Ok (OfVoice r) → t.digits.on ≡ false → t.digits.code ≡ 0 → (taken t found ptype p).trunk ≡ t
