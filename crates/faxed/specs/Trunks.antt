-- Fax of a trunk: payloads of one sub-channel come to its trunk, each with its type, those of fax among others, and what the trunk hands
-- on of fax is what the fax replay hands on of the fax payloads alone. Proved in proofs/Trunks.antt.
use Rattle.std.specs.Prelude.{ℕ, ◌≡◌, List, [], ◌∷◌, ◌++◌, Bool, true, false, cond, Option, Result, Ok, Err}
use Rattle.refusal.specs.declared.Refusal.{Refusal}
use Rattle.record.specs.declared.syntax.Record.{Record}
use Rattle.payload.specs.declared.layout.Layout.{Layout}
use Rattle.payload.specs.declared.layout.Layout.TheVariants.{OfVoice, OfDigits, OfSignalling, OfFax, OfSid, OfData}
use Rattle.payload.specs.Layout.{layout_of}
use Rattle.trunk.specs.declared.Trunk.{Trunk}
use Rattle.trunk.specs.declared.Heard.{Heard}
use Rattle.trunk.specs.declared.Heard.TheVariants.{HeardVoice, HeardSilence, HeardDigits, HeardSignalling, HeardData, HeardFax}
use Rattle.trunk.specs.Trunk.{fresh_trunk, taken}
use Rattle.faxed.specs.Events.{Event, handed_by, handed}
use Rattle.faxed.specs.Run.{FaxCall, Fillers, Honest, sent, Arrives}
use Rattle.faxed.specs.Complete.{complete}

pub record Coming : Type 0 where
  pub ptype : ℕ
  pub octets : List ℕ

-- the payloads whose layout is fax: type 0 on a fax sub-channel, type 3 on a voice one
abbrev pub is_fax : Result Layout Refusal → Bool
is_fax (Ok (OfVoice r)) = false
is_fax (Ok OfDigits) = false
is_fax (Ok OfSignalling) = false
is_fax (Ok OfFax) = true
is_fax (Ok (OfSid syntax)) = false
is_fax (Ok OfData) = false
is_fax (Err refusal) = false

abbrev pub fax_among : Option Record → List Coming → List (List ℕ)
fax_among found [] = []
fax_among found (c ∷ cs) = cond (is_fax (layout_of found c.ptype)) (c.octets ∷ fax_among found cs) (fax_among found cs)

-- what the trunk hands on of fax
abbrev pub fax_told : Result Heard Refusal → List Event
fax_told (Ok HeardVoice) = []
fax_told (Ok HeardSilence) = []
fax_told (Ok (HeardDigits appended)) = []
fax_told (Ok (HeardSignalling appended)) = []
fax_told (Ok HeardData) = []
fax_told (Ok (HeardFax h)) = handed_by (Ok h)
fax_told (Err refusal) = handed_by (Err refusal)

abbrev pub trunk_handed : Option Record → Trunk → List Coming → List Event
trunk_handed found t [] = []
trunk_handed found t (c ∷ cs) =
    let x = taken t found c.ptype c.octets in
    cond (is_fax (layout_of found c.ptype)) (fax_told x.answer) [] ++ trunk_handed found x.trunk cs

abbrev pub TrunkHands : Type 0
TrunkHands = (found : Option Record) (t : Trunk) (cs : List Coming) → trunk_handed found t cs ≡ handed t.fax (fax_among found cs)

-- So an honest HDLC run is handed on complete by a trunk too, whatever comes between.
abbrev pub TrunkHandsComplete : Type 0
TrunkHandsComplete =
    (f : Fillers) (s : FaxCall) (found : Option Record) (cs : List Coming)
    → Honest s
    → Arrives 0 (sent f s) (fax_among found cs)
    → trunk_handed found fresh_trunk cs ≡ complete s
