-- What a trunk tells of a payload under the layout that was found; and a receiver that refuses a payload stands.
use Prim.Native.Nat.{ℕ}
use mathlib.Core.Path.{◌≡◌, ap}
use mathlib.Core.List.{List}
use Rattle.std.specs.declared.result.Result.TheVariants.{Err}
use Rattle.refusal.specs.declared.Refusal.{Refusal}
use Rattle.dialled.specs.declared.Receiver as dialled-receiver
use Rattle.dialled.specs.Receiver as dialled
use Rattle.dialled.proofs.Older as dialled-older
use Rattle.seized.specs.declared.Receiver as seized-receiver
use Rattle.seized.specs.Receiver as seized
use Rattle.seized.proofs.Older as seized-older
use Rattle.faxing.specs.declared.Receiver as fax-receiver
use Rattle.faxing.specs.Replay as faxing
use Rattle.faxing.proofs.Refused as fax-refused
use Rattle.std.specs.declared.option.Option.{Option}
use Rattle.std.specs.declared.result.Result.{Result}
use Rattle.record.specs.declared.syntax.Record.{Record}
use Rattle.payload.specs.declared.layout.Layout.{Layout}
use Rattle.payload.specs.Layout.{layout_of}
use Rattle.trunk.specs.declared.Trunk.{Trunk}
use Rattle.trunk.specs.Trunk.{taken_as, taken}

pub as-layout : (t : Trunk) (found : Option Record) (ptype : ℕ) (p : List ℕ) {l : Result Layout Refusal} → layout_of found ptype ≡ l → taken t found ptype p ≡ taken_as l t p
unfolding taken
as-layout t found ptype p e = ap (λ (x : Result Layout Refusal). taken_as x t p) e

module _ (p : List ℕ) (refusal : Refusal) where
  pub dialled_stands : (r : dialled-receiver.Receiver) → (dialled.received r p).answer ≡ Err refusal → (dialled.received r p).receiver ≡ r
  dialled_stands r e = ap (λ (x : dialled.Received). x.receiver) ((dialled-older.older).stands r p refusal e)

  pub seized_stands : (r : seized-receiver.Receiver) → (seized.received r p).answer ≡ Err refusal → (seized.received r p).receiver ≡ r
  seized_stands r e = ap (λ (x : seized.Received). x.receiver) ((seized-older.older).stands r p refusal e)

  pub fax_stands : (r : fax-receiver.Receiver) → (faxing.received r p).answer ≡ Err refusal → (faxing.received r p).receiver ≡ r
  fax_stands r e = ap (λ (x : faxing.Received). x.receiver) (fax-refused.refused-stands r p refusal e)
