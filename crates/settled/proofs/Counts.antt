-- One answer only: the public functions of `counts`.
use mathlib.Core.Path.{refl, sym, ap, ◌∙◌}
use Prim.Native.Nat.{ℕ}
use Rattle.settled.specs.Settled.{OneAnswer, nothing}
use Rattle.counts.specs.declared.DigitCount.{DigitCount}
use Rattle.counts.specs.declared.SignallingCount.{SignallingCount}
use Rattle.counts.specs.declared.VoiceCount.{VoiceCount}
use Rattle.counts.specs.declared.DataCount.{DataCount}
use Rattle.counts.specs.declared.FaxCount.{FaxCount}
use Rattle.counts.proofs.DigitCount.next.Kinds as digitcount-next-kinds
use Rattle.counts.proofs.DigitCount.next.Reads as digitcount-next-reads
use Rattle.counts.proofs.DigitCount.step_to.Kinds as digitcount-step-to-kinds
use Rattle.counts.proofs.DigitCount.step_to.Reads as digitcount-step-to-reads
use Rattle.counts.proofs.SignallingCount.next.Kinds as signallingcount-next-kinds
use Rattle.counts.proofs.SignallingCount.next.Reads as signallingcount-next-reads
use Rattle.counts.proofs.SignallingCount.step_to.Kinds as signallingcount-step-to-kinds
use Rattle.counts.proofs.SignallingCount.step_to.Reads as signallingcount-step-to-reads
use Rattle.counts.proofs.VoiceCount.next.Kinds as voicecount-next-kinds
use Rattle.counts.proofs.VoiceCount.next.Reads as voicecount-next-reads
use Rattle.counts.proofs.VoiceCount.step_to.Kinds as voicecount-step-to-kinds
use Rattle.counts.proofs.VoiceCount.step_to.Reads as voicecount-step-to-reads
use Rattle.counts.proofs.DataCount.next.Kinds as datacount-next-kinds
use Rattle.counts.proofs.DataCount.next.Reads as datacount-next-reads
use Rattle.counts.proofs.DataCount.step_to.Kinds as datacount-step-to-kinds
use Rattle.counts.proofs.DataCount.step_to.Reads as datacount-step-to-reads
use Rattle.counts.proofs.FaxCount.next.Kinds as faxcount-next-kinds
use Rattle.counts.proofs.FaxCount.next.Reads as faxcount-next-reads
use Rattle.counts.proofs.FaxCount.step_to.Kinds as faxcount-step-to-kinds
use Rattle.counts.proofs.FaxCount.step_to.Reads as faxcount-step-to-reads

pub digitcount-next : OneAnswer 0 digitcount-next-kinds.ps digitcount-next-kinds.r nothing digitcount-next-reads.Post
digitcount-next κs a x y s t p q = (let of : ℕ → DigitCount = λ n. record { 0 = n } in ap of (p ∙ sym q), refl)

pub digitcount-step-to : OneAnswer 0 digitcount-step-to-kinds.ps digitcount-step-to-kinds.r nothing digitcount-step-to-reads.Post
digitcount-step-to κs a x y s t p q = (p ∙ sym q, refl)

pub signallingcount-next : OneAnswer 0 signallingcount-next-kinds.ps signallingcount-next-kinds.r nothing signallingcount-next-reads.Post
signallingcount-next κs a x y s t p q = (let of : ℕ → SignallingCount = λ n. record { 0 = n } in ap of (p ∙ sym q), refl)

pub signallingcount-step-to : OneAnswer 0 signallingcount-step-to-kinds.ps signallingcount-step-to-kinds.r nothing signallingcount-step-to-reads.Post
signallingcount-step-to κs a x y s t p q = (p ∙ sym q, refl)

pub voicecount-next : OneAnswer 0 voicecount-next-kinds.ps voicecount-next-kinds.r nothing voicecount-next-reads.Post
voicecount-next κs a x y s t p q = (let of : ℕ → VoiceCount = λ n. record { 0 = n } in ap of (p ∙ sym q), refl)

pub voicecount-step-to : OneAnswer 0 voicecount-step-to-kinds.ps voicecount-step-to-kinds.r nothing voicecount-step-to-reads.Post
voicecount-step-to κs a x y s t p q = (p ∙ sym q, refl)

pub datacount-next : OneAnswer 0 datacount-next-kinds.ps datacount-next-kinds.r nothing datacount-next-reads.Post
datacount-next κs a x y s t p q = (let of : ℕ → DataCount = λ n. record { 0 = n } in ap of (p ∙ sym q), refl)

pub datacount-step-to : OneAnswer 0 datacount-step-to-kinds.ps datacount-step-to-kinds.r nothing datacount-step-to-reads.Post
datacount-step-to κs a x y s t p q = (p ∙ sym q, refl)

pub faxcount-next : OneAnswer 0 faxcount-next-kinds.ps faxcount-next-kinds.r nothing faxcount-next-reads.Post
faxcount-next κs a x y s t p q = (let of : ℕ → FaxCount = λ n. record { 0 = n } in ap of (p ∙ sym q), refl)

pub faxcount-step-to : OneAnswer 0 faxcount-step-to-kinds.ps faxcount-step-to-kinds.r nothing faxcount-step-to-reads.Post
faxcount-step-to κs a x y s t p q = (p ∙ sym q, refl)
