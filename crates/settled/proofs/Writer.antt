-- One answer only: the public functions of `writer`.
use mathlib.Core.Path.{sym, ◌∙◌}
use Rattle.settled.specs.Settled.{OneAnswer}
use Rattle.writer.proofs.primary.write_voice.Kinds as primary-write-voice-kinds
use Rattle.writer.proofs.primary.write_voice.Reads as primary-write-voice-reads
use Rattle.writer.proofs.primary.write_data.Kinds as primary-write-data-kinds
use Rattle.writer.proofs.primary.write_data.Reads as primary-write-data-reads
use Rattle.writer.proofs.signalled.write_digits.Kinds as signalled-write-digits-kinds
use Rattle.writer.proofs.signalled.write_digits.Reads as signalled-write-digits-reads
use Rattle.writer.proofs.signalled.write_signalling.Kinds as signalled-write-signalling-kinds
use Rattle.writer.proofs.signalled.write_signalling.Reads as signalled-write-signalling-reads
use Rattle.writer.proofs.signalled.write_fax.Kinds as signalled-write-fax-kinds
use Rattle.writer.proofs.signalled.write_fax.Reads as signalled-write-fax-reads
use Rattle.writer.proofs.signalled.write_sid.Kinds as signalled-write-sid-kinds
use Rattle.writer.proofs.signalled.write_sid.Reads as signalled-write-sid-reads

pub primary-write-voice : OneAnswer 3 primary-write-voice-kinds.ps primary-write-voice-kinds.r (λ κs s. s.0.now) primary-write-voice-reads.Post
primary-write-voice κs a x y s t p q = (p.0 ∙ sym q.0, cc)

pub primary-write-data : OneAnswer 3 primary-write-data-kinds.ps primary-write-data-kinds.r (λ κs s. s.0.now) primary-write-data-reads.Post
primary-write-data κs a x y s t p q = (p.0 ∙ sym q.0, cc)

pub signalled-write-digits : OneAnswer 2 signalled-write-digits-kinds.ps signalled-write-digits-kinds.r (λ κs s. s.0.now) signalled-write-digits-reads.Post
signalled-write-digits κs a x y s t p q = (p.0 ∙ sym q.0, cc)

pub signalled-write-signalling : OneAnswer 2 signalled-write-signalling-kinds.ps signalled-write-signalling-kinds.r (λ κs s. s.0.now) signalled-write-signalling-reads.Post
signalled-write-signalling κs a x y s t p q = (p.0 ∙ sym q.0, cc)

pub signalled-write-fax : OneAnswer 3 signalled-write-fax-kinds.ps signalled-write-fax-kinds.r (λ κs s. s.0.now) signalled-write-fax-reads.Post
signalled-write-fax κs a x y s t p q = (p.0 ∙ sym q.0, cc)

pub signalled-write-sid : OneAnswer 2 signalled-write-sid-kinds.ps signalled-write-sid-kinds.r (λ κs s. s.0.now) signalled-write-sid-reads.Post
signalled-write-sid κs a x y s t p q = (p.0 ∙ sym q.0, cc)
