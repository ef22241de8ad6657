-- One answer only: the public functions of `digits`.
use mathlib.Core.Path.{refl, sym, ◌∙◌}
use Rattle.settled.specs.Settled.{OneAnswer, nothing}
use Rattle.digits.proofs.layout.off_window.Kinds as layout-off-window-kinds
use Rattle.digits.proofs.layout.off_window.Reads as layout-off-window-reads
use Rattle.digits.proofs.layout.window_wrong.Kinds as layout-window-wrong-kinds
use Rattle.digits.proofs.layout.window_wrong.Reads as layout-window-wrong-reads
use Rattle.digits.proofs.layout.read_digits.Kinds as layout-read-digits-kinds
use Rattle.digits.proofs.layout.read_digits.Reads as layout-read-digits-reads
use Rattle.digits.proofs.layout.level_low.Kinds as layout-level-low-kinds
use Rattle.digits.proofs.layout.level_low.Reads as layout-level-low-reads
use Rattle.digits.proofs.layout.fit_digits.Kinds as layout-fit-digits-kinds
use Rattle.digits.proofs.layout.fit_digits.Reads as layout-fit-digits-reads
use Rattle.digits.proofs.layout.put_digits.Kinds as layout-put-digits-kinds
use Rattle.digits.proofs.layout.put_digits.Reads as layout-put-digits-reads

pub layout-off-window : OneAnswer 0 layout-off-window-kinds.ps layout-off-window-kinds.r nothing layout-off-window-reads.Post
layout-off-window κs a x y s t p q = (p ∙ sym q, refl)

pub layout-window-wrong : OneAnswer 0 layout-window-wrong-kinds.ps layout-window-wrong-kinds.r nothing layout-window-wrong-reads.Post
layout-window-wrong κs a x y s t p q = (p ∙ sym q, refl)

pub layout-read-digits : OneAnswer 1 layout-read-digits-kinds.ps layout-read-digits-kinds.r nothing layout-read-digits-reads.Post
layout-read-digits κs a x y s t p q = (p ∙ sym q, refl)

pub layout-level-low : OneAnswer 0 layout-level-low-kinds.ps layout-level-low-kinds.r nothing layout-level-low-reads.Post
layout-level-low κs a x y s t p q = (p ∙ sym q, refl)

pub layout-fit-digits : OneAnswer 0 layout-fit-digits-kinds.ps layout-fit-digits-kinds.r nothing layout-fit-digits-reads.Post
layout-fit-digits κs a x y s t p q = (p ∙ sym q, refl)

pub layout-put-digits : OneAnswer 1 layout-put-digits-kinds.ps layout-put-digits-kinds.r (λ κs s. s.0.now) layout-put-digits-reads.Post
layout-put-digits κs a x y s t p q = (p.0 ∙ sym q.0, cc)
