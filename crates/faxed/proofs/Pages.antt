-- A call without HDLC: what arrives is handed on, with a gap where payloads before it were lost.
use Prim.Native.Nat.{ℕ, zero, suc, ◌+◌, ◌≤◌}
use mathlib.Core.Path.{◌≡◌, refl, ap, ◌∙◌}
use mathlib.Core.List.{List, [], ◌∷◌, ◌++◌, map, reverse, append_assoc, reverse-reverse}
use mathlib.Core.Bool.{true, false}
use native.Mathlib.Omega.{arith}
use borrow.Author.Tests.{ltb-false, eq-eqb, ne_eqb}
use lib.ListN.{length, get_or, length-reverse}
use lib.Seq.{take-length}
use Rattle.std.specs.declared.option.Option.{Option}
use Rattle.std.specs.declared.option.Option.TheVariants.{Some}
use Rattle.octets.proofs.Order.{neither}
use Rattle.fax.specs.declared.Command.TheVariants.{On, Page}
use Rattle.fax.specs.Fax.{code_of, is_page, body_sized, tone_refused}
use Rattle.faxing.specs.Replay.{fresh_receiver, page_sizes}
use Rattle.faxed.specs.Events.{stops}
use Rattle.faxed.specs.Pages.{Block, Fate, arrives, lost, PageCall, came_after, came, size_at, AllSized, FewLost, HonestPages, gap_after, due, all_due, PagesHanded, all_of, PagesComplete}
use Rattle.faxed.proofs.Runs.{Runs}
use Rattle.faxed.proofs.Payloads.{standing, once-comes, on-runs, gap-told, off-runs}

-- the octets of 40 ms are the length that the replay asks, and one that can be written
abbrev Fits : ℕ → Type 0
Fits modulation = (size_at modulation ≡ get_or page_sizes modulation 0) × (is_page (size_at modulation) ≡ true)

sized-at : (modulation : ℕ) → 2 ≤ modulation → modulation ≤ 11 → Fits modulation
unfolding is_page
sized-at zero fast listed = absurd (omega arith)
sized-at (suc zero) fast listed = absurd (omega arith)
sized-at (suc (suc zero)) fast listed = (refl, refl)
sized-at (suc (suc (suc zero))) fast listed = (refl, refl)
sized-at (suc (suc (suc (suc zero)))) fast listed = (refl, refl)
sized-at (suc (suc (suc (suc (suc zero))))) fast listed = (refl, refl)
sized-at (suc (suc (suc (suc (suc (suc zero)))))) fast listed = (refl, refl)
sized-at (suc (suc (suc (suc (suc (suc (suc zero))))))) fast listed = (refl, refl)
sized-at (suc (suc (suc (suc (suc (suc (suc (suc zero)))))))) fast listed = (refl, refl)
sized-at (suc (suc (suc (suc (suc (suc (suc (suc (suc zero))))))))) fast listed = (refl, refl)
sized-at (suc (suc (suc (suc (suc (suc (suc (suc (suc (suc zero)))))))))) fast listed = (refl, refl)
sized-at (suc (suc (suc (suc (suc (suc (suc (suc (suc (suc (suc zero))))))))))) fast listed = (refl, refl)
sized-at (suc (suc (suc (suc (suc (suc (suc (suc (suc (suc (suc (suc i)))))))))))) fast listed = absurd (omega arith)

-- a modulation that can be written is one of the twelve
listed_by : (modulation frequency : ℕ) → tone_refused modulation frequency ≡ false → modulation ≤ 11
unfolding tone_refused
listed_by modulation frequency tone = ltb-false 11 modulation (neither _ _ tone).0

-- payload number m was taken last, and n was sent last
module _ (modulation stopped again : ℕ) (listed : modulation ≤ 11) (late : stopped ≤ 32767) where
  ahead :
      (fates : List Fate) (gone m n code : ℕ) (before : Option ℕ)
      → n ≡ m + gone
      → gone ≤ 14
      → AllSized modulation fates
      → FewLost gone fates
      → Runs (standing false modulation code m before) (came_after n fates stopped again) (due gone fates stopped) fresh_receiver
  unfolding body_sized
  ahead [] gone m n code before is most sized few = off-runs false modulation code m before n gone is most stopped again late
  ahead (lost b ∷ more) gone m n code before is most sized few =
      ahead more (suc gone) m (n + 1) code before (omega arith) few.0 sized.3 few.1
  ahead (arrives b ∷ more) gone m n code before is most sized few =
      let body : List ℕ = reverse b.octets in
      let size = sized-at modulation sized.0 listed in
      let many : length body ≡ size_at modulation = length-reverse b.octets ∙ sized.1 in
      rw (take-length body, reverse-reverse b.octets) at
      (once-comes false modulation code m before n gone is most b.stamp Page body (length body) (gap_after gone) refl
      (ap is_page many ∙ size.1)
      sized.2
      (λ code m before. rw (eq-eqb (length body) (get_or page_sizes modulation 0) (many ∙ size.0)))
      (rw (ne_eqb (suc gone) 0 (λ e. omega arith)))
      (omega arith)
      (gap-told gone)
      (ahead more 0 (n + 1) (n + 1) (code_of Page) b.stamp (omega arith) (omega arith) sized.3 few))

pub pages-run : (s : PageCall) → HonestPages s → Runs fresh_receiver (came s) (all_due s) fresh_receiver
pages-run s honest =
    on-runs false s.modulation s.frequency s.first s.begun s.on_again honest.tone honest.begun
    (ahead s.modulation s.stopped s.off_again (listed_by s.modulation s.frequency honest.tone) honest.stopped s.blocks 0 s.first s.first
    (code_of (On false s.modulation s.frequency))
    (Some s.begun)
    (omega arith)
    (omega arith)
    honest.sized
    honest.few)

pub pages-handed : PagesHanded
pages-handed s honest = let run = pages-run s honest in (run.hands, run.leaves)

-- where every payload arrives
all-due : (blocks : List Block) (stopped : ℕ) → due 0 (map arrives blocks) stopped ≡ all_of blocks ++ stops stopped ∷ []
all-due [] stopped = refl
all-due (b ∷ more) stopped = rw (all-due more stopped, append_assoc)

pub pages-complete : PagesComplete
pages-complete s blocks honest all = rw (← (all-due blocks s.stopped), ← all) (pages-handed s honest).0
