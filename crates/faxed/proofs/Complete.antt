-- An honest HDLC run is handed on complete: by induction over what is still to be sent, with the octets lost since the last arrival.
use Prim.Native.Nat.{ℕ, zero, suc, ◌+◌, ◌-◌, ◌≤◌}
use mathlib.Core.Path.{◌≡◌, refl, sym, ◌∙◌}
use mathlib.Core.List.{List, [], ◌∷◌, ◌++◌, map, reverse}
use mathlib.Core.Bool.{Bool, true, false}
use native.Mathlib.Omega.{arith}
use borrow.Author.Tests.{le-ltb}
use lib.Dec.{ltb}
use lib.ListN.{take}
use Rattle.std.specs.declared.option.Option.{Option}
use Rattle.std.specs.declared.option.Option.TheVariants.{Some}
use Rattle.std.specs.declared.result.Result.TheVariants.{Ok}
use Rattle.octets.proofs.Order.{clash}
use Rattle.replay.specs.Rule.{carried_count}
use Rattle.fax.specs.declared.Command.{Command}
use Rattle.fax.specs.declared.Command.TheVariants.{On, Page}
use Rattle.fax.specs.Fax.{code_of, is_page, body_sized}
use Rattle.faxing.specs.Replay.{fresh_receiver, needs_modulation, three_times, add_count, gap_at, did_by}
use Rattle.faxing.specs.Private.{refusal_of}
use Rattle.faxed.specs.Events.{Event, page, stops, events_of}
use Rattle.faxed.specs.Run.{Closing, ended, aborted, Item, octet, close, command_of, FaxCall, Fillers, sent_after, sent, closed_after, StampsFit, Honest, Arrives, all, gone, came, some}
use Rattle.faxed.specs.Complete.{closing_event, event_of, complete, HandedComplete}
use Rattle.faxed.proofs.Runs.{Runs, empty, joined}
use Rattle.faxed.proofs.Payloads.{standing, on-runs, once-comes, thrice-comes, off-runs}

-- the octets lost since the last arrival, oldest first, where x, y, z are the newest
abbrev pending : ℕ → ℕ → ℕ → ℕ → List Event
pending lost x y z = map page (reverse (take lost (x ∷ y ∷ z ∷ [])))

one_more : (lost o x y z : ℕ) (es : List Event) → lost ≤ 2 → pending (suc lost) o x y ++ es ≡ pending lost x y z ++ page o ∷ es
one_more zero o x y z es few = refl
one_more (suc zero) o x y z es few = refl
one_more (suc (suc zero)) o x y z es few = refl
one_more (suc (suc (suc lost))) o x y z es few = absurd (omega arith)

-- what end-of-frame and abort have in common
record Closes (modulation step : ℕ) (stamp : Option ℕ) (command : Command) (event : Event) : Type 0 where
  needs : needs_modulation command ≡ true
  three : three_times command ≡ true
  sized : body_sized command 3 ≡ true
  free : (code m : ℕ) (before : Option ℕ) → refusal_of (standing true modulation code m before) command 3 ≡ Ok tt
  adds : add_count true command step 3 ≡ carried_count (step - 1)
  tells : gap_at true command step ≡ ltb 4 step
  did : events_of (did_by command stamp) ≡ event ∷ []

closes : (modulation step : ℕ) (stamp : Option ℕ) (c : Closing) → Closes modulation step stamp (command_of c) (closing_event c)
unfolding body_sized
closes modulation step stamp ended =
    record { needs = refl; three = refl; sized = refl; free = λ code m before. refl; adds = refl; tells = refl; did = refl }
closes modulation step stamp aborted =
    record { needs = refl; three = refl; sized = refl; free = λ code m before. refl; adds = refl; tells = refl; did = refl }

-- payload number m was taken last, and n was sent last; where the frame is closed, none is lost
module _ (modulation stopped : ℕ) (late : stopped ≤ 32767) where
  ahead :
      (items : List Item) (closed : Bool) (lost m n x y z code : ℕ) (before : Option ℕ) {ps : List (List ℕ)}
      → n ≡ m + lost
      → lost ≤ 2
      → (closed ≡ true → lost ≡ 0)
      → StampsFit items
      → closed_after closed items ≡ true
      → Arrives lost (sent_after n x y z items stopped) ps
      → Runs (standing true modulation code m before) ps (pending lost x y z ++ (map event_of items ++ stops stopped ∷ [])) fresh_receiver
  unfolding body_sized is_page
  ahead [] closed lost m n x y z code before is few none-lost stamps end (some again all) =
      let zero-lost : lost ≡ 0 = none-lost end in
      rw zero-lost (joined (off-runs true modulation code m before n 0 (omega arith) (omega arith) stopped again late) empty)
  ahead (octet o stamp ∷ items) closed lost m n x y z code before is few none-lost stamps end (gone less rest) =
      rw (← (one_more lost o x y z (map event_of items ++ stops stopped ∷ []) few))
      (ahead items false (suc lost) m (n + 1) o x y code before (omega arith) (omega arith) (λ e. clash true refl (sym e)) stamps.1 end rest)
  ahead (octet o stamp ∷ items) closed lost m n x y z code before is few none-lost stamps end (came rest) =
      rw (← (one_more lost o x y z (map event_of items ++ stops stopped ∷ []) few))
      (once-comes true modulation code m before n lost is (omega arith) stamp Page (o ∷ x ∷ y ∷ []) (suc lost) [] refl refl stamps.0
      (λ code m before. refl)
      (omega arith)
      (omega arith)
      (rw (le-ltb 3 (suc lost) (omega arith)))
      (ahead items false 0 (n + 1) (n + 1) o x y (code_of Page) stamp (omega arith) (omega arith) (λ e. refl) stamps.1 end rest))
  ahead (close c stamp ∷ items) closed lost m n x y z code before is few none-lost stamps end (some again rest) =
      let alike = closes modulation (suc lost) stamp c in
      rw alike.did at
      (thrice-comes true modulation code m before n lost is (omega arith) stamp (command_of c) (x ∷ y ∷ z ∷ []) lost []
      alike.needs
      alike.sized
      stamps.0
      alike.free
      (alike.adds ∙ omega arith)
      (omega arith)
      (rw (alike.tells, le-ltb 4 (suc lost) (omega arith)))
      again
      alike.three
      (ahead items true 0 (n + 1) (n + 1) x y z (code_of (command_of c)) stamp (omega arith) (omega arith) (λ e. refl) stamps.1 end rest))

pub call-runs : (f : Fillers) (s : FaxCall) {ps : List (List ℕ)} → Honest s → Arrives 0 (sent f s) ps → Runs fresh_receiver ps (complete s) fresh_receiver
call-runs f s honest (some again rest) =
    let on : Command = On true s.modulation s.frequency in
    on-runs true s.modulation s.frequency s.first s.begun again honest.tone honest.begun
    (ahead s.modulation s.stopped honest.stopped s.items true 0 s.first s.first f.newest f.middle f.oldest (code_of on) (Some s.begun)
    (omega arith)
    (omega arith)
    (λ e. refl)
    honest.stamps
    honest.closed
    rest)

pub handed-complete : HandedComplete
handed-complete f s ps honest arrives = let run = call-runs f s honest arrives in (run.hands, run.leaves)
