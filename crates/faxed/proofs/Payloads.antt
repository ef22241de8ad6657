-- What the replay does with a payload that was written: it is read as it was written, acts once, and again does nothing.
use Prim.Native.Nat.{ℕ, zero, suc, ◌+◌, ◌%◌, ◌^◌, ◌≤◌}
use mathlib.Core.Path.{◌≡◌, refl, sym, ap, ◌∙◌}
use mathlib.Core.List.{List, [], ◌∷◌, ◌++◌, map, reverse, append_assoc}
use mathlib.Core.Bool.{Bool, true, false, cond, and-false}
use native.Mathlib.Omega.{arith}
use borrow.Author.Tests.{eq-eqb, ne_eqb, lt-ltb}
use lib.Dec.{ltb}
use lib.ListN.{length, take, replicate, length-reverse}
use lib.Seq.{take_at, length-take-le}
use Rattle.std.specs.declared.option.Option.{Option}
use Rattle.std.specs.declared.option.Option.TheVariants.{None, Some}
use Rattle.std.specs.declared.result.Result.TheVariants.{Ok}
use Rattle.counts.specs.Round.{step}
use Rattle.counts.proofs.Laws.{fax-laws}
use Rattle.octets.proofs.Order.{clash}
use Rattle.fax.specs.declared.Command.{Command}
use Rattle.fax.specs.declared.Command.TheVariants.{Off, On, Page, EndOfFrame, Abort}
use Rattle.fax.specs.Fax.{code_of, head_octets, unstamped, body_sized, tone_refused, refused_on, stamp_number}
use Rattle.fax.proofs.FaxCases.{Passed, is_made}
use Rattle.fax.proofs.MadeReads.{made-reads-back}
use Rattle.faxing.specs.declared.Receiver.{Receiver}
use Rattle.faxing.specs.Replay.{fresh_receiver, needs_modulation, three_times, same_stamp, repeats, idle, step_from, add_count, gap_at, handed_on, did_by, taken_in_force, receiver_after, nothing_done, acting, taken_by, received}
use Rattle.faxing.specs.Private.{refusal_of}
use Rattle.faxing.proofs.Taken.{acted, repeated, idled}
use Rattle.faxed.specs.Events.{Event, begins, page, gap, stops, events_of, handed_by}
use Rattle.faxed.specs.Run.{payload}
use Rattle.faxed.specs.Pages.{gap_after}
use Rattle.faxed.proofs.Runs.{Runs, joined, first, copies}

-- a modulation is in force, and payload number m was taken just before
abbrev pub standing : Bool → ℕ → ℕ → ℕ → Option ℕ → Receiver
standing hdlc modulation code m stamp =
    record { 0 = Some (record { hdlc = hdlc; modulation = modulation; code = code; last = record { 0 = m % 2 ^ 4 }; stamp = stamp }) }

own-stamp : (stamp : Option ℕ) → same_stamp stamp stamp ≡ true
own-stamp None = refl
own-stamp (Some time) = eq-eqb time time refl

-- a payload that can be written
module _ (n : ℕ) (stamp : Option ℕ) (command : Command) (body : List ℕ) (written : Passed (n % 2 ^ 4) stamp command body) where
  read_as : (r : Receiver) → received r (payload n stamp command body) ≡ taken_by r (n % 2 ^ 4) stamp command body
  unfolding received
  read_as r =
      let octets : List ℕ = head_octets (n % 2 ^ 4) stamp command ++ body in
      let is = is_made (n % 2 ^ 4) stamp command body written in
      let back = made-reads-back (n % 2 ^ 4) stamp command body octets is in
      rw (is, back.0, back.1)

  new-acts : (r : Receiver)
      → refusal_of r command (length body) ≡ Ok tt
      → repeats r command (n % 2 ^ 4) stamp ≡ false
      → idle r command ≡ false
      → received r (payload n stamp command body) ≡ acting r (n % 2 ^ 4) stamp command body (step_from r (n % 2 ^ 4))
  new-acts r free new on = read_as r ∙ sym (acted r (n % 2 ^ 4) stamp command body free new on)

  -- copies of the payload that was taken just before
  again : (hdlc : Bool) (modulation k : ℕ)
      → let r = standing hdlc modulation (code_of command) n stamp in
      refusal_of r command (length body) ≡ Ok tt
      → three_times command ≡ true
      → Runs r (replicate k (payload n stamp command body)) [] r
  again hdlc modulation k free three =
      let r : Receiver = standing hdlc modulation (code_of command) n stamp in
      let same : repeats r command (n % 2 ^ 4) stamp ≡ true =
      simp (three, eq-eqb (code_of command) (code_of command) refl, eq-eqb (n % 2 ^ 4) (n % 2 ^ 4) refl, own-stamp stamp)
      in
      copies (payload n stamp command body) k (read_as r ∙ sym (repeated r (n % 2 ^ 4) stamp command body free same))

-- modulation-on with none on, which arrives once or more
pub on-runs :
    (hdlc : Bool) (modulation frequency n begun k : ℕ) {behind : List (List ℕ)} {es : List Event} {to : Receiver}
    → tone_refused modulation frequency ≡ false
    → begun ≤ 32767
    → Runs (standing hdlc modulation (code_of (On hdlc modulation frequency)) n (Some begun)) behind es to
    → let p = payload n (Some begun) (On hdlc modulation frequency) [] in
    Runs fresh_receiver (p ∷ replicate k p ++ behind) (begins hdlc modulation frequency begun ∷ es) to
unfolding body_sized acting
on-runs hdlc modulation frequency n begun k tone fits rest =
    let on : Command = On hdlc modulation frequency in
    let stamp : Option ℕ = Some begun in
    let written : Passed (n % 2 ^ 4) stamp on [] =
    record { stamped = refl; sized = refl; taken = tone; four_bits = omega arith; in-range = fits }
    in
    first (new-acts n stamp on [] written fresh_receiver refl refl refl)
    (joined (again n stamp on [] written hdlc modulation k refl refl) rest)
    refl

-- the count's first places hold the newest octets, oldest first
handed-places : (count : ℕ) (body : List ℕ) → count ≤ length body → take count (handed_on count body) ≡ reverse (take count body)
handed-places count body fits =
    take_at (reverse (take count body)) _ count (length-reverse (take count body) ∙ length-take-le count body fits)

-- a step above 1 tells a gap
pub gap-told : (lost : ℕ) → cond (ltb 1 (suc lost)) (gap ∷ []) [] ≡ gap_after lost
gap-told zero = refl
gap-told (suc lost) = rw (lt-ltb 1 (suc (suc lost)) (omega arith))

off-says :
    (lost : ℕ) (r : Receiver) (n stopped : ℕ)
    → handed_by (acting r n (Some stopped) Off [] (suc lost)).answer ++ [] ≡ gap_after lost ++ stops stopped ∷ []
unfolding acting
off-says zero r n stopped = refl
off-says (suc lost) r n stopped = rw (gap-told (suc lost))

-- data, end-of-frame or abort: with a stamp or without, and the modulation stays in force
record Carries (command : Command) : Type 0 where
  bare : unstamped None command ≡ false
  taken : refused_on command ≡ false
  stays : (r : Receiver) (number : ℕ) (stamp : Option ℕ) → receiver_after r command number stamp ≡ taken_in_force r (code_of command) number stamp

carries : (command : Command) → needs_modulation command ≡ true → Carries command
carries Off needs = clash false needs refl
carries (On hdlc modulation frequency) needs = clash false needs refl
carries Page needs = record { bare = refl; taken = refl; stays = λ r number stamp. refl }
carries EndOfFrame needs = record { bare = refl; taken = refl; stays = λ r number stamp. refl }
carries Abort needs = record { bare = refl; taken = refl; stays = λ r number stamp. refl }

may-lack : (stamp : Option ℕ) (command : Command) → unstamped None command ≡ false → unstamped stamp command ≡ false
may-lack None command bare = bare
may-lack (Some time) command bare = refl

-- payload number m was taken just before, as many are lost, and the payload after number n comes
module _ (hdlc : Bool) (modulation code m : ℕ) (before : Option ℕ) (n lost : ℕ) (after : n ≡ m + lost) (few : lost ≤ 14) where
  abbrev r : Receiver
  r = standing hdlc modulation code m before

  abbrev next : ℕ
  next = (n + 1) % 2 ^ 4

  acts : (stamp : Option ℕ) (command : Command) (body : List ℕ)
      → Passed next stamp command body
      → refusal_of r command (length body) ≡ Ok tt
      → received r (payload (n + 1) stamp command body) ≡ acting r next stamp command body (suc lost)
  acts stamp command body written free =
      new-acts (n + 1) stamp command body written r free (simp (ne_eqb (m % 2 ^ 4) next (λ e. omega arith), and-false)) (simp and-false)
      ∙ ap (λ (k : ℕ). acting r next stamp command body (step 4 (m % 2 ^ 4) (k % 2 ^ 4))) (omega arith)
      ∙ ap (acting r next stamp command body) (fax-laws.steps m (suc lost) (omega arith))

  -- data, end-of-frame or abort, of which so many octets are handed on, with a gap before them or none
  module _
      (stamp : Option ℕ) (command : Command) (body : List ℕ) (count : ℕ) (gaps : List Event)
      (needs : needs_modulation command ≡ true)
      (sized : body_sized command (length body) ≡ true)
      (fits : stamp_number stamp ≤ 32767)
      (free : (code m : ℕ) (before : Option ℕ) → refusal_of (standing hdlc modulation code m before) command (length body) ≡ Ok tt)
      (adds : add_count hdlc command (suc lost) (length body) ≡ count)
      (has : count ≤ length body)
      (tells : cond (gap_at hdlc command (suc lost)) (gap ∷ []) [] ≡ gaps)
    where
      abbrev told : List Event → List Event
      told es = gaps ++ (map page (reverse (take count body)) ++ (events_of (did_by command stamp) ++ es))

      written : Passed next stamp command body
      written =
          let c = carries command needs in
          record { stamped = may-lack stamp command c.bare; sized = sized; taken = c.taken; four_bits = omega arith; in-range = fits }

      says : (es : List Event) → handed_by (acting r next stamp command body (suc lost)).answer ++ es ≡ told es
      unfolding acting
      says es =
          rw (adds, handed-places count body has, tells)
          (append_assoc (gaps ++ map page (reverse (take count body))) (events_of (did_by command stamp)) es ∙ append_assoc gaps _ _)

      pub once-comes : {behind : List (List ℕ)} {es : List Event} {to : Receiver}
          → Runs (standing hdlc modulation (code_of command) (n + 1) stamp) behind es to
          → Runs r (payload (n + 1) stamp command body ∷ behind) (told es) to
      unfolding acting
      once-comes {es} rest =
          first {es = es} (acts stamp command body written (free code m before)) (rw ((carries command needs).stays r next stamp) rest) (says es)

      pub thrice-comes : {behind : List (List ℕ)} {es : List Event} {to : Receiver} (k : ℕ)
          → three_times command ≡ true
          → Runs (standing hdlc modulation (code_of command) (n + 1) stamp) behind es to
          → let p = payload (n + 1) stamp command body in
          Runs r (p ∷ replicate k p ++ behind) (told es) to
      thrice-comes k three rest =
          once-comes (joined (again (n + 1) stamp command body written hdlc modulation k (free (code_of command) (n + 1) stamp) three) rest)

  -- modulation-off, which arrives once or more
  pub off-runs : (stopped k : ℕ)
      → stopped ≤ 32767
      → let p = payload (n + 1) (Some stopped) Off [] in
      Runs r (p ∷ replicate k p) (gap_after lost ++ stops stopped ∷ []) fresh_receiver
  unfolding body_sized acting
  off-runs stopped k fits =
      let stamp : Option ℕ = Some stopped in
      let written : Passed next stamp Off [] =
      record { stamped = refl; sized = refl; taken = refl; four_bits = omega arith; in-range = fits }
      in
      let nothing : received fresh_receiver (payload (n + 1) stamp Off []) ≡ nothing_done fresh_receiver =
      read_as (n + 1) stamp Off [] written fresh_receiver ∙ sym (idled fresh_receiver next stamp Off [] refl refl refl)
      in
      first (acts stamp Off [] written refl) (copies (payload (n + 1) stamp Off []) k nothing) (off-says lost r next stopped)
