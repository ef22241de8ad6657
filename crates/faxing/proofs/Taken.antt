-- A payload that is read: its data octets stand behind its front, as many as its command takes; and what each test of the replay
-- leads to.
use Prim.Native.Nat.{ℕ, ◌-◌, ◌≤◌}
use mathlib.Core.Path.{◌≡◌, sym, ap, ◌∙◌}
use mathlib.Core.List.{List}
use mathlib.Core.Bool.{true, false, cond}
use native.Mathlib.Omega.{arith}
use borrow.Author.Tests.{ltb-false, not-false}
use lib.ListN.{length, take, drop, length-drop}
use lib.Seq.{take_all}
use Rattle.std.specs.declared.option.Option.{Option}
use Rattle.std.specs.declared.result.Result.{Result}
use Rattle.std.specs.declared.result.Result.TheVariants.{Ok, Err}
use Rattle.std.proofs.lemmas.Result.{IfOk-at_ok, IfErr-at_err}
use Rattle.refusal.specs.declared.Refusal.{Refusal}
use Rattle.refusal.proofs.Order.{passed, told, by_answer}
use Rattle.fax.specs.declared.Command.{Command}
use Rattle.fax.specs.declared.Fax.{Fax}
use Rattle.fax.specs.Fax.{front_of, body_sized, stamp_in, command_in, read_refusals, fax_read}
use Rattle.faxing.specs.declared.Receiver.{Receiver}
use Rattle.faxing.specs.Replay.{Received, refusals, repeats, idle, step_from, nothing_done, refused, acting, taken_by}
use Rattle.faxing.specs.Private.{refusal_of}

module _ (p : List ℕ) (fax : Fax) (e : fax_read p ≡ Ok fax) where
  fits : (fax.front ≤ length p) × (body_sized fax.command (length (drop fax.front p)) ≡ true)
  unfolding fax_read
  fits =
      let front = front_of (stamp_in p) (command_in p) in
      let all = passed {A = Result Fax Refusal} Err _ (read_refusals p (stamp_in p) (command_in p)) (Ok fax) (λ r n. IfErr-at_err (λ r. ⊥) (sym n) tt) e in
      let tests = all.0 in
      IfOk-at_ok (λ (f : Fax). (f.front ≤ length p) × (body_sized f.command (length (drop f.front p)) ≡ true)) all.1
      (ltb-false (length p) front tests.1.1.1.0, ap (body_sized (command_in p)) (length-drop front p) ∙ not-false _ tests.1.1.1.1.0)

  pub whole : fax.front ≤ length p
  whole = fits.0

  -- what is behind its front
  pub sized : body_sized fax.command (length (take (length p - fax.front) (drop fax.front p))) ≡ true
  sized =
      let many = length-drop fax.front p in
      rw (take_all (length p - fax.front) (drop fax.front p) (omega arith)) fits.1

-- 41 and 42 first, then a repeat, then an off with none on
module _ (r : Receiver) (number : ℕ) (stamp : Option ℕ) (command : Command) (body : List ℕ) where
  abbrev accepted : Received
  accepted =
      cond (repeats r command number stamp) (nothing_done r)
      (cond (idle r command) (nothing_done r) (acting r number stamp command body (step_from r number)))

  answered : {x : Result Unit Refusal} → refusal_of r command (length body) ≡ x → taken_by r number stamp command body ≡ told (refused r) accepted x
  unfolding taken_by
  answered is = by_answer (refused r) accepted tt (refusals r command (length body)) ∙ ap (told (refused r) accepted) is

  pub turned_away : (refusal : Refusal) → refusal_of r command (length body) ≡ Err refusal → taken_by r number stamp command body ≡ refused r refusal
  turned_away refusal is = answered is

  module _ (none : refusal_of r command (length body) ≡ Ok tt) where
    pub repeated : repeats r command number stamp ≡ true → nothing_done r ≡ taken_by r number stamp command body
    repeated again = sym (answered none ∙ rw again)

    module _ (new : repeats r command number stamp ≡ false) where
      pub idled : idle r command ≡ true → nothing_done r ≡ taken_by r number stamp command body
      idled off = sym (answered none ∙ rw (new, off))

      pub acted : idle r command ≡ false → acting r number stamp command body (step_from r number) ≡ taken_by r number stamp command body
      acted on = sym (answered none ∙ rw (new, on))
