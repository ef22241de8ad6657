-- One answer only, for the functions over a reader: the fact that each contract states, and that it has one answer. Crate `settled` has
-- their theorems over the contracts too, beside those of the functions with plain parameters.
use Prim.Native.Nat.{ℕ}
use mathlib.Core.Path.{◌≡◌, refl, sym, ◌∙◌}
use mathlib.Core.List.{List}
use seplogic.Ra.Ura.{Ura}
use base.Logic.{SProp}
use types.Logic.{Logic}
use prog.Memory.{Memory}
use prog.Routine.{Routine}
use contract.Lifetimes.{Lfts}
use contract.Monad.{Fun, fact}
use denote.Bor.{Bor}
use denote.MutBor.{MutBor}
use Rattle.header.specs.declared.SubFrame.{SubFrame}
use Rattle.reader.specs.declared.Reader.{Reader}
use Rattle.reader.specs.Reading.{opened}
use Rattle.reader.specs.Claims.{IsStep, IsPayload, OneAnswer}
use Rattle.reader.specs.contracts.open as opens
use Rattle.reader.specs.contracts.step as step
use Rattle.reader.specs.contracts.payload as payload
use Rattle.std.specs.declared.option.Option.{Option}

module _ {M : Type 1} {𝓤 : Ura M} (𝓛 : Logic 𝓤) (mem : Memory → SProp 𝓤) (run : Routine → Fun 𝓤) where
  pub open-says : (κs : Lfts 1) (frame last : Bor (List ℕ)) (r : Reader) → (opens.clauses 𝓛 mem run κs (frame, tt)).ensures tt r (last, tt) ≡ fact 𝓤 (r ≡ opened frame)
  open-says κs frame last r = refl

  pub step-says : (κs : Lfts 2) (d last : MutBor Reader) (f : Option SubFrame) → (step.clauses 𝓛 mem run κs (d, tt)).ensures tt f (last, tt) ≡ fact 𝓤 (IsStep d.now f last.now)
  step-says κs d last f = refl

  pub payload-says : (κs : Lfts 1) (d last : Reader) (sub end : SubFrame) (r : Bor (List ℕ)) → (payload.clauses 𝓛 mem run κs (d, (sub, tt))).ensures tt r (last, (end, tt)) ≡ fact 𝓤 (IsPayload d sub r)
  payload-says κs d last sub end r = refl

pub one_answer : OneAnswer
one_answer =
    record {
      open_one = λ frame p q a b. a ∙ sym b;
      step_one = λ r f g p q a b. (a.0 ∙ sym b.0, a.1 ∙ sym b.1);
      payload_one = λ r sub x y a b. (a.0 ∙ sym b.0, a.1 ∙ sym b.1);
    }
