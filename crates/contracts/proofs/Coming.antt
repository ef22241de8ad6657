-- What comes of a call that meets its contract.
use Prim.Native.Nat.{ℕ}
use mathlib.Core.Path.{◌≡◌, sym, ap, ◌∙◌}
use mathlib.Core.List.{List}
use contract.Lifetimes.{Lfts}
use borrow.Fn.Kinds.{ParamKind, ResultKind, Dens, Out, res_t, ended_of}
use denote.Triple.Clauses.{AtExit}
use Rattle.contracts.specs.Meeting.{Met}

module _ (n : ℕ) (ps : List (ParamKind n)) (r : ResultKind n) (post : Out n ps r) {I O : Type 0} (handed : (κs : Lfts n) → Dens κs ps → I)
    (back : (κs : Lfts n) → (res_t r κs).Denot → AtExit (ended_of n ps r) κs → O) where
  pub comes_of : (f : I → O)
      → ((κs : Lfts n) (a : Dens κs ps) (x : (res_t r κs).Denot) (s : AtExit (ended_of n ps r) κs) → post κs a x s → back κs x s ≡ f (handed κs a))
      → (given : I) (comes : O)
      → Met n ps r post handed back given comes
      → comes ≡ f given
  comes_of f says given comes m =
      sym m.is_back ∙ says m.lifetimes m.arguments m.result m.exit m.meets ∙ ap f m.is_handed
