-- Contracts, as theorems speak of them. The kit makes of a function's contract `Post`: what holds of the arguments, the result and
-- what was lent, at exit. `ps` and `r` are the kinds of the parameters and of the result, over n lifetimes.
use Rattle.std.specs.Prelude.{ℕ, ◌≡◌, List}
use contract.Lifetimes.{Lfts}
use borrow.Fn.Kinds.{ParamKind, ResultKind, Dens, Out, res_t, ended_of}
use denote.Triple.Clauses.{AtExit}

-- a result that meets a contract is what `says` makes of the arguments
abbrev pub Answers : (n : ℕ) (ps : List (ParamKind n)) (r : ResultKind n) → ((κs : Lfts n) → Dens κs ps → (res_t r κs).Denot) → Out n ps r → Type 0
Answers n ps r says post =
    (κs : Lfts n) (a : Dens κs ps) (x : (res_t r κs).Denot) (s : AtExit (ended_of n ps r) κs) → post κs a x s → x ≡ says κs a

-- and what a lent buffer holds then is what `leaves` makes of them
abbrev pub Leaves : (n : ℕ) (ps : List (ParamKind n)) (r : ResultKind n) {H : Type 0} → ((κs : Lfts n) → AtExit (ended_of n ps r) κs → H) → ((κs : Lfts n) → Dens κs ps → H) → Out n ps r → Type 0
Leaves n ps r lent leaves post =
    (κs : Lfts n) (a : Dens κs ps) (x : (res_t r κs).Denot) (s : AtExit (ended_of n ps r) κs) → post κs a x s → lent κs s ≡ leaves κs a

-- A call that meets its contract: it is handed `given`, as `handed` takes that from the arguments, and `comes` of it, as `back`
-- takes that from the result and what was lent.
pub record Met (n : ℕ) (ps : List (ParamKind n)) (r : ResultKind n) (post : Out n ps r) {I O : Type 0} (handed : (κs : Lfts n) → Dens κs ps → I)
    (back : (κs : Lfts n) → (res_t r κs).Denot → AtExit (ended_of n ps r) κs → O) (given : I) (comes : O) : Type 0 where
  pub lifetimes : Lfts n
  pub arguments : Dens lifetimes ps
  pub result : (res_t r lifetimes).Denot
  pub exit : AtExit (ended_of n ps r) lifetimes
  pub meets : post lifetimes arguments result exit
  pub is_handed : handed lifetimes arguments ≡ given
  pub is_back : back lifetimes result exit ≡ comes
