-- "For each public function one answer only, and one content of every lent buffer and returned state, meets its contract, for all
-- inputs, refused ones too" (document 01, "What the contracts settle"). A returned state is a part of the result, or what `self` holds at exit. The theorems
-- stand in proofs/, a file a crate; each speaks of the function's contract itself (`Post`, which the kit makes of it).
use Rattle.std.specs.Prelude.{◌≡◌, ℕ, List}
use denote.RattleType.{RattleType}
use denote.Param.Laws.{Laws}
use contract.Lifetimes.{Lfts}
use borrow.Fn.Kinds.{ParamKind, ResultKind, Dens, Out, res_t, ended_of}
use Rattle.std.specs.Borrow.{Bor}
use denote.Triple.Clauses.{AtExit}

-- no buffer is lent for writing
abbrev pub nothing : {A B : Type 0} → A → B → Unit {0}
nothing a b = tt

-- Of a contract `post`: two results that meet it for the same arguments are the same, and so is what the lent buffer holds at
-- exit, which `lent` takes from the parameters.
abbrev pub OneAnswer : (n : ℕ) (ps : List (ParamKind n)) (r : ResultKind n) {H : Type 0} → ((κs : Lfts n) → AtExit (ended_of n ps r) κs → H) → Out n ps r → Type 0
OneAnswer n ps r lent post =
    (κs : Lfts n) (a : Dens κs ps) (x y : (res_t r κs).Denot) (s t : AtExit (ended_of n ps r) κs)
    → post κs a x s
    → post κs a y t
    → (x ≡ y) × (lent κs s ≡ lent κs t)

-- The same of a function over a type, whatever the type is.
abbrev pub OneAnswer-each : (n : ℕ) (ps : (T : RattleType) → Laws T → List (ParamKind n)) (r : (T : RattleType) → Laws T → ResultKind n) {H : Type 0} → ((T : RattleType) (laws : Laws T) (κs : Lfts n) → AtExit (ended_of n (ps T laws) (r T laws)) κs → H) → ((T : RattleType) (laws : Laws T) → Out n (ps T laws) (r T laws)) → Type 2
OneAnswer-each n ps r lent post = (T : RattleType) (laws : Laws T) → OneAnswer n (ps T laws) (r T laws) (lent T laws) (post T laws)

-- The same where the result is a part of a lent slice: its octets and where they lie.
abbrev pub OnePart : (n : ℕ) (ps : List (ParamKind n)) (r : ResultKind n) {X H : Type 0} → ((κs : Lfts n) → (res_t r κs).Denot → Bor X) → ((κs : Lfts n) → AtExit (ended_of n ps r) κs → H) → Out n ps r → Type 0
OnePart n ps r slice lent post =
    (κs : Lfts n) (a : Dens κs ps) (x y : (res_t r κs).Denot) (s t : AtExit (ended_of n ps r) κs)
    → post κs a x s
    → post κs a y t
    → ((slice κs x).now ≡ (slice κs y).now) × ((slice κs x).ref_ptr ≡ (slice κs y).ref_ptr) × (lent κs s ≡ lent κs t)
