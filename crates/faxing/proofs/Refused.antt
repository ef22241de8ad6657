-- A refused payload does nothing (specs/Claims.antt).
use Prim.Native.Nat.{ℕ}
use mathlib.Core.Path.{◌≡◌}
use mathlib.Core.List.{List}
use mathlib.Core.Bool.{not, ◌&&◌}
use lib.ListN.{length, drop}
use Rattle.std.specs.declared.result.Result.{Result}
use Rattle.std.specs.declared.result.Result.TheVariants.{Ok, Err}
use Rattle.refusal.specs.declared.Refusal.{Refusal}
use Rattle.octets.proofs.Order.{picked}
use Rattle.fax.specs.declared.Fax.{Fax}
use Rattle.fax.specs.Fax.{fax_read}
use Rattle.faxing.specs.declared.Receiver.{Receiver}
use Rattle.faxing.specs.Replay.{Received, is_on, needs_modulation, against, repeats, idle, refused, acting, taken_by, received_by, received}
use Rattle.faxing.specs.Claims.{RefusedStands}

module _ (r : Receiver) (refusal : Refusal) where
  abbrev Stood : Received → Type 0
  Stood x = x.answer ≡ Err refusal → x ≡ refused r refusal

  stood : (p : List ℕ) (read : Result Fax Refusal) → Stood (received_by r p read)
  unfolding taken_by acting
  stood p (Ok fax) =
      picked Stood (needs_modulation fax.command && not (is_on r)) _ _ (λ e is. cc)
      (λ e. picked Stood (against r fax.command (length (drop fax.front p))) _ _ (λ e is. cc)
      (λ e. picked Stood (repeats r fax.command fax.sequence fax.stamp) _ _ (λ e is. cc)
      (λ e. picked Stood (idle r fax.command) _ _ (λ e is. cc) (λ e is. cc))))
  stood p (Err first) = λ is. cc

pub refused-stands : RefusedStands
unfolding received
refused-stands r p refusal = stood r refusal p (fax_read p)
