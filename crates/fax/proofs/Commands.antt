-- Commands, by their codes; those but on have no octets of their own.
use Prim.Native.Nat.{ℕ, zero, suc, ◌+◌, ◌≤◌}
use mathlib.Core.Path.{◌≡◌, refl}
use mathlib.Core.List.{[]}
use mathlib.Core.Bool.{Bool, false}
use native.Mathlib.Omega.{arith}
use lib.ListN.{length}
use Rattle.fax.specs.declared.Command.{Command}
use Rattle.fax.specs.declared.Command.TheVariants.{Off, On, Page, EndOfFrame, Abort}
use Rattle.fax.specs.Fax.{code_of, stamp_octets, command_octets, front_of, command_of, refused_on}
use Rattle.std.specs.declared.option.Option.{Option}

pub record Plain (command : Command) : Type 0 where
  pub none : command_octets command ≡ []
  pub taken : refused_on command ≡ false

pub plain : (command : Command) → (code_of command ≡ 1 → ⊥) → Plain command
plain Off other = record { none = refl; taken = refl }
plain (On hdlc modulation frequency) other = absurd (other refl)
plain Page other = record { none = refl; taken = refl }
plain EndOfFrame other = record { none = refl; taken = refl }
plain Abort other = record { none = refl; taken = refl }

-- an arm of a match for every command but on
pub not-on : (command : Command) → ((hdlc : Bool) (modulation frequency : ℕ) → command ≡ On hdlc modulation frequency → ⊥) → Plain command
not-on Off other = plain Off (λ e. omega arith)
not-on (On hdlc modulation frequency) other = absurd (other hdlc modulation frequency refl)
not-on Page other = plain Page (λ e. omega arith)
not-on EndOfFrame other = plain EndOfFrame (λ e. omega arith)
not-on Abort other = plain Abort (λ e. omega arith)

pub plain-front : (stamp : Option ℕ) (command : Command) → Plain command → front_of stamp command ≡ 1 + length (stamp_octets stamp) + 0
unfolding front_of
plain-front stamp command p = rw p.none

-- the command of a code has that code
pub code-back : (code : ℕ) (hdlc : Bool) (modulation frequency : ℕ) → code ≤ 4 → code_of (command_of code (On hdlc modulation frequency)) ≡ code
unfolding command_of
code-back zero h m f known = refl
code-back (suc zero) h m f known = refl
code-back (suc (suc zero)) h m f known = refl
code-back (suc (suc (suc zero))) h m f known = refl
code-back (suc (suc (suc (suc zero)))) h m f known = refl
code-back (suc (suc (suc (suc (suc code))))) h m f known = absurd (omega arith)
