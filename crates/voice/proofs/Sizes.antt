-- The sizes of voice payloads: their bounds.
use Prim.Native.Nat.{ℕ, zero, suc, ◌≤◌, ◌<◌}
use mathlib.Core.Path.{◌≡◌, refl}
use mathlib.Core.Bool.{Bool, true, false, cond}
use mathlib.Core.List.{[], ◌∷◌}
use native.Mathlib.Omega.{arith}
use lib.Dec.{eqb}
use lib.ListN.{length, take}
use Rattle.octets.proofs.Order.{clash}
use Rattle.record.specs.declared.syntax.Syntax.{Syntax}
use Rattle.record.specs.declared.syntax.Syntax.TheVariants.{Acelp, Pcm, G727, G728, G7231, Data, Fax}
use Rattle.record.specs.declared.syntax.Record.{Record}
use Rattle.voice.specs.Voice.{codings, is_g7231, front_by, front_of, voiceless, most_sequence}

pub codings-small : (syntax : Syntax) → codings syntax ≤ 15
codings-small Acelp = omega arith
codings-small Pcm = omega arith
codings-small G727 = omega arith
codings-small G728 = omega arith
codings-small G7231 = omega arith
codings-small Data = omega arith
codings-small Fax = omega arith

pub frame_coding : (syntax : Syntax) → is_g7231 syntax ≡ true → codings syntax ≡ 1
frame_coding Acelp e = refl
frame_coding Pcm e = clash false e refl
frame_coding G727 e = clash false e refl
frame_coding G728 e = refl
frame_coding G7231 e = refl
frame_coding Data e = clash false e refl
frame_coding Fax e = clash false e refl

-- what a front octet, or none, says of a syntax
record Front (syntax : Syntax) (front : ℕ) : Type 0 where
  one : front ≤ 1
  voice : 0 < front → voiceless syntax ≡ false
  bare : front ≡ 0 → codings syntax ≤ 1

seq-front : (syntax : Syntax) (seq : Bool) → codings syntax ≡ 1 → Front syntax (cond seq 1 0)
seq-front syntax true e = record { one = omega arith; voice = λ h. rw e; bare = λ h. omega arith }
seq-front syntax false e = record { one = omega arith; voice = λ h. rw e; bare = λ h. omega arith }

front_fair : (syntax : Syntax) (seq : Bool) → Front syntax (front_by syntax seq)
front_fair Acelp seq = seq-front Acelp seq refl
front_fair Pcm seq = record { one = omega arith; voice = λ h. refl; bare = λ h. absurd (omega arith) }
front_fair G727 seq = record { one = omega arith; voice = λ h. refl; bare = λ h. absurd (omega arith) }
front_fair G728 seq = seq-front G728 seq refl
front_fair G7231 seq = seq-front G7231 seq refl
front_fair Data seq = record { one = omega arith; voice = λ h. absurd (omega arith); bare = λ h. omega arith }
front_fair Fax seq = record { one = omega arith; voice = λ h. absurd (omega arith); bare = λ h. omega arith }

pub front_small : (r : Record) → front_of r ≤ 1
unfolding front_of
front_small r = (front_fair r.syntax r.seq).one

-- only a syntax with voice has a front octet
pub fronted-voice : (r : Record) → 0 < front_of r → voiceless r.syntax ≡ false
unfolding front_of
fronted-voice r h = (front_fair r.syntax r.seq).voice h

-- without a front octet the coding type can only be 0
pub bare-coding : (r : Record) → front_of r ≡ 0 → codings r.syntax ≤ 1
unfolding front_of
bare-coding r e = (front_fair r.syntax r.seq).bare e

-- the front octets
pub front_length : (front x : ℕ) → front ≤ 1 → length (take front (x ∷ [])) ≡ front
front_length zero x h = refl
front_length (suc zero) x h = refl
front_length (suc (suc n)) x h = absurd (omega arith)

pub most-small : (front : ℕ) → most_sequence front ≤ 15
most-small front = either_way (eqb front 0)
  where
    either_way : (none : Bool) → cond none 0 15 ≤ 15
    either_way true = omega arith
    either_way false = omega arith
