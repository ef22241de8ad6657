-- Worked examples, on the definitions.
use mathlib.Core.Path.{◌≡◌, refl}
use mathlib.Core.List.{[], ◌∷◌}
use mathlib.Core.Bool.{true}
use Rattle.std.specs.declared.option.Option.TheVariants.{None, Some}
use Rattle.std.specs.declared.result.Result.TheVariants.{Err}
use Rattle.refusal.specs.declared.Refusal.TheVariants.{LengthWrong, ReservedCode, ValueOutOfRange}
use Rattle.octets.specs.Made.{unmade}
use Rattle.fax.specs.declared.Command.TheVariants.{Off, On, Page}
use Rattle.fax.specs.Fax.{front_of, command_of, is_page, body_sized, tone_refused, fax_read, fax_made}
use Rattle.fax.proofs.FaxCases.{told}

-- document 01, example 12, read (written: crates/bench)
pub example-12 : fax_read (129 ∷ 232 ∷ 3 ∷ 129 ∷ 0 ∷ 0 ∷ []) ≡ told 0 (Some 1000) (On true 1 0) 6
unfolding fax_read front_of command_of is_page body_sized tone_refused
example-12 = refl

-- on without EI1, command 5 with one octet: 14; no octet, and off with two: 13
pub on-without-ei1 : fax_read (1 ∷ []) ≡ Err ReservedCode
unfolding fax_read front_of command_of is_page body_sized tone_refused
on-without-ei1 = refl

pub command-5 : fax_read (5 ∷ []) ≡ Err ReservedCode
unfolding fax_read front_of command_of is_page body_sized tone_refused
command-5 = refl

pub no-octet : fax_read [] ≡ Err LengthWrong
unfolding fax_read front_of command_of is_page body_sized tone_refused
no-octet = refl

pub off-of-two : fax_read (128 ∷ 0 ∷ []) ≡ Err LengthWrong
unfolding fax_read front_of command_of is_page body_sized tone_refused
off-of-two = refl

-- data of 3 octets, and of 4; with EI1 and EI2
pub data-of-3 : fax_read (10 ∷ 7 ∷ 8 ∷ 9 ∷ []) ≡ told 1 None Page 1
unfolding fax_read front_of command_of is_page body_sized tone_refused
data-of-3 = refl

pub data-of-4 : fax_read (10 ∷ 7 ∷ 8 ∷ 9 ∷ 6 ∷ []) ≡ Err LengthWrong
unfolding fax_read front_of command_of is_page body_sized tone_refused
data-of-4 = refl

pub ei2-set : fax_read (138 ∷ 0 ∷ 128 ∷ 7 ∷ 8 ∷ 9 ∷ []) ≡ Err ReservedCode
unfolding fax_read front_of command_of is_page body_sized tone_refused
ei2-set = refl

-- a frequency beside modulation 1: 14; stamp 32,768: 15
pub tone-beside : fax_read (129 ∷ 232 ∷ 3 ∷ 1 ∷ 1 ∷ 0 ∷ []) ≡ Err ReservedCode
unfolding fax_read front_of command_of is_page body_sized tone_refused
tone-beside = refl

pub late : fax_made 0 (Some 32768) Off [] ≡ unmade ValueOutOfRange
unfolding fax_made body_sized
late = refl
