-- What `sid_read` and `sid_made` give in each of their cases.
use Prim.Native.Nat.{ℕ, ◌≤◌}
use mathlib.Core.Path.{◌≡◌, refl, sym, ap, ◌∙◌}
use mathlib.Core.List.{List, []}
use mathlib.Core.Bool.{true, false}
use borrow.Author.Tests.{ltb-false}
use lib.IntN.{ℤ}
use Rattle.std.specs.declared.result.Result.{Result}
use Rattle.std.specs.declared.result.Result.TheVariants.{Ok, Err}
use Rattle.octets.proofs.Order.{clash}
use Rattle.octets.proofs.MadeBack.{octets-made, never-made, same-made}
use Rattle.octets.specs.Made.{made, unmade, fit_of, put_made, left_made}
use Rattle.octets.specs.Room.{put, left_by}
use Rattle.counts.specs.declared.VoiceCount.{VoiceCount}
use Rattle.levels.specs.declared.Beyond.{Beyond}
use Rattle.record.specs.declared.syntax.Syntax.{Syntax}
use Rattle.sid.specs.declared.Sid.{Sid}
use Rattle.sid.specs.declared.Sid.TheVariants.{Noise, Plain}
use Rattle.sid.specs.Sid.{sid_in, read_refusals, sid_read, out_of_range, magnitude_in, write_refusals, octets_for, sid_made}
use Rattle.refusal.proofs.Order.{Passes, sounds, passed}

module _ (syntax : Syntax) (payload : List ℕ) where
  pub reads : Passes (read_refusals syntax payload) → sid_read syntax payload ≡ Ok (sid_in syntax payload)
  unfolding sid_read
  reads all = sounds Err _ (read_refusals syntax payload) all

module _ (syntax : Syntax) (sid : Sid) where
  pub makes : Passes (write_refusals syntax sid) → sid_made syntax sid ≡ made (octets_for sid)
  unfolding sid_made
  makes all = sounds unmade _ (write_refusals syntax sid) all

  pub made-passed : (octets : List ℕ) → sid_made syntax sid ≡ made octets → Passes (write_refusals syntax sid) × (octets_for sid ≡ octets)
  unfolding sid_made
  made-passed octets e =
      let all = passed unmade _ (write_refusals syntax sid) (made octets) (λ n m. never-made (unmade n) n octets refl m) e in
      (all.0, same-made (made octets) (octets_for sid) octets (sym all.1) refl)

-- a level in range has its magnitude
pub in-range : (c : Result ℕ Beyond) → out_of_range c ≡ false → c ≡ Ok (magnitude_in c)
in-range (Ok magnitude) h = refl
in-range (Err beyond) h = clash true refl h

-- what fits is made of its octets, and its sequence has four bits
fit_made : (syntax : Syntax) (sid : Sid) (n : ℕ) → fit_of (sid_made syntax sid) ≡ Ok n → sid_made syntax sid ≡ made (octets_for sid)
fit_made syntax sid n e = let m = octets-made (sid_made syntax sid) n e in m.1 ∙ ap made (sym (made-passed syntax sid m.0 m.1).1)

pub plain_made : (syntax : Syntax) (n : ℕ) → fit_of (sid_made syntax Plain) ≡ Ok n → sid_made syntax Plain ≡ made []
plain_made syntax n e = fit_made syntax Plain n e

module _ (syntax : Syntax) (s : VoiceCount) (z : ℤ) (n : ℕ) (e : fit_of (sid_made syntax (Noise s z)) ≡ Ok n) where
  pub noise_put : (room : List ℕ) (at : ℕ) → put_made room at (sid_made syntax (Noise s z)) ≡ put room at (octets_for (Noise s z))
  noise_put room at = ap (put_made room at) (fit_made syntax (Noise s z) n e)

  pub noise_left :
      (room : List ℕ) (at : ℕ)
      → left_made room at (sid_made syntax (Noise s z)) ≡ left_by (put room at (octets_for (Noise s z))) room at (octets_for (Noise s z))
  noise_left room at = ap (left_made room at) (fit_made syntax (Noise s z) n e)

  pub noise_four_bits : s.0 ≤ 15
  noise_four_bits = let m = octets-made (sid_made syntax (Noise s z)) n e in ltb-false 15 s.0 (made-passed syntax (Noise s z) m.0 m.1).0.1.1.0
