-- What `signalling_read` and `signalling_made` give in each of their cases.
use Prim.Native.Nat.{ℕ, ◌≤◌}
use mathlib.Core.Path.{◌≡◌}
use mathlib.Core.List.{List, ◌∷◌}
use mathlib.Core.Bool.{true}
use borrow.Author.Tests.{le-ltb, eq-eqb, ne_eqb}
use lib.ListN.{length}
use Rattle.std.specs.declared.result.Result.TheVariants.{Ok, Err}
use Rattle.refusal.specs.declared.Refusal.TheVariants.{LengthWrong}
use Rattle.octets.specs.Made.{made}
use Rattle.signalling.specs.declared.layout.Signalling.{Signalling}
use Rattle.signalling.specs.Layout.{signalling_in, signalling_read, all_allowed, first_octet, pairs, signalling_made}

module _ (p : List ℕ) where
  pub wrong : (length p ≡ 16 → ⊥) → signalling_read p ≡ Err LengthWrong
  unfolding signalling_read
  wrong h = simp (ne_eqb (length p) 16 h)

  pub right : length p ≡ 16 → signalling_read p ≡ Ok (signalling_in p)
  unfolding signalling_read
  right h = simp (eq-eqb (length p) 16 h)

pub all_right :
    (s : Signalling)
    → s.sequence.0 ≤ 127
    → all_allowed 30 0 s.samples ≡ true
    → signalling_made s ≡ made (first_octet s ∷ pairs 15 0 s.samples)
unfolding signalling_made
all_right s within h = simp (le-ltb 127 s.sequence.0 within, h)
