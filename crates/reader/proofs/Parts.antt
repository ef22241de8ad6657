-- The payload of a sub-frame that a step yields is a part of the frame.
use Prim.Native.Nat.{ℕ, ◌≤◌}
use mathlib.Core.Path.{◌≡◌, refl, ap}
use mathlib.Core.List.{List}
use lib.ListN.{length}
use Rattle.header.specs.declared.SubFrame.{SubFrame}
use Rattle.header.specs.Header.{header_at, end_of}
use Rattle.header.proofs.HeaderInverse as inverse
use Rattle.reader.specs.declared.Place.{Place}
use Rattle.reader.specs.Reading.{met, next_of}
use Rattle.reader.specs.Claims.{PayloadsArePartsOfTheFrame}
use Rattle.reader.proofs.Cases as cases
use Rattle.std.specs.declared.result.Result.TheVariants.{Ok, Err}
use Rattle.std.specs.declared.option.Option.TheVariants.{Some, None}
use Rattle.std.specs.declared.result.Result.{Result}
use Rattle.std.specs.declared.option.Option.{Option}
use Rattle.refusal.specs.declared.Refusal.{Refusal}

module _ (s : List ℕ) (at : ℕ) (sub : SubFrame) (e : (next_of s at).found ≡ Some sub) where
  tells : (h : Result (Option SubFrame) Refusal) → header_at s at ≡ h → (next_of s at).found ≡ (met h at (length s)).found
  tells h t = ap (λ (p : Place). p.found) (cases.goes_on s at h t)

  -- a step finds a sub-frame only where a header tells it
  told : (h : Result (Option SubFrame) Refusal) → header_at s at ≡ h → header_at s at ≡ Ok (Some sub)
  told (Ok (Some x)) t = cc (t, tells (Ok (Some x)) t, e)
  told (Ok None) t = cc (tells (Ok None) t, e)
  told (Err refusal) t = cc (tells (Err refusal) t, e)

  ends-within : end_of sub ≤ length s
  ends-within = inverse.ends-within s at sub (told (header_at s at) refl)

pub payloads-are-parts-of-the-frame : PayloadsArePartsOfTheFrame
payloads-are-parts-of-the-frame r sub e =
    let within = ends-within r.frame.now r.at sub e in
    let w = cases.whole r.frame.now r.frame.ref_ptr sub within in
    record { within = within; octets = w.0; place = w.1 }
