-- The same list in other room that suffices: it is taken there, and joined to the same frame.
use Prim.Native.Nat.{ℕ}
use mathlib.Core.Path.{◌≡◌, sym, ap, ◌∙◌}
use mathlib.Core.List.{List}
use lib.ListN.{length, take}
use Rattle.octets.specs.Room.{written}
use Rattle.joining.specs.Joining.{joined}
use Rattle.place.specs.declared.Writer.{Writer}
use Rattle.roundtrip.specs.Demand2.{took, AnyRoom}
use Rattle.roundtrip.proofs.RoundTrip.{frame_is, legal-is-made}
use Rattle.roundtrip.proofs.Taken.{made-is-taken}

pub any-room : AnyRoom
any-room table frame other ss w left legal enough =
    let back = legal-is-made table frame ss w left legal in
    let f = joined back.0 in
    let at : w.at ≡ length f = ap (λ (v : Writer). v.at) back.4 in
    let there = written other 0 f in
    let same : (room : List ℕ) → take w.at (written room 0 f) ≡ f = λ room. ap (λ (n : ℕ). take n (written room 0 f)) at ∙ frame_is room f in (
      there,
      record {
        stated = legal.stated;
        taken =
            made-is-taken table other ss back.0 back.1 back.2 (rw at at enough)
            ∙ ap (λ (v : Writer). took v there) (sym back.4);
        to_last = legal.to_last;
      },
      same other ∙ sym (ap (take w.at) back.5 ∙ same frame),
    )
