-- The two lists of specs/Examples.antt are legal: each content is made, by computing, and they fit.
use Prim.Native.Nat.{ℕ, zero, suc}
use mathlib.Core.Path.{refl}
use mathlib.Core.List.{List, [], ◌∷◌, ◌++◌}
use native.Mathlib.Omega.{arith}
use lib.ListN.{replicate}
use Rattle.octets.specs.Room.{written}
use Rattle.record.specs.Record.{packed, meaning, found_at, syntax_at}
use Rattle.joining.specs.Joining.{joined, shortest_header}
use Rattle.joining.specs.Joining as joining
use Rattle.framing.specs.Claims.{Each, Fits}
use Rattle.voice.specs.Voice.{voice_made, body_octets, block_octets, front_of}
use Rattle.sid.specs.Sid.{sid_made}
use Rattle.data.specs.Data.{data_made}
use Rattle.fax.specs.Fax.{fax_made, body_sized}
use Rattle.digits.specs.Layout.{digits_made}
use Rattle.signalling.specs.Layout.{signalling_made, all_allowed, pairs}
use Rattle.roundtrip.specs.Demand2.{Sub, AllStated, AllMade}
use Rattle.roundtrip.specs.Examples.{table, spoken, fragments, every_kind, fullest, EveryKindLegal, FullestLegal}
use Rattle.roundtrip.proofs.Taken.{made-is-taken}

abbrev content : ℕ → ℕ → List ℕ → joining.Member
content cid ptype payload = record { cid = cid; ptype = ptype; payload = payload }

abbrev every-content : List joining.Member
every-content =
    content 5 0 (replicate 10 170)
    ∷ content 5 1 (7 ∷ 0 ∷ 34 ∷ 5 ∷ 0 ∷ 0 ∷ 0 ∷ 0 ∷ [])
    ∷ content 5 2 (129 ∷ replicate 15 255)
    ∷ content 5 3 (128 ∷ 232 ∷ 3 ∷ [])
    ∷ content 5 4 []
    ∷ content 6 0 (193 ∷ 44 ∷ 1 ∷ [])
    ∷ []

every_made : AllMade table every_kind every-content
unfolding found_at meaning packed syntax_at voice_made body_octets block_octets front_of sid_made data_made fax_made body_sized digits_made signalling_made all_allowed pairs
every_made = grind arith

every-fits : Fits every-content
unfolding joined shortest_header
every-fits = grind arith

pub every-kind-legal : EveryKindLegal
unfolding joined shortest_header
every-kind-legal = (
  written (replicate 55 0) 0 (joined every-content),
  record {
    stated = grind arith;
    taken = made-is-taken table (replicate 55 0) every_kind every-content every_made every-fits (omega arith);
    to_last = refl;
  },
)

-- 63 spoken sub-frames and a data one
abbrev last-content : joining.Member
last-content = content 6 0 (192 ∷ 0 ∷ replicate 841 0)

abbrev full-content : List joining.Member
full-content = replicate 63 (content 5 0 (replicate 10 170)) ++ last-content ∷ []

many-made : (n : ℕ) (ss : List Sub) (cs : List joining.Member)
    → AllMade table ss cs
    → AllMade table (replicate n spoken ++ ss) (replicate n (content 5 0 (replicate 10 170)) ++ cs)
unfolding found_at meaning packed syntax_at voice_made body_octets block_octets front_of
many-made zero ss cs all = all
many-made (suc n) ss cs all = ((refl, refl, refl), many-made n ss cs all)

full-made : AllMade table fullest full-content
unfolding found_at meaning packed syntax_at data_made
full-made = many-made 63 (fragments ∷ []) (last-content ∷ []) ((refl, refl, refl), tt)

many-stated : (n : ℕ) (ss : List Sub) → AllStated ss → AllStated (replicate n spoken ++ ss)
many-stated zero ss all = all
many-stated (suc n) ss all = grind (arith, many-stated n ss all)

many-carriable : (n : ℕ) (cs : List joining.Member) → Each cs → Each (replicate n (content 5 0 (replicate 10 170)) ++ cs)
many-carriable zero cs each = each
many-carriable (suc n) cs each = grind (arith, many-carriable n cs each)

full-fits : Fits full-content
unfolding joined shortest_header
full-fits =
    record {
      some = omega arith;
      most = omega arith;
      each = many-carriable 63 (last-content ∷ []) (grind arith);
      whole = omega arith;
    }

pub fullest-legal : FullestLegal
unfolding joined shortest_header
fullest-legal = (
  written (replicate 1600 0) 0 (joined full-content),
  record {
    stated = many-stated 63 (fragments ∷ []) (grind arith);
    taken = made-is-taken table (replicate 1600 0) fullest full-content full-made full-fits (omega arith);
    to_last = refl;
  },
)
