-- What is joined is octets, and the hypotheses of specs/Claims.antt can be met.
use Prim.Native.Nat.{ℕ, zero, suc, ◌+◌, ◌*◌, ◌/◌, ◌%◌, ◌<◌, ◌≤◌}
use mathlib.Core.Path.{◌≡◌, refl}
use mathlib.Core.List.{List, [], ◌∷◌, ◌++◌}
use mathlib.Core.Bool.{Bool, true, false, cond}
use mathlib.Core.Logic.{◌⊎◌, ⊎_elim}
use native.Mathlib.Omega.{arith}
use lib.Dec.{eqb}
use lib.ListN.{length, replicate}
use Rattle.octets.specs.Octets.{Octets}
use Rattle.frame.specs.Opening.{most_octets}
use Rattle.joining.specs.Joining.{Member, is_none, joined, ei_for, li_for, shortest_header}
use Rattle.joining.proofs.HeaderWritten.{ei-one-of}
use Rattle.framing.specs.Claims.{Carriable, Each, Fits, PayloadOctets, JoinedOctets, content, fullest}

octets-none : Octets []
octets-none i = omega arith

octets-cons : (x : ℕ) (l : List ℕ) → x < 256 → Octets l → Octets (x ∷ l)
octets-cons x l h o zero = h
octets-cons x l h o (suc i) = o i

octets-append : (a b : List ℕ) → Octets a → Octets b → Octets (a ++ b)
octets-append [] b oa ob i = ob i
octets-append (x ∷ a) b oa ob zero = oa zero
octets-append (x ∷ a) b oa ob (suc i) = octets-append a b (λ j. oa (suc j)) ob i

-- octet 1a, where EI is set; octet 1b, where it is not the last
ext-octets : (e x : ℕ) → (e ≡ 0) ⊎ (e ≡ 1) → x < 256 → Octets (cond (eqb e 0) [] (x ∷ []))
ext-octets e x bit h =
    ⊎_elim (λ (none : e ≡ 0). rw none octets-none) (λ (set : e ≡ 1). rw set (octets-cons x [] h octets-none)) bit

len-octets : (last : Bool) (n : ℕ) → (last ≡ false → n ≤ 255) → Octets (cond last [] (n ∷ []))
len-octets true n h = octets-none
len-octets false n h = octets-cons n [] (omega (arith, h refl)) octets-none

li-bit : (last : Bool) → li_for last ≤ 1
li-bit true = omega arith
li-bit false = omega arith

header-octets : (c : Member) (last : Bool) → Carriable c last → Octets (shortest_header c.cid c.ptype last (length c.payload))
unfolding shortest_header
header-octets c last fits =
    let e : ℕ = ei_for c.cid c.ptype in
    let bit = ei-one-of c.cid c.ptype in
    let small : e ≤ 1 = ⊎_elim (λ z. omega arith) (λ z. omega arith) bit in
    let ext : List ℕ = cond (eqb e 0) [] ((c.cid / 64 * 64 + c.ptype) ∷ []) in
    let len : List ℕ = cond last [] (length c.payload ∷ []) in
    octets-cons (e * 128 + li_for last * 64 + c.cid % 64) (ext ++ len) (omega (arith, li-bit last))
    (octets-append ext len (ext-octets e (c.cid / 64 * 64 + c.ptype) bit (omega (arith, fits.small, fits.four_bits)))
    (len-octets last (length c.payload) fits.short))

each-octets : (cs : List Member) → Each cs → PayloadOctets cs → Octets (joined cs)
unfolding joined
each-octets [] each payloads = octets-none
each-octets (c ∷ cs) each payloads =
    let header : List ℕ = shortest_header c.cid c.ptype (is_none cs) (length c.payload) in
    octets-append (header ++ c.payload) (joined cs)
    (octets-append header c.payload (header-octets c (is_none cs) each.0) payloads.0)
    (each-octets cs each.1 payloads.1)

pub joined-octets : JoinedOctets
joined-octets cs fits payloads = each-octets cs fits.each payloads

each-many : (n : ℕ) (c d : Member) → ((last : Bool) → Carriable c last) → Carriable d true → Each (replicate n c ++ d ∷ [])
each-many zero c d hc hd = (hd, tt)
each-many (suc n) c d hc hd = (hc (is_none (replicate n c ++ d ∷ [])), each-many n c d hc hd)

pub fullest-fits : Fits fullest
unfolding joined shortest_header
fullest-fits =
    record {
      some = omega arith;
      most = omega arith;
      each =
          each-many 63 (content 5 0 (replicate 23 0)) (content 200 4 (replicate 23 0))
          (λ last. record { free = omega arith; small = omega arith; four_bits = omega arith; short = λ z. omega arith })
          (record { free = omega arith; small = omega arith; four_bits = omega arith; short = λ z. omega arith });
      whole = omega arith;
    }

-- and they use the whole frame
pub fullest-is-full : length (joined fullest) ≡ most_octets
unfolding joined shortest_header
fullest-is-full = refl
