-- The octets of a coding type are five times its bits, which stand in one number, a hex digit for each coding type.
use Prim.Native.Nat.{ℕ, zero, suc, ◌+◌, ◌*◌, ◌/◌, ◌%◌, ◌^◌, ◌≤◌, ◌<◌}
use mathlib.Core.Path.{◌≡◌, refl, sym, ap, ◌∙◌}
use mathlib.Core.Bool.{Bool, true, false}
use mathlib.Core.Logic.{⊎_elim}
use mathlib.Core.List.{List, [], ◌∷◌, map}
use native.Mathlib.Nat.{div-div-eq-div-mul, zero-div}
use native.Mathlib.Omega.{arith}
use lib.Dec.{T}
use lib.ListN.{length, get_or, get_or-map, get_or-eq_default}
use lib.Pow.{pow-add}
use Rattle.octets.proofs.Table.{at_most, entries}
use Rattle.std.specs.declared.result.Result.TheVariants.{Err}
use Rattle.refusal.specs.declared.Refusal.TheVariants.{CodingTypeUnknown}
use Rattle.octets.proofs.Order.{lt-or-le}
use Rattle.record.specs.declared.syntax.Record.{Record}
use Rattle.record.specs.declared.syntax.Syntax.{Syntax}
use Rattle.record.specs.declared.syntax.Syntax.TheVariants.{Acelp, Pcm, G727, G728, G7231, Data, Fax}
use Rattle.record.specs.Record.{place}
use Rattle.voice.specs.Voice.{pcm_bits, g727_bits, codings, block_octets, is_g7231, voiceless}
use Rattle.voice.specs.Private.{length_judged, in_hex, fives_at}
use Rattle.voice.specs.Claims.{FiveTimesBits}
use Rattle.voice.proofs.VoiceCases.{judged}
use Rattle.voice.proofs.VoiceCases as cases

pub five-times-bits : FiveTimesBits
five-times-bits = record { pcm = refl; g727 = refl }

-- digit i of a list's number is entry i of the list
digit : (ns : List ℕ) → ((i : ℕ) → get_or ns i 0 ≤ 8) → (i : ℕ) → in_hex ns / 2 ^ (i * 4) % 16 ≡ get_or ns i 0
digit [] small i = rw (zero-div (2 ^ (i * 4)))
digit (n ∷ ns) small zero = let first : n ≤ 8 = small 0 in omega arith
digit (n ∷ ns) small (suc i) =
    let first : n ≤ 8 = small 0 in
    let higher : 2 ^ (suc i * 4) ≡ 16 * 2 ^ (i * 4) = ap (λ (k : ℕ). 2 ^ k) (omega arith) ∙ pow-add 2 4 (i * 4) in
    let lower : (in_hex ns * 16 + n) / 16 ≡ in_hex ns = omega arith in
    rw (higher, sym (div-div-eq-div-mul (in_hex ns * 16 + n) 16 (2 ^ (i * 4))), lower) (digit ns (λ j. small (suc j)) i)

-- one test over a table: no entry is 0
abbrev filled : List ℕ → Bool
filled [] = true
filled (zero ∷ ns) = false
filled (suc n ∷ ns) = filled ns

within : (ns : List ℕ) → T (filled ns) → (i : ℕ) → i < length ns → 0 < get_or ns i 0
within [] t i h = absurd (omega arith)
within (zero ∷ ns) t i h = absurd t
within (suc n ∷ ns) t zero h = omega arith
within (suc n ∷ ns) t (suc i) h = within ns t i (omega arith)

-- the octets of a coding type, as the code works them out
abbrev pub each_at : Syntax → ℕ → ℕ
each_at syntax coding = in_hex (fives_at (place syntax)) / 2 ^ (coding * 4) % 16 * 5

-- what they tell of a syntax of blocks: what document 01 has, or that there is no such coding type
pub record Blocks (syntax : Syntax) : Type 0 where
  pub no-frame : is_g7231 syntax ≡ false
  pub voice : voiceless syntax ≡ false
  pub most : (coding : ℕ) → each_at syntax coding ≤ 40
  pub none : (coding : ℕ) → codings syntax ≤ coding → each_at syntax coding ≡ 0
  pub some : (coding : ℕ) → coding < codings syntax → 0 < each_at syntax coding
  pub octets : (coding : ℕ) → coding < codings syntax → each_at syntax coding ≡ block_octets syntax coding

module _ (syntax : Syntax) where
  abbrev fives : List ℕ
  fives = fives_at (place syntax)

  table :
      is_g7231 syntax ≡ false
      → voiceless syntax ≡ false
      → T (at_most 8 fives)
      → T (filled fives)
      → length fives ≡ codings syntax
      → ((coding : ℕ) → coding < codings syntax → get_or fives coding 0 * 5 ≡ block_octets syntax coding)
      → Blocks syntax
  table no-frame voice most full long octets =
      let small : (i : ℕ) → get_or fives i 0 ≤ 8 = entries 8 fives most in
      let is : (i : ℕ) → each_at syntax i ≡ get_or fives i 0 * 5 = λ i. ap (λ (n : ℕ). n * 5) (digit fives small i) in
      record {
        no-frame = no-frame;
        voice = voice;
        most = λ i. rw (is i) (omega (arith, small i));
        none = λ i h. let out : length fives ≤ i = rw long h in is i ∙ rw (get_or-eq_default fives 0 out);
        some = λ i h. let in_table : i < length fives = rw long h in rw (is i) (omega (arith, within fives full i in_table));
        octets = λ i h. is i ∙ octets i h;
      }

-- acelp and g728
ten : (coding : ℕ) → coding < 1 → get_or (2 ∷ []) coding 0 * 5 ≡ 10
ten zero h = refl
ten (suc i) h = absurd (omega arith)

-- pcm and g727
tabled : (ns : List ℕ) {octets : List ℕ} → map (λ (b : ℕ). b * 5) ns ≡ octets → (i : ℕ) → get_or ns i 0 * 5 ≡ get_or octets i 0
tabled ns is i = sym (get_or-map (λ (b : ℕ). b * 5) ns i 0) ∙ ap (λ (l : List ℕ). get_or l i 0) is

-- every syntax before g7231 in document 01's list of syntax words
pub blocks : (syntax : Syntax) → place syntax < 5 → Blocks syntax
unfolding block_octets
blocks Acelp h = table Acelp refl refl tt tt refl ten
blocks Pcm h = table Pcm refl refl tt tt refl (λ i h. tabled pcm_bits five-times-bits.pcm i)
blocks G727 h = table G727 refl refl tt tt refl (λ i h. tabled g727_bits five-times-bits.g727 i)
blocks G728 h = table G728 refl refl tt tt refl ten
blocks G7231 h = absurd (omega arith)
blocks Data h = absurd (omega arith)
blocks Fax h = absurd (omega arith)

-- a body of blocks, by what the code works out: the syntax stands at a place before g7231, and its coding type has so many octets
module _ (syntax : Syntax) (coding at fives each : ℕ) (before : at < 5) (is : at ≡ place syntax) (told : fives ≡ in_hex (fives_at at))
    (five-times : each ≡ fives / 2 ^ (coding * 4) % 16 * 5) where
  of : Blocks syntax
  of = blocks syntax (omega arith)

  each-is : each ≡ each_at syntax coding
  each-is = five-times ∙ rw (told, is)

  pub each_small : each ≤ 40
  each_small = rw each-is (of.most coding)

module _ (r : Record) (coding : ℕ) (body : List ℕ) (at fives each : ℕ) (before : at < 5) (is : at ≡ place r.syntax)
    (told : fives ≡ in_hex (fives_at at)) (five-times : each ≡ fives / 2 ^ (coding * 4) % 16 * 5) where
  b : Blocks r.syntax
  b = of r.syntax coding at fives each before is told five-times

  same : each ≡ each_at r.syntax coding
  same = each-is r.syntax coding at fives each before is told five-times

  pub blocks_unknown : each ≡ 0 → judged r coding body ≡ Err CodingTypeUnknown
  blocks_unknown none =
      cases.unknown-judged r coding body b.no-frame b.voice
      (⊎_elim (λ known. absurd (omega (arith, b.some coding known, same))) (λ h. h) (lt-or-le coding (codings r.syntax)))

  pub blocks_known : (each ≡ 0 → ⊥) → judged r coding body ≡ length_judged r.m each (length body)
  blocks_known some =
      let known = ⊎_elim (λ h. h) (λ unknown. absurd (some (same ∙ b.none coding unknown))) (lt-or-le coding (codings r.syntax)) in
      cases.known-judged r coding body b.no-frame b.voice known (same ∙ b.octets coding known)
