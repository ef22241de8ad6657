-- The loop of `read_text`: what was found, what stands in the table, and what is still to come of the text.
use Prim.Native.Nat.{ℕ, suc, ◌+◌, ◌-◌, ◌<◌, ◌≤◌}
use mathlib.Core.Path.{◌≡◌, refl, sym, ap, ◌∙◌}
use mathlib.Core.List.{List, [], ◌∷◌, ◌++◌, append-nil}
use mathlib.Core.Bool.{true, false}
use native.Mathlib.Omega.{arith}
use borrow.Author.Tests.{lt-ltb, le-ltb, eqb-true, eqb-false}
use lib.Dec.{eqb}
use lib.ListN.{length, take, drop, set, replicate, length-append, length-drop}
use lib.Seq.{append_snoc}
use Rattle.std.specs.declared.result.Result.{Result}
use Rattle.std.specs.declared.result.Result.TheVariants.{Ok, Err}
use Rattle.provisioning.specs.declared.line.State.{State}
use Rattle.provisioning.specs.declared.line.Step.{Step}
use Rattle.record.specs.Record.{packed}
use Rattle.provisioning.specs.Line.{start, row, line_at}
use Rattle.provisioning.specs.Text.{most_octets, Entry, Reading, refused, taken, before, at_end, onwards, walk, reading, filled, table_of}
use Rattle.value.proofs.Values as values
use Rattle.provisioning.proofs.Steps as steps
use Rattle.refusal.specs.declared.Refusal.{Refusal}
use Rattle.refusal.specs.declared.Refusal.TheVariants.{LineMalformed, TextTooLong}

-- entries that were found, before what is still to come
abbrev pub behind : List Entry → Reading → Reading
behind found (refused refusal line) = refused refusal line
behind found (taken es) = taken (found ++ es)

behind-none : (r : Reading) → behind [] r ≡ r
behind-none (refused refusal line) = refl
behind-none (taken es) = refl

behind_more : (found : List Entry) (e : Entry) (r : Reading) → behind found (before e r) ≡ behind (found ++ e ∷ []) r
behind_more found e (refused refusal line) = refl
behind_more found e (taken es) = ap taken (sym (append_snoc found e es))

filled_more : (t : List ℕ) (found : List Entry) (e : Entry) → filled t (found ++ e ∷ []) ≡ set (filled t found) e.cid (packed e.made)
filled_more t [] e = refl
filled_more t (f ∷ fs) e = filled_more (set t f.cid (packed f.made)) fs e

pub too_long : (s : List ℕ) → most_octets < length s → reading s ≡ refused TextTooLong 0
unfolding reading
too_long s h = simp (lt-ltb most_octets (length s) h)

pub walked : (s : List ℕ) → length s ≤ most_octets → reading s ≡ walk (most_octets + 1) start 0 s
unfolding reading
walked s h = simp (le-ltb most_octets (length s) h)

-- the walk where the text ends, and where it goes on
walk-end : (room done : ℕ) (st : State) (s : List ℕ) → length s ≡ 0 → walk (suc room) st done s ≡ at_end st.kind done
unfolding walk
walk-end room done st [] e = refl
walk-end room done st (x ∷ xs) e = absurd (omega arith)

pub walk-on :
    (room done : ℕ) (st : State) (s : List ℕ)
    → 0 < length s
    → walk (suc room) st done s ≡ onwards (line_at st s) done s (λ next rest. walk room next (done + 1) rest)
unfolding walk
walk-on room done st [] h = absurd (omega arith)
walk-on room done st (x ∷ xs) h = refl

-- After `done` lines: the places hold what was found, and the whole reading is that, before the walk of the rest.
pub record Going (s rest places : List ℕ) (st : State) (done blocks : ℕ) : Type 0 where
  pub found : List Entry
  pub many : length found ≡ blocks
  pub stands : places ≡ table_of found
  pub fits : length s ≤ most_octets
  pub lines : done + length rest ≤ length s
  pub counted : blocks ≤ done
  pub reads : reading s ≡ behind found (walk (most_octets + 1 - done) st done rest)

pub begins : (s : List ℕ) (st : State) → length s ≤ most_octets → st ≡ start → Going s s (replicate 256 0) st 0 0
begins s st fits is =
    record {
      found = [];
      many = refl;
      stands = refl;
      fits = fits;
      lines = omega arith;
      counted = omega arith;
      reads = walked s fits ∙ sym (rw is (behind-none (walk (most_octets + 1) start 0 s)));
    }

module _ {s rest places : List ℕ} {st : State} {done blocks : ℕ} (going : Going s rest places st done blocks) where
  room : most_octets + 1 - done ≡ suc (most_octets - done)
  room = omega (arith, going.fits, going.lines)

  module _ (ends : eqb (length rest) 0 ≡ true) where
    at-end : reading s ≡ behind going.found (at_end st.kind done)
    at-end = going.reads ∙ rw room (ap (behind going.found) (walk-end (most_octets - done) done st rest (eqb-true (length rest) 0 ends)))

    pub cut : (row st.kind).begins ≡ false → reading s ≡ refused LineMalformed (done + 1)
    cut e = at-end ∙ simp e

    pub all : (row st.kind).begins ≡ true → reading s ≡ taken going.found
    all e = at-end ∙ simp (e, append-nil)

  module _ (more : eqb (length rest) 0 ≡ false) where
    some : 0 < length rest
    some = let ne = eqb-false (length rest) 0 more in omega arith

    on :
        (step : Result Step Refusal)
        → line_at st rest ≡ step
        → reading s ≡ behind going.found (onwards step done rest (λ next left. walk (most_octets - done) next (done + 1) left))
    on step e = going.reads ∙ rw (room, ← e) (ap (behind going.found) (walk-on (most_octets - done) done st rest some))

    module _ {step : Step} (e : line_at st rest ≡ Ok step) where
      pub line-size : (1 ≤ step.size) × (step.size ≤ length rest)
      line-size =
          steps.line-cases st rest (λ r. r ≡ Ok step → (1 ≤ step.size) × (step.size ≤ length rest))
          (λ v took is. let same : v.size ≡ step.size = cc in (omega (arith, took.some), omega (arith, took.within)))
          (λ refusal is. let z : ◌≡◌ {A = ℕ} 0 1 = cc in absurd (omega arith))
          e

      left : take (length rest - step.size) (drop step.size rest) ≡ drop step.size rest
      left = values.rest_is rest step.size

      pub shorter : length (take (length rest - step.size) (drop step.size rest)) < length rest
      shorter = let sized = line-size in rw left (omega (arith, length-drop step.size rest))

      fewer : most_octets + 1 - (done + 1) ≡ most_octets - done
      fewer = omega arith

      -- a line after which the block goes on
      pub turn :
          (row step.state.kind).begins ≡ false
          → Going s (take (length rest - step.size) (drop step.size rest)) places step.state (done + 1) blocks
      turn inside =
          record {
            found = going.found;
            many = going.many;
            stands = going.stands;
            fits = going.fits;
            lines = omega (arith, shorter, going.lines);
            counted = omega (arith, going.counted);
            reads = rw (left, fewer) (on (Ok step) e ∙ rw inside);
          }

      -- the last line of a block
      pub block :
          {number : ℕ}
          → (row step.state.kind).begins ≡ true
          → number ≡ packed step.state.made
          → Going s (take (length rest - step.size) (drop step.size rest)) (set places step.state.cid number) step.state (done + 1) (blocks + 1)
      block {number} ended packs =
          let entry : Entry = record { cid = step.state.cid; made = step.state.made } in
          record {
            found = going.found ++ entry ∷ [];
            many = length-append going.found (entry ∷ []) ∙ ap (λ (n : ℕ). n + 1) going.many;
            stands = rw (going.stands, packs) (sym (filled_more (replicate 256 0) going.found entry));
            fits = going.fits;
            lines = omega (arith, shorter, going.lines);
            counted = omega (arith, going.counted);
            reads =
                rw (left, fewer)
                (on (Ok step) e ∙ rw ended (behind_more going.found entry (walk (most_octets - done) step.state (done + 1) (drop step.size rest))));
          }

    pub stops : {refusal : Refusal} → line_at st rest ≡ Err refusal → reading s ≡ refused refusal (done + 1)
    stops {refusal} e = on (Err refusal) e
