-- Pieces of any size tell what the whole input tells. What has come of the present line is `part`; of it the first 3,207 octets are
-- kept, and they decide.
use Prim.Native.Nat.{ℕ, zero, suc, ◌+◌, ◌-◌, ◌<◌, ◌≤◌}
use mathlib.Core.Path.{◌≡◌, refl, sym, ap, ap₂, subst, ◌∙◌}
use mathlib.Core.List.{List, [], ◌∷◌, ◌++◌, append_assoc, append-nil}
use mathlib.Core.Bool.{Bool, true, false, cond, ◌&&◌}
use mathlib.Core.Logic.{⊎_elim}
use native.Mathlib.Omega.{arith}
use borrow.Author.Tests.{lt-ltb, le-ltb, eq-eqb, ne_eqb}
use lib.Dec.{ltb, eqb}
use lib.ListN.{length, take, drop, length-append, length-take, length-drop, drop_of_length-le}
use lib.Seq.{take-nil, take_all, take_at, take-append-le, drop-append-le, take-append-add, drop-append-add, drop-drop, length-take-le}
use Rattle.octets.specs.Text.{has_lf}
use Rattle.octets.proofs.Order.{eq-or-ne, either}
use Rattle.octets.proofs.Texts as texts
use Rattle.octets.proofs.Writes as writes
use Rattle.recording.specs.declared.stream.Begun.{Begun}
use Rattle.recording.specs.Pieces.{line_size, line_ends, to_keep}
use Rattle.recording.specs.Stream.{next_number, have_of, kept_of, line_of, next_of, kept_behind}
use Rattle.recording.specs.Walk.{Told, Tell, Walk, nothing, behind, lines_told, stopped, before, next_told, walk, piece_told, last_told, parts_told, pieces_told, whole}
use Rattle.recording.specs.Claims.{most_kept, ByStart, PiecesTell, FewLines, SomeTaken}
use Rattle.recording.proofs.Blocks as blocks
use Rattle.recording.proofs.Ends as ends
use Rattle.recording.proofs.Keeping as keeping
use Rattle.recording.proofs.Walks as walks

-- a line that goes on, before other octets
on-size : (part q : List ℕ) → has_lf part ≡ false → line_size (part ++ q) ≡ length part + line_size q
unfolding has_lf line_size
on-size [] q e = omega arith
on-size (x ∷ xs) q e = go (eqb x 10) e (on-size xs q)
  where
    go :
        (t : Bool)
        → cond t true (has_lf xs) ≡ false
        → (has_lf xs ≡ false → line_size (xs ++ q) ≡ length xs + line_size q)
        → cond t 1 (suc (line_size (xs ++ q))) ≡ suc (length xs) + line_size q
    go true e rest = absurd (texts.true-not-false e)
    go false e rest = omega (arith, rest e)

-- a line that ends, before other octets
own-size : (p r : List ℕ) → has_lf p ≡ true → line_size (p ++ r) ≡ line_size p
unfolding has_lf line_size
own-size [] r e = absurd (texts.true-not-false (sym e))
own-size (x ∷ xs) r e = go (eqb x 10) e (own-size xs r)
  where
    go :
        (t : Bool)
        → cond t true (has_lf xs) ≡ true
        → (has_lf xs ≡ true → line_size (xs ++ r) ≡ line_size xs)
        → cond t 1 (suc (line_size (xs ++ r))) ≡ cond t 1 (suc (line_size xs))
    go true e rest = refl
    go false e rest = ap suc (rest e)

-- the line by itself
line-alone : (p : List ℕ) → line_size (take (line_size p) p) ≡ line_size p
unfolding line_size
line-alone [] = refl
line-alone (x ∷ xs) = go (eqb x 10) refl (line-alone xs)
  where
    go :
        (t : Bool)
        → eqb x 10 ≡ t
        → line_size (take (line_size xs) xs) ≡ line_size xs
        → line_size (take (cond t 1 (suc (line_size xs))) (x ∷ xs)) ≡ cond t 1 (suc (line_size xs))
    go true e rest = simp e
    go false e rest = simp e (ap suc rest)

-- the lines that end
ends-own : (p r : List ℕ) → has_lf p ≡ true → line_ends (p ++ r) ≡ suc (line_ends (drop (line_size p) p ++ r))
unfolding has_lf line_size line_ends
ends-own [] r e = absurd (texts.true-not-false (sym e))
ends-own (x ∷ xs) r e = go (eqb x 10) e (ends-own xs r)
  where
    go :
        (t : Bool)
        → cond t true (has_lf xs) ≡ true
        → (has_lf xs ≡ true → line_ends (xs ++ r) ≡ suc (line_ends (drop (line_size xs) xs ++ r)))
        → cond t (suc (line_ends (xs ++ r))) (line_ends (xs ++ r)) ≡ suc (line_ends (drop (cond t 1 (suc (line_size xs))) (x ∷ xs) ++ r))
    go true e rest = refl
    go false e rest = rest e

ends-none : (p r : List ℕ) → has_lf p ≡ false → line_ends (p ++ r) ≡ line_ends r
unfolding has_lf line_ends
ends-none [] r e = refl
ends-none (x ∷ xs) r e = go (eqb x 10) e (ends-none xs r)
  where
    go :
        (t : Bool)
        → cond t true (has_lf xs) ≡ false
        → (has_lf xs ≡ false → line_ends (xs ++ r) ≡ line_ends r)
        → cond t (suc (line_ends (xs ++ r))) (line_ends (xs ++ r)) ≡ line_ends r
    go true e rest = absurd (texts.true-not-false e)
    go false e rest = rest e

pub few-lines : FewLines
unfolding line_ends
few-lines [] = omega arith
few-lines (x ∷ xs) = go (eqb x 10) (few-lines xs)
  where
    go : (t : Bool) → line_ends xs ≤ length xs → cond t (suc (line_ends xs)) (line_ends xs) ≤ suc (length xs)
    go true h = omega arith
    go false h = omega arith

-- the first octets of two lists, one behind the other
start_of : (m : ℕ) (a b : List ℕ) → take m (a ++ b) ≡ take m a ++ take (m - length (take m a)) b
start_of zero a b = refl
start_of (suc m) [] b = let all : suc m - 0 ≡ suc m = omega arith in rw all
start_of (suc m) (x ∷ xs) b =
    let less : suc m - suc (length (take m xs)) ≡ m - length (take m xs) = omega arith in
    rw less (ap (λ (l : List ℕ). x ∷ l) (start_of m xs b))

none-there : (s : List ℕ) → length s ≡ 0 → s ≡ []
none-there [] e = refl
none-there (x ∷ xs) e = absurd (omega arith)

-- the number of the next line
next-is : (n : ℕ) → n < 18446744073709551615 → next_number n ≡ n + 1
unfolding next_number
next-is n h = simp (lt-ltb n 18446744073709551615 h)

-- with room for a line's text, a line or what there is of it is taken
pub some-taken : SomeTaken
some-taken S tell most room begun kept state [] enough some = absurd (omega arith)
some-taken S tell most room begun kept state (x ∷ xs) enough some =
    let on = walks.walk-on tell most (length xs) room 0 begun kept state (x ∷ xs) some (omega arith) in
    omega (arith, ap (λ (w : Walk S). w.taken) on, ends.size-some (x ∷ xs) some)

-- How a program stands behind `part` of a line.
pub record Stands (part : List ℕ) (begun : Begun) (kept : List ℕ) : Type 0 where
  pub goes_on : has_lf part ≡ false
  pub room : length kept ≡ most_kept
  pub size : begun.have ≡ length (take most_kept part)
  pub holds : take begun.have kept ≡ take most_kept part

-- before a line
fresh : (begun : Begun) (kept : List ℕ) → begun.have ≡ 0 → length kept ≡ most_kept → Stands [] begun kept
unfolding has_lf
fresh begun kept none room =
    let nil : ◌≡◌ {A = List ℕ} (take most_kept []) [] = take-nil most_kept in
    record {
      goes_on = refl;
      room = room;
      size = none ∙ ap (λ (l : List ℕ). length l) (sym nil);
      holds = ap (λ (k : ℕ). take k kept) none ∙ sym nil;
    }

module _ {part : List ℕ} {begun : Begun} {kept : List ℕ} (stands : Stands part begun kept) where
  part_none : begun.have ≡ 0 → part ≡ []
  part_none none = none-there part (omega (arith, stands.size, length-take most_kept part))

  -- what a piece has of the line, behind what is kept
  module _ (p : List ℕ) where
    abbrev own : List ℕ
    own = take (line_size p) p

    abbrev more : List ℕ
    more = to_keep (length kept) begun.have p

    size-kept : length (take begun.have kept) ≡ begun.have
    size-kept = ap length stands.holds ∙ sym stands.size

    keeps : take begun.have kept ++ more ≡ take most_kept (part ++ own)
    keeps =
        let left : length kept - begun.have ≡ most_kept - length (take most_kept part) = omega (arith, stands.room, stands.size) in
        ap (λ (l : List ℕ). l ++ more) stands.holds
        ∙ ap (λ (k : ℕ). take most_kept part ++ take k own) left
        ∙ sym (start_of most_kept part own)

    size-more : length (take begun.have kept ++ more) ≡ have_of begun.have kept p
    size-more = omega (arith, length-append (take begun.have kept) more, size-kept)

    kept-is : take (have_of begun.have kept p) (kept_of begun.have kept p) ≡ take most_kept (part ++ own)
    kept-is =
        take_at (take begun.have kept ++ more) (drop (begun.have + length more) kept) (have_of begun.have kept p) size-more
        ∙ keeps

    have-is : have_of begun.have kept p ≡ length (take most_kept (part ++ own))
    have-is = sym size-more ∙ ap length keeps

    room-is : length (kept_of begun.have kept p) ≡ most_kept
    room-is =
        let within : begun.have ≤ length kept = omega (arith, stands.room, stands.size, length-take most_kept part) in
        writes.length-written kept more begun.have (keeping.kept-within (length kept) begun.have p within) ∙ stands.room

    -- the line goes on behind the piece
    on : has_lf p ≡ false → Stands (part ++ p) (next_of begun kept p) (kept_behind begun.have kept p)
    on none =
        let all : own ≡ p = take_all (line_size p) p (omega (arith, blocks.no_end p none)) in
        let have : (next_of begun kept p).have ≡ have_of begun.have kept p = simp none in
        let kept-now : kept_behind begun.have kept p ≡ kept_of begun.have kept p = simp none in
        let parts : take most_kept (part ++ own) ≡ take most_kept (part ++ p) = ap (λ (l : List ℕ). take most_kept (part ++ l)) all in
        record {
          goes_on = blocks.has-append part p ∙ simp (stands.goes_on, none);
          room = ap length kept-now ∙ room-is;
          size = have ∙ have-is ∙ ap length parts;
          holds = ap₂ (λ (k : ℕ) (l : List ℕ). take k l) have kept-now ∙ kept-is ∙ parts;
        }

    -- the line ends in it
    past : has_lf p ≡ true → Stands [] (next_of begun kept p) (kept_behind begun.have kept p)
    past lf = fresh (next_of begun kept p) (kept_behind begun.have kept p) (simp lf) (go (has_lf p && eqb begun.have 0))
      where
        go : (t : Bool) → length (cond t kept (kept_of begun.have kept p)) ≡ most_kept
        go true = stands.room
        go false = room-is

    one_line : line_size (part ++ own) ≡ length (part ++ own)
    one_line =
        let size : length own ≡ line_size p = length-take-le (line_size p) p (ends.size-within p) in
        on-size part own stands.goes_on ∙ omega (arith, line-alone p, size, length-append part own)

module _ {S : Type 0} (tell : Tell S) (by-start : ByStart tell) where
  -- the lines from number n on
  abbrev from : ℕ → S → List ℕ → Told S
  from n state s = lines_told tell (length s) n state s

  any_fuel :
      (m k n : ℕ) (state : S) (s : List ℕ) → length s ≤ m → length s ≤ k → lines_told tell m n state s ≡ lines_told tell k n state s
  unfolding lines_told
  any_fuel zero zero n state s g h = refl
  any_fuel zero (suc k) n state [] g h = refl
  any_fuel zero (suc k) n state (x ∷ xs) g h = absurd (omega arith)
  any_fuel (suc m) zero n state [] g h = refl
  any_fuel (suc m) zero n state (x ∷ xs) g h = absurd (omega arith)
  any_fuel (suc m) (suc k) n state [] g h = refl
  any_fuel (suc m) (suc k) n state (x ∷ xs) g h =
      let some : 0 < line_size (x ∷ xs) = ends.size-some (x ∷ xs) (omega arith) in
      let rest : length (drop (line_size (x ∷ xs)) (x ∷ xs)) ≤ length xs = omega (arith, length-drop (line_size (x ∷ xs)) (x ∷ xs)) in
      ap (behind (tell n (take (line_size (x ∷ xs)) (x ∷ xs)) state).text)
      (any_fuel m k (n + 1) (tell n (take (line_size (x ∷ xs)) (x ∷ xs)) state).state (drop (line_size (x ∷ xs)) (x ∷ xs)) (omega arith) (omega arith))

  -- the first of them, and the others
  abbrev line-then : ℕ → S → List ℕ → List ℕ → Told S
  line-then n state line rest = behind (tell n line state).text (from (n + 1) (tell n line state).state rest)

  first-line : (n : ℕ) (state : S) (s : List ℕ) → 0 < length s → from n state s ≡ line-then n state (take (line_size s) s) (drop (line_size s) s)
  unfolding lines_told
  first-line n state [] h = absurd (omega arith)
  first-line n state (x ∷ xs) h =
      let some : 0 < line_size (x ∷ xs) = ends.size-some (x ∷ xs) h in
      ap (behind (tell n (take (line_size (x ∷ xs)) (x ∷ xs)) state).text)
      (any_fuel (length xs) (length (drop (line_size (x ∷ xs)) (x ∷ xs))) (n + 1) (tell n (take (line_size (x ∷ xs)) (x ∷ xs)) state).state
      (drop (line_size (x ∷ xs)) (x ∷ xs)) (omega (arith, length-drop (line_size (x ∷ xs)) (x ∷ xs))) (omega arith))

  -- Of all that is to be told, `said` is told; the rest follows from how the program stands.
  pub record Reached (all said : Told S) (begun : Begun) (kept rest : List ℕ) : Type 0 where
    pub part : List ℕ
    pub stands : Stands part begun kept
    pub few : begun.number + line_ends rest < 18446744073709551616
    pub tells : all ≡ behind said.text (from begun.number said.state (part ++ rest))

  then :
      {all said later : Told S} {begun next : Begun} {kept now rest end : List ℕ}
      → (first : Reached all said begun kept rest)
      → Reached (from begun.number said.state (first.part ++ rest)) later next now end
      → Reached all (behind said.text later) next now end
  then {all} {said} {later} {begun} {next} {kept} {now} {rest} {end} first second =
      let left : Told S = from next.number later.state (second.part ++ end) in
      record {
        part = second.part;
        stands = second.stands;
        few = second.few;
        tells =
            first.tells ∙ ap (behind said.text) second.tells
            ∙ ap (λ (l : List ℕ). record { text = l; state = left.state }) (sym (append_assoc said.text later.text left.text));
      }

  module _ {part : List ℕ} {begun : Begun} {kept : List ℕ} (stands : Stands part begun kept) (state : S) where
    -- nothing is told yet
    stays :
        (rest : List ℕ)
        → begun.number + line_ends rest < 18446744073709551616
        → Reached (from begun.number state (part ++ rest)) (nothing state) begun kept rest
    stays rest few = record { part = part; stands = stands; few = few; tells = refl }

    -- one line, or what a piece has of it
    module _ (p r : List ℕ) (some : 0 < length p) (few : begun.number + line_ends (p ++ r) < 18446744073709551616) where
      abbrev line : List ℕ
      line = take (line_size p) p

      abbrev Next : Type 0
      Next =
          Reached (from begun.number state (part ++ (p ++ r))) (next_told tell begun kept state p) (next_of begun kept p)
          (kept_behind begun.have kept p) (drop (line_size p) p ++ r)

      told_is : tell begun.number (line_of begun.have kept p) state ≡ tell begun.number (part ++ line) state
      told_is =
          ⊎_elim
          (λ (none : begun.have ≡ 0).
          let own : line_of begun.have kept p ≡ line = simp (eq-eqb begun.have 0 none) in
          ap (λ (l : List ℕ). tell begun.number l state) (own ∙ ap (λ (l : List ℕ). l ++ line) (sym (part_none stands none))))
          (λ (kept-some : begun.have ≡ 0 → ⊥).
          let start : line_of begun.have kept p ≡ take most_kept (part ++ line) = simp (ne_eqb begun.have 0 kept-some) (kept-is stands p) in
          ap (λ (l : List ℕ). tell begun.number l state) start ∙ by-start begun.number (part ++ line) state (one_line stands p))
          (eq-or-ne begun.have 0)

      ends-here : has_lf p ≡ true → Next
      ends-here lf =
          let size : line_size (part ++ (p ++ r)) ≡ length part + line_size p = on-size part (p ++ r) stands.goes_on ∙ ap (λ (k : ℕ). length part + k) (own-size p r lf) in
          let taken : take (line_size (part ++ (p ++ r))) (part ++ (p ++ r)) ≡ part ++ line =
          ap (λ (k : ℕ). take k (part ++ (p ++ r))) size ∙ take-append-add part (p ++ r) (line_size p)
          ∙ ap (λ (l : List ℕ). part ++ l) (take-append-le (line_size p) p r (ends.size-within p))
          in
          let left : drop (line_size (part ++ (p ++ r))) (part ++ (p ++ r)) ≡ drop (line_size p) p ++ r =
          ap (λ (k : ℕ). drop k (part ++ (p ++ r))) size ∙ drop-append-add part (p ++ r) (line_size p)
          ∙ drop-append-le (line_size p) p r (ends.size-within p)
          in
          let fewer : line_ends (p ++ r) ≡ suc (line_ends (drop (line_size p) p ++ r)) = ends-own p r lf in
          let number : (next_of begun kept p).number ≡ begun.number + 1 = simp lf (next-is begun.number (omega arith)) in
          let told : next_told tell begun kept state p ≡ tell begun.number (part ++ line) state = simp lf told_is in
          let there : 0 < length (part ++ (p ++ r)) = omega (arith, length-append part (p ++ r), length-append p r) in
          record {
            part = [];
            stands = past stands p lf;
            few = omega (arith, number);
            tells =
                first-line begun.number state (part ++ (p ++ r)) there
                ∙ ap₂ (line-then begun.number state) taken left
                ∙ ap₂ (λ (t : Told S) (k : ℕ). behind t.text (from k t.state (drop (line_size p) p ++ r))) (sym told) (sym number);
          }

      goes_on : has_lf p ≡ false → Next
      goes_on none =
          let over : length p ≤ line_size p = omega (arith, blocks.no_end p none) in
          let left : drop (line_size p) p ≡ [] = drop_of_length-le p over in
          let same : part ++ (p ++ r) ≡ part ++ p ++ (drop (line_size p) p ++ r) =
          sym (append_assoc part p r) ∙ ap (λ (l : List ℕ). part ++ p ++ (l ++ r)) (sym left)
          in
          let number : (next_of begun kept p).number ≡ begun.number = simp none in
          let told : next_told tell begun kept state p ≡ nothing state = simp none in
          let fewer : line_ends (drop (line_size p) p ++ r) ≡ line_ends (p ++ r) = ap (λ (l : List ℕ). line_ends (l ++ r)) left ∙ sym (ends-none p r none) in
          record {
            part = part ++ p;
            stands = on stands p none;
            few = omega (arith, number);
            tells =
                ap (from begun.number state) same
                ∙ ap₂ (λ (t : Told S) (k : ℕ). behind t.text (from k t.state (part ++ p ++ (drop (line_size p) p ++ r)))) (sym told) (sym number);
          }

      pub next-line : Next
      next-line = either ends-here goes_on (has_lf p) refl

  -- what a walk tells
  abbrev said : Walk S → Told S
  said w = record { text = w.text; state = w.state }

  abbrev Stops : Told S → List ℕ → List ℕ → Walk S → Type 0
  Stops all piece r w = Reached all (said w) w.next w.kept (drop w.taken piece ++ r)

  picked :
      (all : Told S) (piece r : List ℕ) (t : Bool) (a b : Walk S) → Stops all piece r a → Stops all piece r b → Stops all piece r (cond t a b)
  picked all piece r true a b p q = p
  picked all piece r false a b p q = q

  module _ (most room : ℕ) where
    pub walk-reaches :
        (more used : ℕ) {part : List ℕ} {begun : Begun} {kept : List ℕ} (state : S) (piece r : List ℕ)
        → Stands part begun kept
        → begun.number + line_ends (piece ++ r) < 18446744073709551616
        → Stops (from begun.number state (part ++ (piece ++ r))) piece r (walk tell most more room used begun kept state piece)
    unfolding walk
    walk-reaches zero used state piece r stands few = stays stands state (piece ++ r) few
    walk-reaches (suc more) used state [] r stands few = stays stands state r few
    walk-reaches (suc more) used {part} {begun} {kept} state (x ∷ xs) r stands few =
        let first = next-line stands state (x ∷ xs) r (omega arith) few in
        let told : Told S = next_told tell begun kept state (x ∷ xs) in
        let rest : List ℕ = drop (line_size (x ∷ xs)) (x ∷ xs) in
        let w : Walk S =
        walk tell most more room (used + length told.text) (next_of begun kept (x ∷ xs)) (kept_behind begun.have kept (x ∷ xs)) told.state rest
        in
        let second = walk-reaches more (used + length told.text) told.state rest r first.stands first.few in
        picked (from begun.number state (part ++ (x ∷ xs ++ r))) (x ∷ xs) r (ltb (room - used) most) (stopped begun kept state) (before told.text (line_size (x ∷ xs)) w) (stays stands state (x ∷ xs ++ r) few)
        (subst
        (λ (l : List ℕ). Reached (from begun.number state (part ++ (x ∷ xs ++ r))) (behind told.text (said w)) w.next w.kept (l ++ r))
        (drop-drop w.taken (line_size (x ∷ xs)) (x ∷ xs))
        (then first second))

    module _ (enough : most ≤ room) where
      pub parts-reach :
          (more : ℕ) {part : List ℕ} {begun : Begun} {kept : List ℕ} (state : S) (piece r : List ℕ)
          → length piece ≤ more
          → Stands part begun kept
          → begun.number + line_ends (piece ++ r) < 18446744073709551616
          → Reached (from begun.number state (part ++ (piece ++ r))) (said (parts_told tell most more room begun kept state piece))
          (parts_told tell most more room begun kept state piece).next (parts_told tell most more room begun kept state piece).kept r
      unfolding parts_told
      parts-reach zero state [] r all stands few = stays stands state r few
      parts-reach zero state (x ∷ xs) r all stands few = absurd (omega arith)
      parts-reach (suc more) state [] r all stands few = stays stands state r few
      parts-reach (suc more) {part} {begun} {kept} state (x ∷ xs) r all stands few =
          let w : Walk S = piece_told tell most room begun kept state (x ∷ xs) in
          let first = walk-reaches (length (x ∷ xs)) 0 state (x ∷ xs) r stands few in
          let some : 0 < w.taken = some-taken S tell most room begun kept state (x ∷ xs) enough (omega arith) in
          let less : length (drop w.taken (x ∷ xs)) ≤ more = omega (arith, length-drop w.taken (x ∷ xs)) in
          then first (parts-reach more w.state (drop w.taken (x ∷ xs)) r less first.stands first.few)

      pub pieces-reach :
          {part : List ℕ} {begun : Begun} {kept : List ℕ} (state : S) (pieces : List (List ℕ))
          → Stands part begun kept
          → begun.number + line_ends (whole pieces) < 18446744073709551616
          → Reached (from begun.number state (part ++ whole pieces)) (said (pieces_told tell most room begun kept state pieces))
          (pieces_told tell most room begun kept state pieces).next (pieces_told tell most room begun kept state pieces).kept []
      unfolding pieces_told whole
      pieces-reach {part = part} state [] stands few = stays stands state [] few
      pieces-reach {part = part} {begun} {kept} state (piece ∷ pieces) stands few =
          let w : Walk S = parts_told tell most (length piece) room begun kept state piece in
          let first = parts-reach (length piece) state piece (whole pieces) (omega arith) stands few in
          then first (pieces-reach {part = first.part} w.state pieces first.stands first.few)

      -- the last line is what is left
      pub last-reached :
          {part : List ℕ} {begun : Begun} {kept : List ℕ} (state : S)
          → Stands part begun kept
          → from begun.number state (part ++ []) ≡ last_told tell most room begun kept state
      unfolding lines_told
      last-reached {part} {begun} {kept} state stands =
          ⊎_elim
          (λ (none : begun.have ≡ 0).
          ap (λ (l : List ℕ). from begun.number state (l ++ [])) (part_none stands none) ∙ sym (walks.last_none tell most room begun kept state none))
          (λ (some : begun.have ≡ 0 → ⊥).
          let size : line_size part ≡ length part = blocks.no_end part stands.goes_on in
          let over : length part ≤ line_size part = omega arith in
          let there : 0 < length part = omega (arith, length-take most_kept part, stands.size) in
          let told : Told S = tell begun.number part state in
          let room-there : cond (ltb room most) (nothing state) (tell begun.number (take begun.have kept) state) ≡ tell begun.number (take begun.have kept) state =
          simp (le-ltb room most enough)
          in
          let start : tell begun.number (take begun.have kept) state ≡ told =
          ap (λ (l : List ℕ). tell begun.number l state) stands.holds ∙ by-start begun.number part state size
          in
          ap (from begun.number state) (append-nil part)
          ∙ first-line begun.number state part there
          ∙ ap₂ (line-then begun.number state) (take_all (line_size part) part over) (drop_of_length-le part over)
          ∙ ap (λ (l : List ℕ). record { text = l; state = told.state }) (append-nil told.text)
          ∙ sym (walks.last_some tell most room begun kept state some ∙ room-there ∙ start))
          (eq-or-ne begun.have 0)

pub pieces-tell : PiecesTell
pieces-tell S tell most room kept state pieces by-start enough size few =
    let w : Walk S = pieces_told tell most room (record { have = 0; number = 0 }) kept state pieces in
    let reached = pieces-reach tell by-start most room enough state pieces (fresh (record { have = 0; number = 0 }) kept refl size) (omega arith) in
    sym (reached.tells ∙ ap (behind w.text) (last-reached tell by-start most room enough w.state reached.stands))
