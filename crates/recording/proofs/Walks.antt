-- Going through the lines of a piece: the loop that a program has, and what goes for every such program.
use Prim.Native.Nat.{ℕ, zero, suc, ◌+◌, ◌-◌, ◌<◌, ◌≤◌}
use mathlib.Core.Path.{◌≡◌, refl, sym, ap, ◌∙◌}
use mathlib.Core.List.{List, [], ◌∷◌, ◌++◌, append_assoc, append-nil}
use mathlib.Core.Bool.{Bool, true, false, cond}
use native.Mathlib.Omega.{arith}
use borrow.Author.Tests.{lt-ltb, le-ltb, ltb-false, eq-eqb, ne_eqb}
use lib.Dec.{ltb}
use lib.ListN.{length, take, drop, length-append, length-drop, drop_of_length-le}
use lib.Seq.{drop-drop}
use Rattle.std.specs.Prelude.{IfSome, IfOk, Option, Some, None, Result}
use Rattle.refusal.specs.declared.Refusal.{Refusal}
use Rattle.octets.proofs.Order.{either}
use Rattle.octets.specs.Room.{written}
use Rattle.octets.specs.Text.{has_lf}
use Rattle.octets.proofs.Writes as writes
use Rattle.recording.specs.declared.stream.Begun.{Begun}
use Rattle.recording.specs.declared.stream.Taken.{Taken}
use Rattle.recording.specs.Pieces.{line_size}
use Rattle.hexline.specs.Line.{Held, octets, refused, line_read, in_room, read_of}
use Rattle.recording.specs.Stream.{line_of, next_of, kept_behind}
use Rattle.recording.specs.Stream.{taken as line_taken}
use Rattle.recording.specs.Walk.{Tell, Told, Walk, stopped, before, nothing, next_told, walk, piece_told, last_told}
use Rattle.recording.proofs.Ends as ends

module _ {S : Type 0} where
  before-none : (w : Walk S) → before [] 0 w ≡ w
  before-none w =
      let zero : 0 + w.taken ≡ w.taken = omega arith in
      ap (λ (k : ℕ). record { text = w.text; taken = k; kept = w.kept; next = w.next; state = w.state }) zero

  before-twice : (a b : List ℕ) (m n : ℕ) (w : Walk S) → before a m (before b n w) ≡ before (a ++ b) (m + n) w
  before-twice a b m n w =
      let texts : a ++ (b ++ w.text) ≡ a ++ b ++ w.text = sym (append_assoc a b w.text) in
      let sizes : m + (n + w.taken) ≡ m + n + w.taken = omega arith in
      cc

-- the octets of a line that is taken stand in the room for a frame
abbrev pub Fits : ℕ → Option (Result ℕ Refusal) → Type 0
Fits room line = IfSome line (λ read. IfOk read (λ size. size ≤ room))

held_fits : (t : Bool) (room : ℕ) (held : Held) → Fits room (cond t (Some (read_of (cond t (in_room room held) (octets [])))) None)
held_fits true room (octets s) = either {t = ltb room (length s)} (λ e. rw e tt) (λ e. rw e (ltb-false room (length s) e)) (ltb room (length s)) refl
held_fits true room (refused refusal) = tt
held_fits false room held = tt

-- What the code of a program promises of a walk: the octets taken, the octets written, how the next line stands, the state, and
-- both lent rooms.
pub record Promised {S : Type 0} (out₀ : List ℕ) (w : Walk S) (taken used : ℕ) (begun : Begun) (state : S) (kept out : List ℕ) : Type 0 where
  pub takes : taken ≡ w.taken
  pub prints : used ≡ length w.text
  pub next : begun ≡ w.next
  pub leaves : state ≡ w.state
  pub keeps : kept ≡ w.kept
  pub holds : out ≡ written out₀ 0 w.text

module _ {S : Type 0} (tell : Tell S) (most : ℕ) where
  -- after `at` octets: what is written so far, before the walk over the rest of the piece
  pub record Going (out₀ piece : List ℕ) (whole : Walk S) (kept out : List ℕ) (begun : Begun) (state : S) (used at : ℕ) : Type 0 where
    pub more : ℕ
    pub enough : length piece - at ≤ more
    pub within : at ≤ length piece
    pub text : List ℕ
    pub walks : whole ≡ before text at (walk tell most more (length out₀) used begun kept state (drop at piece))
    pub ends : used ≡ 0 + length text
    pub holds : out ≡ written out₀ 0 text
    pub room : used ≤ length out₀

  pub begins :
      (out piece kept : List ℕ) (begun : Begun) (state : S)
      → Going out piece (piece_told tell most (length out) begun kept state piece) kept out begun state 0 0
  begins out piece kept begun state =
      record {
        more = length piece;
        enough = omega arith;
        within = omega arith;
        text = [];
        walks = sym (before-none _);
        ends = refl;
        holds = sym (writes.written_none out 0);
        room = omega arith;
      }

  nil-stops :
      (more room used : ℕ) (begun : Begun) (kept : List ℕ) (state : S)
      → walk tell most more room used begun kept state [] ≡ stopped begun kept state
  unfolding walk
  nil-stops zero room used begun kept state = refl
  nil-stops (suc more) room used begun kept state = refl

  -- one line of a piece
  module _ (more room used : ℕ) (begun : Begun) (kept : List ℕ) (state : S) where
    walk-short : (piece : List ℕ) → room - used < most → walk tell most (suc more) room used begun kept state piece ≡ stopped begun kept state
    unfolding walk
    walk-short [] h = refl
    walk-short (x ∷ xs) h = simp (lt-ltb (room - used) most h)

    pub walk-on :
        (piece : List ℕ)
        → 0 < length piece
        → most ≤ room - used
        → walk tell most (suc more) room used begun kept state piece
        ≡ before (next_told tell begun kept state piece).text (line_size piece)
        (walk tell most more room (used + length (next_told tell begun kept state piece).text) (next_of begun kept piece) (kept_behind begun.have kept piece)
        (next_told tell begun kept state piece).state (drop (line_size piece) piece))
    unfolding walk
    walk-on [] some h = absurd (omega arith)
    walk-on (x ∷ xs) some h = simp (le-ltb (room - used) most h)

  module _ {out₀ piece : List ℕ} {whole : Walk S} {kept out : List ℕ} {begun : Begun} {state : S} {used at : ℕ}
      (going : Going out₀ piece whole kept out begun state used at) where
    pub same_length : length out ≡ length out₀
    same_length = ap length going.holds ∙ writes.length-written out₀ going.text 0 (omega (arith, going.ends, going.room))

    -- the walk stops here
    stops :
        walk tell most going.more (length out₀) used begun kept state (drop at piece) ≡ stopped begun kept state
        → Promised out₀ whole at used begun state kept out
    stops e =
        let is : whole ≡ before going.text at (stopped begun kept state) = going.walks ∙ ap (before going.text at) e in
        let text : whole.text ≡ going.text = ap (λ (w : Walk S). w.text) is ∙ append-nil going.text in
        record {
          takes = omega (arith, ap (λ (w : Walk S). w.taken) is);
          prints = omega (arith, going.ends, ap length text);
          next = sym (ap (λ (w : Walk S). w.next) is);
          leaves = sym (ap (λ (w : Walk S). w.state) is);
          keeps = sym (ap (λ (w : Walk S). w.kept) is);
          holds = going.holds ∙ ap (written out₀ 0) (sym text);
        }

    pub all : length piece ≤ at → Promised out₀ whole at used begun state kept out
    all h = stops (rw (drop_of_length-le piece h) (nil-stops going.more (length out₀) used begun kept state))

    module _ (there : at < length piece) where
      one : going.more ≡ suc (going.more - 1)
      one = omega (arith, going.enough)

      some : 0 < length (drop at piece)
      some = omega (arith, length-drop at piece)

      walks-on :
          (w : Walk S)
          → walk tell most (suc (going.more - 1)) (length out₀) used begun kept state (drop at piece) ≡ w
          → walk tell most going.more (length out₀) used begun kept state (drop at piece) ≡ w
      walks-on w e = ap (λ (k : ℕ). walk tell most k (length out₀) used begun kept state (drop at piece)) one ∙ e

      pub short : length out - used < most → Promised out₀ whole at used begun state kept out
      short h = stops (walks-on _ (walk-short (going.more - 1) (length out₀) used begun kept state (drop at piece) (omega (arith, same_length))))

      pub room-left : most ≤ length out - used → used + most ≤ length out
      room-left h = omega (arith, same_length, going.room)

      -- one line more, from what `take_line` answers and what is written of it
      module _ (frame : List ℕ) (line : Taken) (is : line ≡ line_taken (length frame) begun kept (take (length piece - at) (drop at piece))) where
        pub tells : line ≡ line_taken (length frame) begun kept (drop at piece)
        tells = rw (ends.rest-is piece at) at is

        size_is : line.size ≡ line_size (drop at piece)
        size_is = ap (λ (l : Taken). l.size) tells

        pub fits-frame : Fits (length frame) line.line
        fits-frame =
            rw tells (held_fits (has_lf (drop at piece)) (length frame) (line_read (line_of begun.have kept (drop at piece))))

        pub within : at + line.size ≤ length piece
        within = omega (arith, size_is, ends.size-within (drop at piece), length-drop at piece)

        pub some-taken : 0 < line.size
        some-taken = omega (arith, size_is, ends.size-some (drop at piece) some)

        pub turn :
            {now after text : List ℕ} {state' : S} {used' : ℕ}
            → most ≤ length out - used
            → now ≡ kept_behind begun.have kept (take (length piece - at) (drop at piece))
            → text ≡ (next_told tell begun kept state (drop at piece)).text
            → state' ≡ (next_told tell begun kept state (drop at piece)).state
            → used' ≡ used + length text
            → after ≡ written out used text
            → length text ≤ most
            → Going out₀ piece whole now after line.next state' used' (at + line.size)
        turn {now} {after} {text} {state'} {used'} fits keeps told leaves put holds size =
            let rest : List ℕ = drop at piece in
            let next : line.next ≡ next_of begun kept rest = ap (λ (l : Taken). l.next) tells in
            let kept-is : now ≡ kept_behind begun.have kept rest = rw (ends.rest-is piece at) at keeps in
            let on = walk-on (going.more - 1) (length out₀) used begun kept state rest some (omega (arith, same_length)) in
            let long : length (going.text ++ text) ≡ length going.text + length text = length-append going.text text in
            record {
              more = going.more - 1;
              enough = omega (arith, going.enough, some-taken);
              within = within;
              text = going.text ++ text;
              walks =
                  going.walks ∙ ap (before going.text at) (walks-on _ on)
                  ∙ before-twice going.text (next_told tell begun kept state rest).text at (line_size rest) _
                  ∙ rw (size_is, next, kept-is, put, told, leaves)
                  (ap
                  (λ (l : List ℕ). before (going.text ++ (next_told tell begun kept state rest).text) (at + line_size rest)
                  (walk tell most (going.more - 1) (length out₀) (used + length (next_told tell begun kept state rest).text) (next_of begun kept rest)
                  (kept_behind begun.have kept rest) (next_told tell begun kept state rest).state l))
                  (drop-drop (line_size rest) at piece));
              ends = omega (arith, going.ends);
              holds =
                  holds ∙ rw (going.ends, going.holds)
                  (writes.written_twice out₀ going.text text 0 (omega (arith, going.ends, going.room, same_length)));
              room = omega (arith, going.room, same_length);
            }

  -- no more is taken than the piece has
  taken-go :
      (t : Bool) (size all : ℕ) (s a : Walk S) (text : List ℕ)
      → s.taken ≤ all
      → size + a.taken ≤ all
      → (cond t s (before text size a)).taken ≤ all
  taken-go true size all s a text p q = p
  taken-go false size all s a text p q = q

  pub taken-within :
      (more room used : ℕ) (begun : Begun) (kept : List ℕ) (state : S) (piece : List ℕ)
      → (walk tell most more room used begun kept state piece).taken ≤ length piece
  unfolding walk
  taken-within zero room used begun kept state piece = omega arith
  taken-within (suc more) room used begun kept state [] = omega arith
  taken-within (suc more) room used begun kept state (x ∷ xs) =
      let told : Told S = next_told tell begun kept state (x ∷ xs) in
      let rest : List ℕ = drop (line_size (x ∷ xs)) (x ∷ xs) in
      let later = taken-within more room (used + length told.text) (next_of begun kept (x ∷ xs)) (kept_behind begun.have kept (x ∷ xs)) told.state rest in
      taken-go (ltb (room - used) most) (line_size (x ∷ xs)) (length (x ∷ xs)) (stopped begun kept state) _ told.text (omega arith)
      (omega (arith, later, length-drop (line_size (x ∷ xs)) (x ∷ xs), ends.size-within (x ∷ xs)))

  -- the last line, where one is kept and where none is
  module _ (room : ℕ) (begun : Begun) (kept : List ℕ) (state : S) where
    pub last_none : begun.have ≡ 0 → last_told tell most room begun kept state ≡ nothing state
    unfolding last_told
    last_none h = simp (eq-eqb begun.have 0 h)

    pub last_some :
        (begun.have ≡ 0 → ⊥)
        → last_told tell most room begun kept state
        ≡ cond (ltb room most) (nothing state) (tell begun.number (take begun.have kept) state)
    unfolding last_told
    last_some h = simp (ne_eqb begun.have 0 h)

    pub last-text :
        (begun.have ≡ 0 → ⊥)
        → (last_told tell most room begun kept state).text ≡ cond (ltb room most) [] (tell begun.number (take begun.have kept) state).text
    last-text h = ap (λ (t : Told S). t.text) (last_some h) ∙ go (tell begun.number (take begun.have kept) state) (ltb room most)
      where
        go : (told : Told S) (t : Bool) → (cond t (nothing state) told).text ≡ cond t [] told.text
        go told true = refl
        go told false = refl
