-- The loop of `follow_piece`, over what is left of the piece, and a last line.
use Prim.Native.Nat.{ℕ, ◌+◌, ◌-◌, ◌<◌, ◌≤◌, min}
use mathlib.Core.Path.{◌≡◌, refl, sym, ap, ◌∙◌}
use mathlib.Core.List.{List, []}
use mathlib.Core.Bool.{Bool, true, false, cond}
use native.Mathlib.Omega.{arith}
use borrow.Author.Tests.{eqb-true, eqb-false, lt-ltb, le-ltb}
use lib.Dec.{ltb, eqb}
use lib.ListN.{length, take, drop, length-drop}
use lib.Seq.{drop-drop}
use Rattle.std.specs.declared.result.Result.{Result}
use Rattle.std.specs.declared.option.Option.TheVariants.{Some, None}
use Rattle.refusal.specs.declared.Refusal.{Refusal}
use Rattle.octets.specs.Room.{written}
use Rattle.octets.specs.Text.{has_lf}
use Rattle.recording.specs.declared.stream.Begun.{Begun}
use Rattle.recording.specs.declared.stream.Taken.{Taken}
use Rattle.recording.specs.declared.stream.Walked.{Walked}
use Rattle.hexline.specs.Line.{octets, line_read, in_room, read_of, octets_of}
use Rattle.recording.specs.Stream.{line_of, held_by, kept_behind, taken as line_taken}
use Rattle.recording.specs.Walk.{Told, Walk, nothing, next_told, answered}
use Rattle.recording.proofs.Ends as ends
use Rattle.octets.proofs.Writes as writes
use Rattle.recording.proofs.Keeping as keeping
use Rattle.recording.proofs.Walks as walks
use Rattle.trunk.specs.declared.Trunk.{Trunk}
use Rattle.following.specs.Following.{line_following}
use Rattle.following.specs.Private.{Stands, following_of, taken_following}
use Rattle.following.specs.Stream.{piece_followed, last_followed}
use Rattle.following.proofs.Turns as turns

-- a line that is taken, by what is told of it
module _ (frame table : List ℕ) (cid : ℕ) (begun : Begun) (kept piece : List ℕ) (t : Trunk) where
  told-by :
      (whole : Bool)
      → 1600 ≤ length frame
      → taken_following begun.number table cid
      (cond whole (Some (read_of (cond whole (in_room (length frame) (line_read (line_of begun.have kept piece))) (octets [])))) None)
      (written frame 0 (octets_of (cond whole (in_room (length frame) (line_read (line_of begun.have kept piece))) (octets [])))) t
      ≡ cond whole (line_following table cid begun.number (line_of begun.have kept piece) t) (nothing t)
  told-by true room = turns.of-line begun.number table cid frame (line_of begun.have kept piece) t room refl refl
  told-by false room = refl

  told_is :
      (line : Taken) {after : List ℕ}
      → line ≡ line_taken (length frame) begun kept piece
      → 1600 ≤ length frame
      → after ≡ written frame 0 (octets_of (held_by (length frame) begun.have kept piece))
      → taken_following begun.number table cid line.line after t ≡ next_told (line_following table cid) begun kept t piece
  told_is line is room holds = rw (is, holds) (told-by (has_lf piece) room)

-- what the code promises of a walk
abbrev pub Promised : List ℕ → Walk Trunk → Walked → List ℕ → Trunk → List ℕ → Type 0
Promised out₀ whole r kept now out =
    (r ≡ answered whole) × ((kept ≡ whole.kept) × ((now ≡ whole.state) × (out ≡ written out₀ 0 whole.text)))

-- what is left of the piece, and how the walk stands
pub record Going (table : List ℕ) (cid : ℕ) (out₀ piece : List ℕ) (whole : Walk Trunk) (kept out : List ℕ) (begun : Begun) (used : ℕ) (now : Trunk) (rest : List ℕ) : Type 0 where
  pub at : ℕ
  pub left : rest ≡ drop at piece
  pub stands : walks.Going (line_following table cid) 26176 out₀ piece whole kept out begun now used at

pub begins :
    (table : List ℕ) (cid : ℕ) (out piece kept : List ℕ) (begun : Begun) (t : Trunk)
    → Going table cid out piece (piece_followed (length out) table cid begun kept t piece) kept out begun 0 t piece
begins table cid out piece kept begun t =
    record { at = 0; left = refl; stands = walks.begins (line_following table cid) 26176 out piece kept begun t }

module _ {table : List ℕ} {cid : ℕ} {out₀ piece : List ℕ} {whole : Walk Trunk} {kept out : List ℕ} {begun : Begun} {used : ℕ} {now : Trunk} {rest : List ℕ}
    (going : Going table cid out₀ piece whole kept out begun used now rest) where
  size : length rest ≡ length piece - going.at
  size = ap length going.left ∙ length-drop going.at piece

  abbrev pub Ends : Type 0
  Ends =
      Promised out₀ whole
      (record { taken = length piece - length rest; used = used; next = begun })
      kept now out

  promised : walks.Promised out₀ whole going.at used begun now kept out → Ends
  promised p =
      let takes : length piece - length rest ≡ whole.taken = omega (arith, p.takes, size, going.stands.within) in
      let prints : used ≡ length whole.text = p.prints in
      let goes : begun ≡ whole.next = p.next in
      (cc, (p.keeps, (p.leaves, p.holds)))

  pub all : eqb (length rest) 0 ≡ true → Ends
  all none = let nothing-left = eqb-true (length rest) 0 none in promised (walks.all (line_following table cid) 26176 going.stands (omega (arith, size)))

  module _ (more : eqb (length rest) 0 ≡ false) where
    there : going.at < length piece
    there = let some = eqb-false (length rest) 0 more in omega (arith, size)

    pub short : length out - used < 26176 → Ends
    short h = promised (walks.short (line_following table cid) 26176 going.stands there h)

    -- one line more, from what `take_line` and `put_taken` answer
    module _ (frame : List ℕ) (line : Taken) (is : line ≡ line_taken (length frame) begun kept rest) where
      as-part : rest ≡ take (length piece - going.at) (drop going.at piece)
      as-part = going.left ∙ sym (ends.rest-is piece going.at)

      is-there : line ≡ line_taken (length frame) begun kept (take (length piece - going.at) (drop going.at piece))
      is-there = rw (← as-part) is

      pub part : line.size ≤ length rest
      part = omega (arith, walks.within (line_following table cid) 26176 going.stands there frame line is-there, size)

      pub shorter : length (take (length rest - line.size) (drop line.size rest)) < length rest
      shorter =
          let some = walks.some-taken (line_following table cid) 26176 going.stands there frame line is-there in
          rw (ends.rest-is rest line.size) (omega (arith, part, length-drop line.size rest))

      pub turn :
          {behind frame' after : List ℕ} {next : ℕ} {left : Trunk}
          → 1600 ≤ length frame
          → 26176 ≤ length out - used
          → behind ≡ kept_behind begun.have kept rest
          → frame' ≡ written frame 0 (octets_of (held_by (length frame) begun.have kept rest))
          → Stands out used (taken_following begun.number table cid line.line frame' now) 26176 after next left
          → Going table cid out₀ piece whole behind after line.next next left (take (length rest - line.size) (drop line.size rest))
      turn large room keeps holds put =
          let stands = turns.stands-as put (rw going.left at (told_is frame table cid begun kept rest now line is large holds)) in
          record {
            at = going.at + line.size;
            left = ends.rest-is rest line.size ∙ rw going.left (drop-drop line.size going.at piece);
            stands =
                walks.turn (line_following table cid) 26176 going.stands there frame line is-there room (rw (← as-part) keeps) refl stands.leaves
                stands.text.ends stands.text.holds stands.text.size;
          }

-- the last line, from what `put_read` answers
module _ (table : List ℕ) (cid : ℕ) (begun : Begun) (kept : List ℕ) (t : Trunk) (out : List ℕ) where
  abbrev pub LastPromised : ℕ → List ℕ → Type 0
  LastPromised used after =
      (used ≡ length (last_followed (length out) table cid begun kept t))
      × (after ≡ written out 0 (last_followed (length out) table cid begun kept t))

  as-text : (text : List ℕ) {used : ℕ} {after : List ℕ}
      → text ≡ last_followed (length out) table cid begun kept t
      → used ≡ length text
      → after ≡ written out 0 text
      → LastPromised used after
  as-text text is size holds = (size ∙ ap length is, holds ∙ ap (written out 0) is)

  pub none_kept : begun.have ≡ 0 → LastPromised 0 out
  none_kept h =
      let is = ap (λ (told : Told Trunk). told.text) (walks.last_none (line_following table cid) 26176 (length out) begun kept t h) in
      as-text [] (sym is) refl (sym (writes.written_none out 0))

  module _ (some : begun.have ≡ 0 → ⊥) where
    is_some :
        last_followed (length out) table cid begun kept t
        ≡ cond (ltb (length out) 26176) [] (line_following table cid begun.number (take begun.have kept) t).text
    is_some = walks.last-text (line_following table cid) 26176 (length out) begun kept t some

    pub no_room : length out < 26176 → LastPromised 0 out
    no_room short = as-text [] (rw (lt-ltb (length out) 26176 short) at (sym is_some)) refl (sym (writes.written_none out 0))

    pub last :
        {end : ℕ} {read : Result ℕ Refusal} {frame' after : List ℕ} {next : ℕ} {left : Trunk} (frame : List ℕ)
        → 26176 ≤ length out
        → end ≡ min begun.have (length kept)
        → 1600 ≤ length frame
        → read ≡ read_of (in_room (length frame) (line_read (take end kept)))
        → frame' ≡ written frame 0 (octets_of (in_room (length frame) (line_read (take end kept))))
        → Stands out 0 (following_of begun.number table cid read frame' t) 26176 after next left
        → LastPromised next after
    last {end} frame room cut large says holds put =
        let same : take end kept ≡ take begun.have kept = ap (λ (k : ℕ). take k kept) cut ∙ keeping.take-least begun.have kept in
        let told = turns.of-line begun.number table cid frame (take end kept) t large says holds
        ∙ ap (λ (l : List ℕ). line_following table cid begun.number l t) same
        in
        let stands = turns.stands-as put told in
        as-text (line_following table cid begun.number (take begun.have kept) t).text (rw (le-ltb (length out) 26176 room) at (sym is_some))
        (omega (arith, stands.text.ends)) stands.text.holds
