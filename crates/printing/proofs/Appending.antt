-- Texts put one behind the other, octet by octet, and a field.
use Prim.Native.Nat.{ℕ, ◌+◌, ◌*◌, ◌<◌, ◌≤◌}
use mathlib.Core.Path.{◌≡◌, refl, sym, ap, subst, ◌∙◌}
use mathlib.Core.List.{List, [], ◌∷◌, ◌++◌, append_assoc}
use mathlib.Core.Bool.{Bool, true, false}
use native.Mathlib.Omega.{arith}
use native.Mathlib.Numerals.{add-one}
use borrow.Author.Tests.{ltb-false, le-ltb}
use lib.Dec.{ltb}
use lib.ListN.{length, get_or, set, take, length-append}
use lib.Seq.{take-suc}
use Rattle.octets.specs.Room.{written}
use Rattle.octets.specs.Text.{ascii}
use Rattle.octets.proofs.Writes as writes
use Rattle.printing.specs.Decimal.{decimal}
use Rattle.printing.specs.Hex.{hex_pair, hex_of}
use Rattle.printing.specs.Field.{field, hex_field, line}
use Rattle.printing.specs.Refused.{refused_listing}
use Rattle.printing.specs.Room.{fitting, Appended}
use Rattle.printing.proofs.Spelling as spelling

-- what a public function promises of a text for which it asks room for `most` octets
abbrev pub Put : ℕ → List ℕ → ℕ → List ℕ → List ℕ → ℕ → Type 0
Put most before at text after next =
    (next ≡ at + length (fitting most before at text)) × (after ≡ written before at (fitting most before at text))

module _ {before mid text : List ℕ} {at most next : ℕ} (first : Appended before at text most mid next) where
  pub same_length : at + most ≤ length before → length mid ≡ length before
  same_length room = ap length first.holds ∙ writes.length-written before text at (omega (arith, first.size))

  pub room-behind : (more : ℕ) → at + (most + more) ≤ length before → next + more ≤ length mid
  room-behind more room = omega (arith, first.ends, first.size, same_length (omega arith))

  pub within : (more : ℕ) → most ≤ more → Appended before at text more mid next
  within more h = record { ends = first.ends; holds = first.holds; size = omega (arith, first.size) }

  pub tighter : (less : ℕ) → length text ≤ less → Appended before at text less mid next
  tighter less h = record { ends = first.ends; holds = first.holds; size = h }

  pub reads : {other : List ℕ} → text ≡ other → Appended before at other most mid next
  reads e = subst (λ (t : List ℕ). Appended before at t most mid next) e first

  pub then :
      {after text2 : List ℕ} {most2 next2 : ℕ}
      → Appended mid next text2 most2 after next2
      → at + (most + most2) ≤ length before
      → Appended before at (text ++ text2) (most + most2) after next2
  then {after} {text2} {most2} {next2} second room =
      let size : length (text ++ text2) ≡ length text + length text2 = length-append text text2 in
      record {
        ends = omega (arith, first.ends, second.ends);
        holds =
            second.holds ∙ rw (first.ends, first.holds) (writes.written_twice before text text2 at (omega (arith, first.size, second.size)));
        size = omega (arith, first.size, second.size);
      }

-- nothing, and one octet
pub none : (out : List ℕ) (at : ℕ) → Appended out at [] 0 out at
none out at = record { ends = omega arith; holds = sym (writes.written_none out at); size = omega arith }

pub one : (out : List ℕ) (at octet : ℕ) → at + 1 ≤ length out → Appended out at (octet ∷ []) 1 (set out at octet) (at + 1)
one out at octet room = record { ends = refl; holds = writes.one-stored out at octet room; size = omega arith }

-- the room that is asked is there, or not
module _ (most : ℕ) (before text : List ℕ) (at : ℕ) where
  module _ (room : at + most ≤ length before) where
    fits : fitting most before at text ≡ text
    unfolding fitting
    fits = simp (le-ltb (length before) (at + most) room)

    pub there : {after : List ℕ} {next : ℕ} → length text ≤ most → Put most before at text after next → Appended before at text most after next
    there size p =
        record { ends = p.0 ∙ ap (λ (l : List ℕ). at + length l) fits; holds = p.1 ∙ ap (written before at) fits; size = size }

  module _ {short : Bool} (tells : short ≡ ltb (length before) (at + most)) where
    pub room_for : short ≡ false → at + most ≤ length before
    room_for h = ltb-false (length before) (at + most) (sym tells ∙ h)

    pub put-none : short ≡ true → Put most before at text before at
    unfolding fitting
    put-none h = simp (sym tells ∙ h) (omega arith, sym (writes.written_none before at))

    pub put_all : short ≡ false → {after : List ℕ} {next : ℕ} → Appended before at text most after next → Put most before at text after next
    put_all h p =
        let is = fits (room_for h) in
        (p.ends ∙ ap (λ (l : List ℕ). at + length l) (sym is), p.holds ∙ ap (written before at) (sym is))

-- a text behind another
module _ {before mid text : List ℕ} {at most next : ℕ} (first : Appended before at text most mid next) where
  pub then-put :
      (most2 : ℕ) (text2 : List ℕ) {after : List ℕ} {next2 : ℕ}
      → length text2 ≤ most2
      → at + (most + most2) ≤ length before
      → Put most2 mid next text2 after next2
      → Appended before at (text ++ text2) (most + most2) after next2
  then-put most2 text2 size room p =
      let same = same_length first (omega arith) in
      then first (there most2 mid text2 next (omega (arith, first.ends, first.size)) size p) room

-- a field: its name, its digits, LF
pub field-size : (key : List ℕ) (n : ℕ) → length (field key n) ≤ length key + 21
unfolding field
field-size key n =
    let digits = spelling.decimal-size n in simp length-append (omega arith)

pub put-field :
    (key : List ℕ) (n : ℕ) {out first second after : List ℕ} {at past end next : ℕ}
    → at + (length key + 21) ≤ length out
    → Appended out at key (length key) first past
    → Appended first past (decimal n) 20 second end
    → Appended second end (10 ∷ []) 1 after next
    → Appended out at (field key n) (length key + 21) after next
unfolding field
put-field key n room a b c =
    within (reads (then (then a b (omega arith)) c (omega arith)) (append_assoc key (decimal n) (10 ∷ []))) (length key + 21) (omega arith)

-- the same with octets in hex
hex-count : (octets : List ℕ) → length (hex_of octets) ≡ 2 * length octets
unfolding hex_of
hex-count [] = refl
hex-count (x ∷ xs) = let rest = hex-count xs in omega arith

pub hex-field-size : (key octets : List ℕ) → length (hex_field key octets) ≤ length key + (2 * length octets + 1)
unfolding hex_field
hex-field-size key octets =
    let count = hex-count octets in simp length-append (omega arith)

hex-append : (xs ys : List ℕ) → hex_of (xs ++ ys) ≡ hex_of xs ++ hex_of ys
unfolding hex_of
hex-append [] ys = refl
hex-append (x ∷ xs) ys = ap (λ (l : List ℕ). hex_pair x ++ l) (hex-append xs ys)

-- one octet more
hex-more : (octets : List ℕ) (i octet : ℕ) → i < length octets → octet ≡ get_or octets i 0 → hex_of (take i octets) ++ hex_pair octet ≡ hex_of (take (i + 1) octets)
unfolding hex_of
hex-more octets i octet h is =
    rw (is, add-one i) (sym (ap hex_of (take-suc octets i 0 h) ∙ hex-append (take i octets) (get_or octets i 0 ∷ [])))

module _ (octets : List ℕ) (i : ℕ) {out mid : List ℕ} {at next : ℕ} (first : Appended out at (hex_of (take i octets)) (2 * i) mid next) where
  pub hex-turn :
      (octet : ℕ) {after : List ℕ} {last : ℕ}
      → i < length octets
      → octet ≡ get_or octets i 0
      → at + 2 * length octets ≤ length out
      → Appended mid next (hex_pair octet) 2 after last
      → Appended out at (hex_of (take (i + 1) octets)) (2 * (i + 1)) after last
  hex-turn octet h is room second =
      within (reads (then first second (omega arith)) (hex-more octets i octet h is)) (2 * (i + 1)) (omega arith)

pub put-hex-field :
    (key octets : List ℕ) {out first second after : List ℕ} {at past end next : ℕ}
    → at + (length key + (2 * length octets + 1)) ≤ length out
    → Appended out at key (length key) first past
    → Appended first past (hex_of octets) (2 * length octets) second end
    → Appended second end (10 ∷ []) 1 after next
    → Appended out at (hex_field key octets) (length key + (2 * length octets + 1)) after next
unfolding hex_field
put-hex-field key octets room a b c =
    within (reads (then (then a b (omega arith)) c (omega arith)) (append_assoc key (hex_of octets) (10 ∷ []))) (length key + (2 * length octets + 1)) (omega arith)

-- the same with a text
pub line-size : (text : List ℕ) → length (line text) ≤ length text + 1
unfolding line
line-size text = simp length-append (omega arith)

pub put-line :
    (text : List ℕ) {out first after : List ℕ} {at end next : ℕ}
    → at + (length text + 1) ≤ length out
    → Appended out at text (length text) first end
    → Appended first end (10 ∷ []) 1 after next
    → Appended out at (line text) (length text + 1) after next
unfolding line
put-line text room a b = then a b room

-- the lines of a refused frame
pub refused-size : (n number place : ℕ) → length (refused_listing n number place) ≤ 80
unfolding refused_listing
refused-size n number place =
    let a = field-size (ascii "frame=") n in
    let b = field-size (ascii "refused=") number in
    let c = field-size (ascii "at=") place in
    simp length-append (omega arith)

-- each behind another text
module _ {before mid text : List ℕ} {at most next : ℕ} (first : Appended before at text most mid next) where
  pub then-field :
      (key : List ℕ) (n : ℕ) {after : List ℕ} {next2 : ℕ}
      → at + (most + (length key + 21)) ≤ length before
      → Put (length key + 21) mid next (field key n) after next2
      → Appended before at (text ++ field key n) (most + (length key + 21)) after next2
  then-field key n room p = then-put first (length key + 21) (field key n) (field-size key n) room p

  pub then-hex-field :
      (key octets : List ℕ) {after : List ℕ} {next2 : ℕ}
      → at + (most + (length key + (2 * length octets + 1))) ≤ length before
      → Put (length key + (2 * length octets + 1)) mid next (hex_field key octets) after next2
      → Appended before at (text ++ hex_field key octets) (most + (length key + (2 * length octets + 1))) after next2
  then-hex-field key octets room p =
      then-put first (length key + (2 * length octets + 1)) (hex_field key octets) (hex-field-size key octets) room p

  pub then-line :
      (words : List ℕ) {after : List ℕ} {next2 : ℕ}
      → at + (most + (length words + 1)) ≤ length before
      → Put (length words + 1) mid next (line words) after next2
      → Appended before at (text ++ line words) (most + (length words + 1)) after next2
  then-line words room p = then-put first (length words + 1) (line words) (line-size words) room p

-- the lines of a refused frame, where the room is there
pub refused-stands :
    (before : List ℕ) (at n number place : ℕ) {after : List ℕ} {next : ℕ}
    → at + 80 ≤ length before
    → Put 80 before at (refused_listing n number place) after next
    → Appended before at (refused_listing n number place) 80 after next
refused-stands before at n number place room p =
    there 80 before (refused_listing n number place) at room (refused-size n number place) p
