-- What is known of a content that has its place, and the header before its payload.
use Prim.Native.Nat.{ℕ, ◌+◌, ◌%◌, ◌≤◌}
use mathlib.Core.Path.{◌≡◌, refl, sym, ap, ap₂, ◌∙◌}
use mathlib.Core.List.{List, ◌++◌, append_assoc}
use mathlib.Core.Bool.{Bool, true, false}
use native.Mathlib.Nat.{add_assoc}
use native.Mathlib.Omega.{arith}
use borrow.Author.Tests.{ltb-false}
use lib.ListN.{length, take, drop, length-append}
use lib.Seq.{take-take, drop_at, length-take-le, take-append-le}
use Rattle.octets.specs.Made.{Made, made, unmade, fit_of}
use Rattle.octets.specs.Room.{written}
use Rattle.joining.specs.Joining.{shortest_header}
use Rattle.std.specs.declared.result.Result.{Result}
use Rattle.std.specs.declared.result.Result.TheVariants.{Ok, Err}
use Rattle.refusal.specs.declared.Refusal.{Refusal}
use Rattle.place.specs.declared.Place.{Place}
use Rattle.place.specs.declared.Writer.{Writer}
use Rattle.place.specs.Place.{most_not_last, too_long, entered, entering, place_at}
use Rattle.place.proofs.PlaceCases.{never, Placed, placed-back}

-- Both refusals as one, where the fit's is one of the documents' too.
abbrev pub as-one : Result (Result Place Refusal) Refusal → Result Place Refusal
as-one (Ok place) = place
as-one (Err unfit) = Err unfit

pub enters : (room : ℕ) (w : Writer) (last : Bool) (cid ptype : ℕ) (fit : Result ℕ Refusal) → as-one (entering room w last cid ptype fit) ≡ entered room w last cid ptype fit
enters room w last cid ptype (Ok len) = refl
enters room w last cid ptype (Err unfit) = refl

-- a content that has its place: what its layout makes
pub record Entry (room : ℕ) (w : Writer) (last : Bool) (cid ptype : ℕ) (m : Made) (start len : ℕ) (next : Writer) : Type 0 where
  pub payload : List ℕ
  pub makes : m ≡ made payload
  pub many : length payload ≡ len
  pub place : Placed room w last cid ptype (length payload) start next

pub entered-back : (room : ℕ) (w : Writer) (last : Bool) (cid ptype : ℕ) (m : Made) (start len : ℕ) (next : Writer)
    → entered room w last cid ptype (fit_of m) ≡ place_at start len next
    → Entry room w last cid ptype m start len next
entered-back room w last cid ptype (unmade n) start len next is = never n start len next is
entered-back room w last cid ptype (made payload) start len next is =
    let back = placed-back room w last cid ptype (length payload) start len next is in
    record { payload = payload; makes = refl; many = back.0; place = back.1 }

-- a header's length octet is the payload's length, or is not there
pub octet-of : (cid ptype : ℕ) (last : Bool) (len : ℕ)
    → too_long last len ≡ false
    → shortest_header cid ptype last (len % 256) ≡ shortest_header cid ptype last len
unfolding shortest_header
octet-of cid ptype true len short = refl
octet-of cid ptype false len short =
    let same : len % 256 ≡ len = omega (arith, ltb-false most_not_last len short) in
    ap (shortest_header cid ptype false) same

-- octets that stand, and more stored before them
pub before : (room head body : List ℕ) (at : ℕ)
    → at + length head + length body ≤ length room
    → written (written room (at + length head) body) at head ≡ written room at (head ++ body)
before room head body at fits =
    let n : ℕ = at + length head in
    let rest : List ℕ = drop (n + length body) room in
    let long : length (take n room) ≡ n = length-take-le n room (omega arith) in
    let apart : written room n body ≡ take n room ++ (body ++ rest) = append_assoc (take n room) body rest in
    let front : take at (written room n body) ≡ take at room =
    ap (take at) apart ∙ take-append-le at (take n room) (body ++ rest) (omega arith) ∙ take-take at n room (omega arith)
    in
    let back : drop n (written room n body) ≡ body ++ rest = ap (drop n) apart ∙ drop_at (take n room) (body ++ rest) n long in
    ap₂ (λ (x y : List ℕ). (x ++ head) ++ y) front back
    ∙ sym (append_assoc (take at room ++ head) body rest)
    ∙ ap (λ (l : List ℕ). l ++ rest) (append_assoc (take at room) head body)
    ∙ ap (λ (k : ℕ). (take at room ++ (head ++ body)) ++ drop k room)
    (add_assoc at (length head) (length body) ∙ ap (λ (k : ℕ). at + k) (sym (length-append head body)))
