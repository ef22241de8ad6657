-- Ranges of numbers, and which of them are covered by arrivals.
use Prim.Native.Nat.{ℕ, zero, suc, ◌+◌, ◌<◌, ◌≤◌}
use mathlib.Core.Path.{◌≡◌, refl, sym, ap, ◌∙◌}
use mathlib.Core.List.{List, [], ◌∷◌, ◌++◌, map}
use mathlib.Core.Bool.{Bool, true, false, cond}
use native.Mathlib.Omega.{arith}
use borrow.Author.Tests.{lt-ltb, le-ltb, eqb-true, ltb-false}
use lib.Dec.{ltb, eqb}
use lib.ListN.{length, get_or, replicate}
use Rattle.octets.proofs.Order.{clash, either}
use Rattle.replay.specs.Periods.{covered, range, last_from, NearFrom, Near, is_in, Among, fresh_from, fresh_of}

pub map-append : {A B : Type 0} (f : A → B) (xs ys : List A) → map f (xs ++ ys) ≡ map f xs ++ map f ys
map-append f [] ys = refl
map-append {B} f (x ∷ xs) ys = ap {B = List B} (λ r. f x ∷ r) (map-append f xs ys)

pub map-replicate : {A B : Type 0} (f : A → B) (n : ℕ) (a : A) → map f (replicate n a) ≡ replicate n (f a)
map-replicate f zero a = refl
map-replicate {B} f (suc n) a = ap {B = List B} (λ r. f a ∷ r) (map-replicate f n a)

pub length-range : (s n : ℕ) → length (range s n) ≡ n
length-range s zero = refl
length-range s (suc n) = ap suc (length-range (suc s) n)

pub range-append : (s m n : ℕ) → range s (m + n) ≡ range s m ++ range (s + m) n
range-append s zero n =
    let a : 0 + n ≡ n = omega arith in
    let b : s + 0 ≡ s = omega arith in
    rw (a, b) refl
range-append s (suc m) n =
    let a : suc m + n ≡ suc (m + n) = omega arith in
    let b : s + suc m ≡ suc s + m = omega arith in
    rw (a, b) (ap {B = List ℕ} (λ r. s ∷ r) (range-append (suc s) m n))

-- two functions that agree from s up to s + n
pub map_range : {A : Type 0} (f g : ℕ → A) (s n : ℕ) → ((j : ℕ) → s ≤ j → j < s + n → f j ≡ g j) → map f (range s n) ≡ map g (range s n)
map_range f g s zero same = refl
map_range {A} f g s (suc n) same =
    let rest : map f (range (suc s) n) ≡ map g (range (suc s) n) = map_range f g (suc s) n (λ j low high. same j (omega arith) (omega arith)) in
    let head : f s ≡ g s = same s (omega arith) (omega arith) in
    cc

pub map-constant : {A : Type 0} (a : A) (s n : ℕ) → map (λ (j : ℕ). a) (range s n) ≡ replicate n a
map-constant a s zero = refl
map-constant {A} a s (suc n) = ap {B = List A} (λ r. a ∷ r) (map-constant a (suc s) n)

-- a place of a range
pub inside : {A : Type 0} (f : ℕ → A) (s n i : ℕ) (d : A) → i < n → get_or (map f (range s n)) i d ≡ f (s + i)
inside f s zero i d less = absurd (omega arith)
inside f s (suc n) zero d less = ap f (omega arith)
inside f s (suc n) (suc i) d less = inside f (suc s) n i d (omega arith) ∙ ap f (omega arith)

pub outside : {A : Type 0} (f : ℕ → A) (s n i : ℕ) (d : A) → n ≤ i → get_or (map f (range s n)) i d ≡ d
outside f s zero i d more = refl
outside f s (suc n) zero d more = absurd (omega arith)
outside f s (suc n) (suc i) d more = outside f (suc s) n i d (omega arith)

-- which numbers an arrival covers
pub here : (a j : ℕ) (more : List ℕ) → a ≤ j → j ≤ a + 2 → covered (a ∷ more) j ≡ true
here a j more low high = simp (le-ltb j a low, le-ltb (a + 2) j high)

pub before : (a j : ℕ) (more : List ℕ) → j < a → covered (a ∷ more) j ≡ covered more j
before a j more less = simp (lt-ltb j a less)

pub beyond : (a j : ℕ) (more : List ℕ) → a + 2 < j → covered (a ∷ more) j ≡ covered more j
beyond a j more less = let low : a ≤ j = omega arith in simp (le-ltb j a low, lt-ltb (a + 2) j less)

-- arrivals in order, and no two successive ones more than the gap apart
abbrev pub Chain : ℕ → ℕ → List ℕ → Type 0
Chain gap a [] = Unit
Chain gap a (b ∷ bs) = (a ≤ b) × (b ≤ a + gap) × Chain gap b bs

abbrev pub Close : ℕ → List ℕ → Type 0
Close gap [] = Unit
Close gap (a ∷ more) = Chain gap a more

-- the fresh ones are in order
chain-if : (gap a b : ℕ) (bs : List ℕ) (t : Bool) → ltb b a ≡ t
    → (NearFrom gap a (fresh_from a bs) → Chain gap a (fresh_from a bs))
    → (NearFrom gap b (fresh_from b bs) → Chain gap b (fresh_from b bs))
    → NearFrom gap a (cond t (fresh_from a bs) (b ∷ fresh_from b bs))
    → Chain gap a (cond t (fresh_from a bs) (b ∷ fresh_from b bs))
chain-if gap a b bs true is older newer near = older near
chain-if gap a b bs false is older newer near = (ltb-false b a is, near.0, newer near.1)

pub chain : (gap a : ℕ) (more : List ℕ) → NearFrom gap a (fresh_from a more) → Chain gap a (fresh_from a more)
chain gap a [] near = tt
chain gap a (b ∷ bs) near = chain-if gap a b bs (ltb b a) refl (chain gap a bs) (chain gap b bs) near

pub close : (gap : ℕ) (arrivals : List ℕ) → Near gap (fresh_of arrivals) → Close gap (fresh_of arrivals)
close gap [] near = tt
close gap (a ∷ more) near = chain gap a more near

-- those to come lie at or after the one before, and the last is the last
pub last-low : (gap a : ℕ) (more : List ℕ) → Chain gap a more → a ≤ last_from a more
last-low gap a [] c = omega arith
last-low gap a (b ∷ bs) c =
    let rest : b ≤ last_from b bs = last-low gap b bs c.2 in
    let low : a ≤ b = c.0 in
    omega arith

pub none_before : (gap a j : ℕ) (more : List ℕ) → Chain gap a more → j < a → covered more j ≡ false
none_before gap a j [] c less = refl
none_before gap a j (b ∷ bs) c less =
    let low : a ≤ b = c.0 in
    let far : j < b = omega arith in
    before b j bs far ∙ none_before gap b j bs c.2 far

pub none-beyond : (gap a j : ℕ) (more : List ℕ) → Chain gap a more → last_from a more + 2 < j → covered more j ≡ false
none-beyond gap a j [] c less = refl
none-beyond gap a j (b ∷ bs) c less =
    let low : b ≤ last_from b bs = last-low gap b bs c.2 in
    let far : b + 2 < j = omega arith in
    beyond b j bs far ∙ none-beyond gap b j bs c.2 less

-- more arrivals cover more
covers-too : (t u c : Bool) → c ≡ true → cond t c (cond u c true) ≡ true
covers-too true u c e = e
covers-too false true c e = e
covers-too false false c e = refl

-- one that covers is among the others
in-covers : (a j : ℕ) (others : List ℕ) → is_in a others ≡ true → ltb j a ≡ false → ltb (a + 2) j ≡ false → covered others j ≡ true
in-covers a j [] e low high = clash true refl (sym e)
in-covers a j (b ∷ bs) e low high =
    either
    (λ (same : eqb a b ≡ true).
    let is : a ≡ b = eqb-true a b same in
    let low-b : ltb j b ≡ false = rw is at low in
    let high-b : ltb (b + 2) j ≡ false = rw is at high in
    rw (low-b, high-b) refl)
    (λ (other : eqb a b ≡ false).
    covers-too (ltb j b) (ltb (b + 2) j) (covered bs j)
    (in-covers a j bs (sym (ap (λ (t : Bool). cond t true (is_in a bs)) other) ∙ e) low high))
    (eqb a b)
    refl

pub covers_more : (arrivals others : List ℕ) (j : ℕ) → Among arrivals others → covered arrivals j ≡ true → covered others j ≡ true
covers_more [] others j among e = clash true refl (sym e)
covers_more (a ∷ more) others j among e =
    either
    (λ (before : ltb j a ≡ true).
    covers_more more others j among.1 (sym (ap (λ (t : Bool). cond t (covered more j) (cond (ltb (a + 2) j) (covered more j) true)) before) ∙ e))
    (λ (low : ltb j a ≡ false).
    either
    (λ (behind : ltb (a + 2) j ≡ true).
    covers_more more others j among.1
    (sym (ap (λ (t : Bool). cond t (covered more j) true) behind)
    ∙ sym (ap (λ (t : Bool). cond t (covered more j) (cond (ltb (a + 2) j) (covered more j) true)) low)
    ∙ e))
    (λ (high : ltb (a + 2) j ≡ false). in-covers a j others among.0 low high)
    (ltb (a + 2) j)
    refl)
    (ltb j a)
    refl
