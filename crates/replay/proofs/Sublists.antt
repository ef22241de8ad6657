-- Some of a list, in its order or in any: what holds of each stays, and in order all are fresh.
use Prim.Native.Nat.{ℕ, zero, suc, ◌≤◌}
use mathlib.Core.Path.{◌≡◌, refl, sym, ap, ap₂, subst, ◌∙◌}
use mathlib.Core.Bool.{true, false}
use mathlib.Core.List.{List, [], ◌∷◌, ◌++◌, map}
use native.Mathlib.Omega.{arith}
use borrow.Author.Tests.{eq-eqb, le-ltb}
use lib.Dec.{ltb, eqb}
use lib.ListN.{length}
use Rattle.octets.proofs.Order.{either}
use Rattle.replay.specs.Examples.{picked, at, chosen}
use Rattle.replay.specs.Periods.{fresh_from, fresh_of, due_from, sound_of, Near, BehindFrom, is_in, Among, Sublist, none_left, left_out, taken, In, here, further, AllIn}
use Rattle.replay.specs.Claims.{Arriving, FreshAreSound}
use Rattle.replay.proofs.Ranges.{map-append}

abbrev pub Each : {A : Type 0} → (A → Type 0) → List A → Type 0
Each P [] = Unit
Each P (x ∷ xs) = P x × Each P xs

pub sublist-map : {A B : Type 0} (f : A → B) (xs ys : List A) → Sublist xs ys → Sublist (map f xs) (map f ys)
sublist-map f xs ys none_left = none_left
sublist-map f xs ys (left_out {xs = rest} {ys = more} s) = left_out (sublist-map f rest more s)
sublist-map f xs ys (taken {xs = rest} {ys = more} s) = taken (sublist-map f rest more s)

-- In order, from a number on. A static repeat counts as the payload it repeats, so a number may come again.
abbrev pub Rising : ℕ → List ℕ → Type 0
Rising a [] = Unit
Rising a (b ∷ bs) = (a ≤ b) × Rising b bs

pub rising-from : (a b : ℕ) (xs : List ℕ) → a ≤ b → Rising b xs → Rising a xs
rising-from a b [] low r = tt
rising-from a b (x ∷ xs) low r = let less : b ≤ x = r.0 in (omega arith, r.1)

pub rising-some : (a : ℕ) (xs ys : List ℕ) → Sublist xs ys → Rising a ys → Rising a xs
rising-some a xs ys none_left r = tt
rising-some a xs ys (left_out {x} {xs = rest} {ys = more} s) r = rising-some a rest more s (rising-from a x more r.0 r.1)
rising-some a xs ys (taken {x} {xs = rest} {ys = more} s) r = (r.0, rising-some x rest more s r.1)

none_of : {A : Type 0} (xs : List A) → Sublist [] xs
none_of [] = none_left
none_of (x ∷ xs) = left_out (none_of xs)

pub picked-some : {A : Type 0} (gs : List ℕ) (xs : List A) → Sublist (picked gs xs) xs
picked-some [] xs = none_of xs
picked-some (g ∷ gs) [] = none_left
picked-some (zero ∷ gs) (x ∷ xs) = taken (picked-some gs xs)
picked-some (suc g ∷ gs) (x ∷ xs) = left_out (picked-some (g ∷ gs) xs)

pub picked-map : {A B : Type 0} (f : A → B) (gs : List ℕ) (xs : List A) → map f (picked gs xs) ≡ picked gs (map f xs)
picked-map f [] xs = refl
picked-map f (g ∷ gs) [] = refl
picked-map {B} f (zero ∷ gs) (x ∷ xs) = ap {B = List B} (λ r. f x ∷ r) (picked-map f gs xs)
picked-map f (suc g ∷ gs) (x ∷ xs) = picked-map f (g ∷ gs) xs

-- a list whose numbers are two
pub record Two {A : Type 0} (number : A → ℕ) (xs : List A) (a b : ℕ) : Type 0 where
  pub one : A
  pub two : A
  pub are : xs ≡ one ∷ two ∷ []
  pub is-a : number one ≡ a
  pub is_b : number two ≡ b

pub just-two : {A : Type 0} (number : A → ℕ) (xs : List A) (a b : ℕ) → map number xs ≡ a ∷ b ∷ [] → Two number xs a b
just-two number [] a b e = let z : ◌≡◌ {A = ℕ} 0 2 = ap length e in absurd (omega arith)
just-two number (x ∷ []) a b e = let z : ◌≡◌ {A = ℕ} 1 2 = ap length e in absurd (omega arith)
just-two number (x ∷ y ∷ []) a b e = record { one = x; two = y; are = refl; is-a = cc; is_b = cc }
just-two number (x ∷ y ∷ z ∷ xs) a b e =
    let many : suc (suc (suc (length (map number xs)))) ≡ 2 = ap length e in
    absurd (omega arith)

-- some of a list of numbers are among them
in-still : (a b : ℕ) (bs : List ℕ) → is_in a bs ≡ true → is_in a (b ∷ bs) ≡ true
in-still a b bs e = either (λ (t : eqb a b ≡ true). rw t refl) (λ (t : eqb a b ≡ false). rw t e) (eqb a b) refl

among-still : (xs ys : List ℕ) (y : ℕ) → Among xs ys → Among xs (y ∷ ys)
among-still [] ys y among = tt
among-still (x ∷ xs) ys y among = (in-still x y ys among.0, among-still xs ys y among.1)

pub sublist-among : (xs ys : List ℕ) → Sublist xs ys → Among xs ys
sublist-among xs ys none_left = tt
sublist-among xs ys (left_out {x} {xs = more} {ys = bs} s) = among-still more bs x (sublist-among more bs s)
sublist-among xs ys (taken {x} {xs = more} {ys = bs} s) = (rw (eq-eqb x x refl) refl, among-still more bs x (sublist-among more bs s))

-- all of a list in any order
one_in : {A : Type 0} (P : A → Type 0) (x : A) (ys : List A) → In x ys → Each P ys → P x
one_in P x ys here e = e.0
one_in P x ys (further {ys = more} i) e = one_in P x more i e.1

pub each_in : {A : Type 0} (P : A → Type 0) (xs ys : List A) → AllIn xs ys → Each P ys → Each P xs
each_in P [] ys all e = tt
each_in P (x ∷ xs) ys all e = (one_in P x ys all.0 e, each_in P xs ys all.1 e)

all-further : {A : Type 0} (xs ys : List A) (y : A) → AllIn xs ys → AllIn xs (y ∷ ys)
all-further [] ys y all = tt
all-further (x ∷ xs) ys y all = (further all.0, all-further xs ys y all.1)

pub sublist-in : {A : Type 0} (xs ys : List A) → Sublist xs ys → AllIn xs ys
sublist-in xs ys none_left = tt
sublist-in xs ys (left_out {x} {xs = rest} {ys = more} s) = all-further rest more x (sublist-in rest more s)
sublist-in xs ys (taken {x} {xs = rest} {ys = more} s) = (here, all-further rest more x (sublist-in rest more s))

-- some of some are some
pub sublist-of : {A : Type 0} (xs ys zs : List A) → Sublist xs ys → Sublist ys zs → Sublist xs zs
sublist-of xs ys zs s none_left = s
sublist-of xs ys zs s (left_out {ys = more} t) = left_out (sublist-of xs ys more s t)
sublist-of xs ys zs (left_out {xs = rest} {ys = between} s) (taken {ys = more} t) = left_out (sublist-of rest between more s t)
sublist-of xs ys zs (taken {xs = rest} {ys = between} s) (taken {ys = more} t) = taken (sublist-of rest between more s t)

all_join : {A : Type 0} (xs ys zs : List A) → AllIn xs zs → AllIn ys zs → AllIn (xs ++ ys) zs
all_join [] ys zs all all2 = all2
all_join (x ∷ xs) ys zs all all2 = (all.0, all_join xs ys zs all.1 all2)

at_in : {A : Type 0} (n : ℕ) (xs : List A) → AllIn (at n xs) xs
at_in n [] = tt
at_in zero (x ∷ xs) = (here, tt)
at_in (suc n) (x ∷ xs) = all-further (at n xs) xs x (at_in n xs)

pub chosen-in : {A : Type 0} (ns : List ℕ) (xs : List A) → AllIn (chosen ns xs) xs
chosen-in [] xs = tt
chosen-in (n ∷ ns) xs = all_join (at n xs) (chosen ns xs) xs (at_in n xs) (chosen-in ns xs)

at_map : {A B : Type 0} (f : A → B) (n : ℕ) (xs : List A) → map f (at n xs) ≡ at n (map f xs)
at_map f n [] = refl
at_map f zero (x ∷ xs) = refl
at_map f (suc n) (x ∷ xs) = at_map f n xs

pub chosen-map : {A B : Type 0} (f : A → B) (ns : List ℕ) (xs : List A) → map f (chosen ns xs) ≡ chosen ns (map f xs)
chosen-map f [] xs = refl
chosen-map {B} f (n ∷ ns) xs = map-append f (at n xs) (chosen ns xs) ∙ ap₂ (λ (l r : List B). l ++ r) (at_map f n xs) (chosen-map f ns xs)

-- the fresh ones are those that are due a 0
sound-from : (a : ℕ) (bs : List ℕ) → sound_of (due_from a bs) bs ≡ fresh_from a bs
sound-from a [] = refl
sound-from a (b ∷ bs) =
    either
    (λ (t : ltb b a ≡ true). rw t (sound-from a bs))
    (λ (t : ltb b a ≡ false). rw t (ap {B = List ℕ} (λ l. b ∷ l) (sound-from b bs)))
    (ltb b a)
    refl

pub fresh-are-sound : FreshAreSound
fresh-are-sound [] = refl
fresh-are-sound (a ∷ more) = ap {B = List ℕ} (λ l. a ∷ l) (sound-from a more)

-- arrivals in order are all fresh, and none is behind
rising-fresh-from : (a : ℕ) (bs : List ℕ) → Rising a bs → fresh_from a bs ≡ bs
rising-fresh-from a [] r = refl
rising-fresh-from a (b ∷ bs) r = rw (le-ltb b a r.0) (ap {B = List ℕ} (λ l. b ∷ l) (rising-fresh-from b bs r.1))

pub rising-fresh : (arrivals : List ℕ) → Rising 0 arrivals → fresh_of arrivals ≡ arrivals
rising-fresh [] r = refl
rising-fresh (a ∷ more) r = ap {B = List ℕ} (λ l. a ∷ l) (rising-fresh-from a more r.1)

rising-behind-from : (back a : ℕ) (bs : List ℕ) → Rising a bs → BehindFrom back a bs
rising-behind-from back a [] r = tt
rising-behind-from back a (b ∷ bs) r = let low : a ≤ b = r.0 in rw (le-ltb b a low) (omega arith, rising-behind-from back b bs r.1)

pub in_order : (gap back : ℕ) (arrivals : List ℕ) → Rising 0 arrivals → Near gap arrivals → Arriving gap back arrivals
in_order gap back [] r near = record { near = tt; behind = tt }
in_order gap back (a ∷ more) r near =
    record {
      near = subst (Near gap) (sym (rising-fresh (a ∷ more) r)) near;
      behind = rising-behind-from back a more r.1;
    }
