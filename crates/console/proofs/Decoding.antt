-- Decoding pair by pair: what stands in the room after n octets, and what the rest of the text still gives.
use Prim.Native.Nat.{ℕ, ◌+◌, ◌*◌, ◌<◌, ◌≤◌}
use mathlib.Core.Path.{◌≡◌, refl, sym, ap, ◌∙◌}
use mathlib.Core.List.{List, [], ◌∷◌, ◌++◌, append-nil, append_assoc}
use native.Mathlib.Omega.{arith}
use Rattle.std.proofs.lemmas.Bool.Decides.{nat_tests}
use native.Mathlib.Numerals.{add-one}
use lib.ListN.{length, get_or, take, drop, set, length-append, length-drop, drop_of_length-le}
use lib.Seq.{drop-cons, drop-drop, get_or-drop, take_all}
use Rattle.octets.specs.Room.{written}
use Rattle.octets.proofs.Writes as writes
use Rattle.hexline.specs.Hex.{hex_value}
use Rattle.std.specs.declared.option.Option.TheVariants.{Some, None}
use Rattle.console.specs.Hex.{digit, leading, decoded}

-- a text by its first two characters, of which the second is 0 where it is not there
no-first : (x : ℕ) (ys : List ℕ) → digit x ≡ None → leading (x ∷ ys) ≡ []
unfolding leading
no-first x [] e = refl
no-first x (y ∷ ys) e = grind (arith, nat_tests)

no-second : (x : ℕ) (ys : List ℕ) → digit (get_or ys 0 0) ≡ None → leading (x ∷ ys) ≡ []
unfolding leading
no-second x [] e = refl
no-second x (y ∷ ys) e = grind (arith, nat_tests)

record Pair (ys : List ℕ) (x high low : ℕ) : Type 0 where
  pub more : 1 ≤ length ys
  pub is : leading (x ∷ ys) ≡ (high * 16 + low) ∷ leading (drop 1 ys)

nothing : digit 0 ≡ None
unfolding hex_value
nothing = refl

pair : (x : ℕ) (ys : List ℕ) (high low : ℕ) → digit x ≡ Some high → digit (get_or ys 0 0) ≡ Some low → Pair ys x high low
unfolding leading
pair x [] high low h l = absurd (cc nothing)
pair x (y ∷ ys) high low h l = record { more = omega arith; is = grind (arith, nat_tests) }

-- n octets stand: those of the text before `at`
pub record Going (text room₀ room : List ℕ) (from at n : ℕ) : Type 0 where
  pub done : List ℕ
  pub many : length done ≡ n
  pub fits : n ≤ length room₀
  pub stands : room ≡ written room₀ 0 done
  pub rest : leading (drop from text) ≡ done ++ leading (drop at text)
  pub passed : length (drop from text) ≡ n * 2 + length (drop at text)

module _ (text : List ℕ) (at : ℕ) where
  pub at_end : length text ≤ at → leading (drop at text) ≡ []
  unfolding leading
  at_end ends = rw (drop_of_length-le text ends) refl

  module _ (more : at < length text) where
    here : drop at text ≡ get_or text at 0 ∷ drop (at + 1) text
    here = rw (add-one at) (drop-cons text at 0 more)

    second : get_or (drop (at + 1) text) 0 0 ≡ get_or text (at + 1) 0
    second = let zero : at + 1 + 0 ≡ at + 1 = omega arith in get_or-drop (at + 1) text 0 0 ∙ ap (λ (k : ℕ). get_or text k 0) zero

    pub no_high : digit (get_or text at 0) ≡ None → leading (drop at text) ≡ []
    no_high e = rw here (no-first (get_or text at 0) (drop (at + 1) text) e)

    pub no_low : digit (get_or text (at + 1) 0) ≡ None → leading (drop at text) ≡ []
    no_low e = rw here (no-second (get_or text at 0) (drop (at + 1) text) (rw second e))

    -- a pair follows
    module _ {high low : ℕ} (h : digit (get_or text at 0) ≡ Some high) (l : digit (get_or text (at + 1) 0) ≡ Some low) where
      next : Pair (drop (at + 1) text) (get_or text at 0) high low
      next = pair (get_or text at 0) (drop (at + 1) text) high low h (rw second l)

      pub follows : leading (drop at text) ≡ (high * 16 + low) ∷ leading (drop (at + 2) text)
      follows =
          let on : drop 1 (drop (at + 1) text) ≡ drop (at + 2) text =
          let two : at + 1 + 1 ≡ at + 2 = omega arith in drop-drop 1 (at + 1) text ∙ ap (λ (k : ℕ). drop k text) two in
          let is = next.is in
          rw (on, ← here) at is

      pub within : at + 2 ≤ length text
      within = omega (arith, next.more, length-drop (at + 1) text)

-- no more octets follow
module _ {text room₀ room : List ℕ} {from at n : ℕ} (going : Going text room₀ room from at n) (none : leading (drop at text) ≡ []) where
  all-done : leading (drop from text) ≡ going.done
  all-done = going.rest ∙ ap (λ (l : List ℕ). going.done ++ l) none ∙ append-nil going.done

  pub holds : room ≡ written room₀ 0 (take (length room₀) (leading (drop from text)))
  holds = rw all-done (rw (take_all (length room₀) going.done (omega (arith, going.many, going.fits))) going.stands)

  pub all : length text ≤ at → Some n ≡ decoded (length room₀) (drop from text)
  all ends = grind (arith, nat_tests, ap length all-done, going.many, going.fits, going.passed, length-drop at text)

  pub stopped : at < length text → None ≡ decoded (length room₀) (drop from text)
  stopped more = grind (arith, nat_tests, ap length all-done, going.many, going.fits, going.passed, length-drop at text)

-- one octet more
pub turn :
    {text room₀ room : List ℕ} {from at n octet : ℕ}
    → Going text room₀ room from at n
    → leading (drop at text) ≡ octet ∷ leading (drop (at + 2) text)
    → at + 2 ≤ length text
    → n < length room
    → length room ≡ length room₀
    → Going text room₀ (set room n octet) from (at + 2) (n + 1)
turn {text} {room₀} {room} {from} {at} {n} {octet} going follows within h same =
    let many : length going.done ≡ n = going.many in
    let stored : set room n octet ≡ written room n (octet ∷ []) = writes.one-stored room n octet (omega arith) in
    record {
      done = going.done ++ octet ∷ [];
      many = length-append going.done (octet ∷ []) ∙ ap (λ (k : ℕ). k + 1) many;
      fits = omega arith;
      stands = writes.behind room₀ going.done (octet ∷ []) room (set room n octet) 0 n (omega arith) (omega arith) going.stands stored;
      rest = going.rest ∙ ap (λ (l : List ℕ). going.done ++ l) follows ∙ sym (append_assoc going.done (octet ∷ []) (leading (drop (at + 2) text)));
      passed = omega (arith, going.passed, within, length-drop at text, length-drop (at + 2) text);
    }
