-- What is read is made again (specs/Claims.antt).
use Prim.Native.Nat.{ℕ, ◌+◌, ◌-◌, ◌*◌, ◌/◌, ◌%◌, ◌<◌, ◌≤◌}
use mathlib.Core.Path.{◌≡◌, refl, sym, ap, ap₂, subst, ◌∙◌}
use mathlib.Core.List.{List, [], ◌∷◌, ◌++◌}
use mathlib.Core.Bool.{true, false, ◌&&◌}
use mathlib.Core.Logic.{⊎_elim}
use native.Mathlib.Omega.{arith}
use borrow.Author.Tests.{leb-true, leb-false, ltb-false, not-false}
use lib.Dec.{ltb, eqb}
use lib.ListN.{length, get_or, take, drop, length-drop, take-append-drop}
use Rattle.std.specs.declared.option.Option.{Option}
use Rattle.std.specs.declared.option.Option.TheVariants.{None, Some}
use Rattle.std.specs.declared.result.Result.{Result}
use Rattle.std.specs.declared.result.Result.TheVariants.{Ok, Err}
use Rattle.std.proofs.lemmas.Result.{IfOk-at_ok, IfErr-at_err}
use Rattle.refusal.specs.declared.Refusal.{Refusal}
use Rattle.octets.specs.Octets.{Octets}
use Rattle.octets.specs.Made.{made}
use Rattle.octets.proofs.Order.{eq-or-ne, either}
use Rattle.fax.specs.declared.Command.{Command}
use Rattle.fax.specs.declared.Command.TheVariants.{On}
use Rattle.fax.specs.declared.Fax.{Fax}
use Rattle.fax.specs.Fax.{code_of, stamp_octets, on_octet, command_octets, head_octets, front_of, bit8, ei1_in, sequence_in, code_in, time_in, stamp_in, ei2_in, on_in, zero_bits_in, command_of, command_in, unstamped, body_sized, refused_on, read_refusals, fax_read, stamp_number, fax_made}
use Rattle.fax.specs.Claims.{ReadIsMade}
use Rattle.refusal.proofs.Order.{passed}
use Rattle.fax.proofs.Commands.{plain, code-back, plain-front}
use Rattle.fax.proofs.FaxCases as cases

-- the first octets of a list that has them
take-1 : (l : List ℕ) → 1 ≤ length l → take 1 l ≡ get_or l 0 0 ∷ []
take-1 [] h = absurd (omega arith)
take-1 (a ∷ l) h = refl

take-3 : (l : List ℕ) → 3 ≤ length l → take 3 l ≡ get_or l 0 0 ∷ get_or l 1 0 ∷ get_or l 2 0 ∷ []
take-3 [] h = absurd (omega arith)
take-3 (a ∷ []) h = absurd (omega arith)
take-3 (a ∷ b ∷ []) h = absurd (omega arith)
take-3 (a ∷ b ∷ c ∷ l) h = refl

take-6 : (l : List ℕ) → 6 ≤ length l → take 6 l ≡ get_or l 0 0 ∷ get_or l 1 0 ∷ get_or l 2 0 ∷ get_or l 3 0 ∷ get_or l 4 0 ∷ get_or l 5 0 ∷ []
take-6 [] h = absurd (omega arith)
take-6 (a ∷ []) h = absurd (omega arith)
take-6 (a ∷ b ∷ []) h = absurd (omega arith)
take-6 (a ∷ b ∷ c ∷ []) h = absurd (omega arith)
take-6 (a ∷ b ∷ c ∷ d ∷ []) h = absurd (omega arith)
take-6 (a ∷ b ∷ c ∷ d ∷ e ∷ []) h = absurd (omega arith)
take-6 (a ∷ b ∷ c ∷ d ∷ e ∷ f ∷ l) h = refl

-- the first octet, without EI1 and with it
first-bare : (x code : ℕ) → x < 128 → code ≡ x % 8 → 0 * 128 + x / 8 % 16 * 8 + code ≡ x
first-bare x code h e = omega arith

first-stamped : (x code : ℕ) → 128 ≤ x → x < 256 → code ≡ x % 8 → 1 * 128 + x / 8 % 16 * 8 + code ≡ x
first-stamped x code least h e = omega arith

-- the octets of a stamp
stamp-octets : (low high : ℕ) → low < 256 → high < 128 → stamp_octets (Some (high % 128 * 256 + low)) ≡ low ∷ high ∷ []
stamp-octets low high h clear =
    let seven : high % 128 ≡ high = omega arith in
    let a : (high * 256 + low) % 256 ≡ low = omega arith in
    let b : (high * 256 + low) / 256 ≡ high = omega arith in
    simp (seven, a, b)

-- the octets of the command on
on-octet : (on : ℕ) → on < 256 → on / 16 % 8 ≡ 0 → on_octet (bit8 on) (on % 16) ≡ on
on-octet on h zeros =
    either (λ set. let high = leb-true 128 on set in let is : 128 + on % 16 ≡ on = omega arith in rw set is)
    (λ unset. let low = leb-false 128 on unset in let is : 0 + on % 16 ≡ on = omega arith in rw unset is)
    (bit8 on) refl

on-octets :
    (on low high : ℕ)
    → on < 256
    → low < 256
    → on / 16 % 8 ≡ 0
    → command_octets (On (bit8 on) (on % 16) (high * 256 + low)) ≡ on ∷ low ∷ high ∷ []
on-octets on low high h k zeros =
    let a : (high * 256 + low) % 256 ≡ low = omega arith in
    let b : (high * 256 + low) / 256 ≡ high = omega arith in
    simp (on-octet on h zeros, a, b)

-- the octets in front are those that were read
module _ (o : List ℕ) (small : Octets o) (command : Command) (code : code_of command ≡ code_in o) where
  bare-head : command_octets command ≡ [] → ei1_in o ≡ false → 1 ≤ length o → head_octets (sequence_in o) None command ≡ take 1 o
  bare-head none ei1 some =
      rw none (ap (λ (x : ℕ). x ∷ []) (first-bare (get_or o 0 0) (code_of command) (leb-false 128 (get_or o 0 0) ei1) code) ∙ sym (take-1 o some))

  module _ (ei1 : ei1_in o ≡ true) (clear : get_or o 2 0 < 128) where
    front : (rest : List ℕ) → command_octets command ≡ rest → head_octets (sequence_in o) (Some (time_in o)) command ≡ get_or o 0 0 ∷ get_or o 1 0 ∷ get_or o 2 0 ∷ rest
    front rest is =
        ap₂ (λ (x : ℕ) (l : List ℕ). x ∷ l)
        (first-stamped (get_or o 0 0) (code_of command) (leb-true 128 (get_or o 0 0) ei1) (small 0) code)
        (ap₂ (λ (l m : List ℕ). l ++ m) (stamp-octets (get_or o 1 0) (get_or o 2 0) (small 1) clear) is)

    stamped-head : command_octets command ≡ [] → 3 ≤ length o → head_octets (sequence_in o) (Some (time_in o)) command ≡ take 3 o
    stamped-head none whole = front [] none ∙ sym (take-3 o whole)

    on-head : command ≡ on_in o → zero_bits_in o ≡ 0 → 6 ≤ length o → head_octets (sequence_in o) (Some (time_in o)) command ≡ take 6 o
    on-head is zeros whole =
        front _ (ap command_octets is ∙ on-octets (get_or o 3 0) (get_or o 4 0) (get_or o 5 0) (small 3) (small 4) zeros) ∙ sym (take-6 o whole)

-- a payload that tells a fax passed every test
record Read (o : List ℕ) (stamp : Option ℕ) (command : Command) : Type 0 where
  st : stamp_in o ≡ stamp
  co : command_in o ≡ command
  code : code_of command ≡ code_in o
  stamped : unstamped stamp command ≡ false
  whole : front_of stamp command ≤ length o
  sized : body_sized command (length o - front_of stamp command) ≡ true
  clear : ei2_in o ≡ false
  free : (eqb (code_in o) 1 && ltb 0 (zero_bits_in o)) ≡ false
  taken : refused_on command ≡ false

record Again (o : List ℕ) (stamp : Option ℕ) (command : Command) : Type 0 where
  head : head_octets (sequence_in o) stamp command ≡ take (front_of stamp command) o
  in-range : stamp_number stamp ≤ 32767

module _ (o : List ℕ) (small : Octets o) where
  bare-again : (command : Command) → ei1_in o ≡ false → Read o None command → Again o None command
  bare-again command ei1 r =
      let least : 2 ≤ code_of command = ltb-false (code_of command) 2 r.stamped in
      let p = plain command (λ e. omega arith) in
      let is = plain-front None command p in
      record { head = rw is (bare-head o small command r.code p.none ei1 (rw is at r.whole)); in-range = omega arith }

  module _ (ei1 : ei1_in o ≡ true) where
    in-range : get_or o 2 0 % 128 * 256 + get_or o 1 0 ≤ 32767
    in-range = omega (arith, small 1)

    ei2 : ei2_in o ≡ false → get_or o 2 0 < 128
    ei2 clear = leb-false 128 (get_or o 2 0) (rw ei1 at clear)

    on-again : code_in o ≡ 1 → Read o (Some (time_in o)) (on_in o) → Again o (Some (time_in o)) (on_in o)
    unfolding front_of
    on-again one r =
        let zeros : zero_bits_in o ≤ 0 = ltb-false 0 (zero_bits_in o) (rw one at r.free) in
        record { head = on-head o small (on_in o) r.code ei1 (ei2 r.clear) refl (omega arith) r.whole; in-range = in-range }

    plain-again : (command : Command) → (code_in o ≡ 1 → ⊥) → Read o (Some (time_in o)) command → Again o (Some (time_in o)) command
    plain-again command other r =
        let p = plain command (λ e. other (sym r.code ∙ e)) in
        let is = plain-front (Some (time_in o)) command p in
        record { head = rw is (stamped-head o small command r.code ei1 (ei2 r.clear) p.none (rw is at r.whole)); in-range = in-range }

    stamped-again : (command : Command) → Read o (Some (time_in o)) command → Again o (Some (time_in o)) command
    unfolding command_of
    stamped-again command r =
        ⊎_elim
        (λ (one : code_in o ≡ 1).
        subst (λ (k : Command). Read o (Some (time_in o)) k → Again o (Some (time_in o)) k) (rw one at r.co) (on-again one) r)
        (λ other. plain-again command other r)
        (eq-or-ne (code_in o) 1)

  again : (stamp : Option ℕ) (command : Command) → Read o stamp command → Again o stamp command
  again stamp command r =
      either
      (λ (ei1 : ei1_in o ≡ true).
      subst (λ (x : Option ℕ). Read o x command → Again o x command) (rw ei1 at r.st) (stamped-again ei1 command) r)
      (λ (ei1 : ei1_in o ≡ false).
      subst (λ (x : Option ℕ). Read o x command → Again o x command) (rw ei1 at r.st) (bare-again command ei1) r)
      (ei1_in o) refl

  made_again : (stamp : Option ℕ) (command : Command) → Read o stamp command → fax_made (sequence_in o) stamp command (drop (front_of stamp command) o) ≡ made o
  made_again stamp command r =
      let front : ℕ = front_of stamp command in
      let a = again stamp command r in
      cases.made-right (sequence_in o) stamp command (drop front o) r.stamped
      (ap (body_sized command) (length-drop front o) ∙ r.sized)
      r.taken
      (omega arith)
      a.in-range
      ∙ ap (λ (l : List ℕ). made (l ++ drop front o)) a.head
      ∙ ap made (take-append-drop front o)

pub read-is-made : ReadIsMade
unfolding fax_read
read-is-made o fax small e =
    let st = stamp_in o in
    let co = command_in o in
    let all = passed {A = Result Fax Refusal} Err _ (read_refusals o st co) (Ok fax) (λ r n. IfErr-at_err (λ r. ⊥) (sym n) tt) e in
    let tests = all.0 in
    let read : Read o st co =
    record {
      st = refl;
      co = refl;
      code = code-back (code_in o) _ _ _ (ltb-false 4 (code_in o) tests.1.0);
      stamped = tests.1.1.0;
      whole = ltb-false (length o) (front_of st co) tests.1.1.1.0;
      sized = not-false _ tests.1.1.1.1.0;
      clear = tests.1.1.1.1.1.0;
      free = tests.1.1.1.1.1.1.0;
      taken = tests.1.1.1.1.1.1.1.0;
    }
    in
    IfOk-at_ok (λ (f : Fax). fax_made f.sequence f.stamp f.command (drop f.front o) ≡ made o) all.1 (made_again o small st co read)
