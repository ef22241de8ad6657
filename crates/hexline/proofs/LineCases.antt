-- What a line holds, case by case, in the terms of the code.
use Rattle.std.proofs.Common.{◌≡◌, ℕ, ◌-◌, ◌/◌, ◌%◌, ◌<◌, ◌≤◌, Bool, true, false, List, [], ◌++◌, length, get_or, take, drop, refl, ap, ◌∙◌, ⊎_elim, le_trans, arith, length-drop, drop_of_length-le, length-take, le-ltb, lt-ltb, eq-eqb, ne_eqb}
use mathlib.Core.Path.{subst⁻¹}
use Rattle.refusal.specs.Order.{◌or◌}
use Rattle.octets.specs.Text.{starts}
use Rattle.octets.proofs.Order.{lt-or-le, eq-or-ne, either}
use Rattle.octets.proofs.Texts as texts
use Rattle.hexline.specs.Hex.{any_other, paired}
use Rattle.hexline.specs.Line.{frame_key, Held, octets, refused, line_read, in_room}
use Rattle.hexline.proofs.Characters as characters
use Rattle.octets.proofs.Writes as writes
use Rattle.refusal.specs.declared.Refusal.{Refusal}
use Rattle.refusal.specs.declared.Refusal.TheVariants.{FieldTooLong, HexMalformed}

-- a test that holds, behind others
pub second : (a d : Bool) → (a or true or d) ≡ true
second true d = refl
second false d = refl

pub third : (a b d : Bool) → (a or b or true or d) ≡ true
third true b d = refl
third false b d = second b d

pub last : (a b c : Bool) → (a or b or c or true) ≡ true
last true b c = refl
last false true c = refl
last false false c = second c true

module _ (line : List ℕ) where
  pub otherwise : starts line frame_key ≡ false → line_read line ≡ refused HexMalformed
  unfolding line_read
  otherwise e = simp (e, last)

  module _ (keyed : starts line frame_key ≡ true) where
    module _ (none : get_or line (length line - 1) 0 ≡ 10 → ⊥) where
      count-all : length line - 6 - 0 ≡ length line - 6
      count-all = omega arith

      pub long-cut : 3200 < length line - 6 → line_read line ≡ refused FieldTooLong
      unfolding line_read
      long-cut h = simp (keyed, ne_eqb (get_or line (length line - 1) 0) 10 none, count-all, lt-ltb 3200 (length line - 6) h)

      pub cut : length line - 6 ≤ 3200 → line_read line ≡ refused HexMalformed
      unfolding line_read
      cut h = simp (keyed, ne_eqb (get_or line (length line - 1) 0) 10 none, count-all, le-ltb 3200 (length line - 6) h, third)

    -- `frame=` alone ends with no LF
    alone : length line ≤ 6 → get_or line (length line - 1) 0 ≡ 10 → ⊥
    alone short lf =
        let none : drop 6 line ≡ [] = drop_of_length-le line short in
        let same : line ≡ frame_key = texts.starts-whole line frame_key keyed ∙ ap (λ (l : List ℕ). frame_key ++ l) none in
        let last : get_or frame_key 5 0 ≡ 10 = rw same at lf in
        omega arith

    module _ (lf : get_or line (length line - 1) 0 ≡ 10) where
      pub with-lf : 7 ≤ length line
      with-lf = ⊎_elim (λ (h : length line < 7). absurd (alone (omega arith) lf)) (λ (h : 7 ≤ length line). h) (lt-or-le (length line) 7)

      count : length line - 6 - 1 ≡ length line - 1 - 6
      count = omega arith

      pub long : 3200 < length line - 1 - 6 → line_read line ≡ refused FieldTooLong
      unfolding line_read
      long h = simp (keyed, eq-eqb (get_or line (length line - 1) 0) 10 lf, count, lt-ltb 3200 (length line - 1 - 6) h)

      module _ (few : length line - 1 - 6 ≤ 3200) where
        pub uneven : (length line - 1 - 6) % 2 ≡ 1 → line_read line ≡ refused HexMalformed
        unfolding line_read
        uneven h =
            simp (keyed, eq-eqb (get_or line (length line - 1) 0) 10 lf, count, le-ltb 3200 (length line - 1 - 6) few, eq-eqb ((length line - 1 - 6) % 2) 1 h)

        module _ (even : (length line - 1 - 6) % 2 ≡ 1 → ⊥) where
          pub other : any_other (take (length line - 1 - 6) (drop 6 line)) ≡ true → line_read line ≡ refused HexMalformed
          unfolding line_read
          other h =
              simp (
                keyed,
                eq-eqb (get_or line (length line - 1) 0) 10 lf,
                count,
                le-ltb 3200 (length line - 1 - 6) few,
                ne_eqb ((length line - 1 - 6) % 2) 1 even,
                h,
              )

          pub whole :
              any_other (take (length line - 1 - 6) (drop 6 line)) ≡ false
              → line_read line ≡ octets (paired (take (length line - 1 - 6) (drop 6 line)))
          unfolding line_read
          whole h =
              simp (
                keyed,
                eq-eqb (get_or line (length line - 1) 0) 10 lf,
                count,
                le-ltb 3200 (length line - 1 - 6) few,
                ne_eqb ((length line - 1 - 6) % 2) 1 even,
                h,
              )

      -- as many octets as half the characters
      pub half : length (take (length line - 1 - 6) (drop 6 line)) ≡ length line - 1 - 6
      half = simp (length-take, length-drop) (omega arith)

      pub size : length (paired (take (length line - 1 - 6) (drop 6 line))) ≡ (length line - 1 - 6) / 2
      size = characters.pairs-size (take (length line - 1 - 6) (drop 6 line)) ∙ ap (λ (k : ℕ). k / 2) half

-- A line holds at most 1,600 octets.
abbrev pub Fair : Held → Type 0
Fair (octets s) = length s ≤ 1600
Fair (refused refusal) = Unit {0}

module _ (line : List ℕ) where
  fair-refused : {refusal : Refusal} → line_read line ≡ refused refusal → Fair (line_read line)
  fair-refused e = subst⁻¹ Fair e tt

  module _ (keyed : starts line frame_key ≡ true) where
    ended-fair : get_or line (length line - 1) 0 ≡ 10 → Fair (line_read line)
    ended-fair lf =
        ⊎_elim (λ (h : 3200 < length line - 1 - 6). fair-refused (long line keyed lf h))
        (λ (h : length line - 1 - 6 ≤ 3200).
        ⊎_elim (λ o. fair-refused (uneven line keyed lf h o))
        (λ e.
        either (λ bad. fair-refused (other line keyed lf h e bad))
        (λ hex. subst⁻¹ Fair (whole line keyed lf h e hex) (omega (arith, size line keyed lf)))
        (any_other (take (length line - 1 - 6) (drop 6 line)))
        refl)
        (eq-or-ne ((length line - 1 - 6) % 2) 1))
        (lt-or-le 3200 (length line - 1 - 6))

    cut-fair : (get_or line (length line - 1) 0 ≡ 10 → ⊥) → Fair (line_read line)
    cut-fair none =
        ⊎_elim (λ (h : 3200 < length line - 6). fair-refused (long-cut line keyed none h))
        (λ (h : length line - 6 ≤ 3200). fair-refused (cut line keyed none h))
        (lt-or-le 3200 (length line - 6))

  pub fair : Fair (line_read line)
  fair =
      either (λ keyed. ⊎_elim (ended-fair keyed) (cut-fair keyed) (eq-or-ne (get_or line (length line - 1) 0) 10))
      (λ e. fair-refused (otherwise line e))
      (starts line frame_key)
      refl

-- Room for 1,600 octets is enough.
pub in-room : (room : ℕ) (held : Held) → 1600 ≤ room → Fair held → in_room room held ≡ held
in-room room (octets s) h fair = simp (le-ltb room (length s) (le_trans fair h))
in-room room (refused refusal) h fair = refl

pub ruleset keyed = (texts.starts-length, with-lf, last, second, third, size, writes.written_none)
