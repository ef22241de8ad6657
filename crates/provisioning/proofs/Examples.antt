-- Provisioning texts and what reading them tells (document 01, "Provisioning text"; the shared readings of it).
use Prim.Native.Nat.{ℕ}
use Prim.Native.String.{String}
use mathlib.Core.Path.{◌≡◌, refl}
use mathlib.Core.List.{List, [], ◌∷◌, ◌++◌, map}
use mathlib.Core.Bool.{false}
use lib.ListN.{replicate}
use Rattle.octets.specs.Text.{ascii, lf, starts, has_lf}
use Rattle.record.specs.declared.syntax.Syntax.TheVariants.{Acelp}
use Rattle.record.specs.Record.{syntax_at, packed, meaning, found_at}
use Rattle.refusal.specs.declared.Refusal.TheVariants.{LineMalformed, ValueNotListed, CidNotRising, TextTooLong}
use Rattle.value.specs.Value.{digit_of, third_digit, second_digit, number_by, word_among, value_line}
use Rattle.provisioning.specs.Line.{line_by}
use Rattle.provisioning.specs.Text.{Entry, Reading, refused, taken, walk, reading, table_of}
use Rattle.provisioning.specs.Back.{decimal, block_text, text_from, text_of_table}

-- lines, each ended by LF
lines : List String → List ℕ
lines [] = []
lines (line ∷ rest) = ascii line ++ lf ∷ lines rest

block : List ℕ
block = lines ("cid=5" ∷ "syntax=acelp" ∷ "m=1" ∷ "seq=0" ∷ [])

made : Entry
made = record { cid = 5; made = record { syntax = Acelp; m = 1; seq = false } }

pub record Example : Type 0 where
  pub text : List ℕ
  pub tells : Reading

example : List ℕ → Reading → Example
example text tells = record { text = text; tells = tells }

pub examples : List Example
examples =
    -- no blocks, one block, and another on the same CID or on a CID that is not listed
    example [] (taken [])
    ∷ example block (taken (made ∷ []))
    ∷ example (block ++ block) (refused CidNotRising 5)
    ∷ example (block ++ lines ("cid=3" ∷ [])) (refused ValueNotListed 5)
    -- cid lines
    ∷ example (lines ("cid=05" ∷ [])) (refused LineMalformed 1)
    ∷ example (lines ("cid=0" ∷ [])) (refused ValueNotListed 1)
    ∷ example (lines ("cid=1000" ∷ [])) (refused LineMalformed 1)
    ∷ example (lines ("cid=256" ∷ [])) (refused ValueNotListed 1)
    ∷ example (lines ("cid=" ∷ [])) (refused LineMalformed 1)
    -- m lines
    ∷ example (lines ("cid=255" ∷ "syntax=fax" ∷ "m=00" ∷ [])) (refused LineMalformed 3)
    ∷ example (lines ("cid=255" ∷ "syntax=fax" ∷ "m=0" ∷ [])) (refused ValueNotListed 3)
    ∷ example (lines ("cid=4" ∷ "syntax=acelp" ∷ "m=7" ∷ [])) (refused ValueNotListed 3)
    ∷ example (lines ("cid=4" ∷ "syntax=g7231" ∷ "m=2" ∷ [])) (refused ValueNotListed 3)
    -- seq lines
    ∷ example (lines ("cid=4" ∷ "syntax=pcm" ∷ "m=12" ∷ "seq=0" ∷ [])) (refused ValueNotListed 4)
    ∷ example (lines ("cid=4" ∷ "syntax=data" ∷ "m=1" ∷ "seq=1" ∷ [])) (refused ValueNotListed 4)
    -- syntax lines; the second word ends in CR
    ∷ example (lines ("cid=4" ∷ "syntax=gsm" ∷ [])) (refused ValueNotListed 2)
    ∷ example (lines ("cid=4" ∷ []) ++ ascii "syntax=acelp" ++ 13 ∷ lf ∷ []) (refused ValueNotListed 2)
    ∷ example (lines ("cid=4" ∷ "syntax=" ∷ [])) (refused ValueNotListed 2)
    -- no LF
    ∷ example (lines ("cid=4" ∷ []) ++ ascii "syntax=gsm") (refused LineMalformed 2)
    ∷ example (lines ("cid=4" ∷ "syntax=acelp" ∷ "m=1" ∷ []) ++ ascii "seq=9") (refused LineMalformed 4)
    -- a block that is cut
    ∷ example (lines ("cid=4" ∷ "syntax=acelp" ∷ "m=1" ∷ [])) (refused LineMalformed 4)
    -- 8,192 octets, and one more
    ∷ example (replicate 8192 10) (refused LineMalformed 1)
    ∷ example (replicate 8193 10) (refused TextTooLong 0)
    ∷ []

pub told : map (λ e. reading e.text) examples ≡ map (λ e. e.tells) examples
unfolding examples example lines block made reading walk line_by value_line number_by second_digit third_digit digit_of word_among starts has_lf syntax_at
told = refl

-- the block back from its table
back : text_of_table (table_of (made ∷ [])) ≡ block
unfolding lines block made text_from block_text decimal found_at meaning packed syntax_at
back = refl
