-- The other way: the text of a table (document 01, "Provisioning text").
use Rattle.std.specs.Prelude.{ℕ, zero, suc, ◌+◌, ◌/◌, ◌%◌, List, [], ◌∷◌, ◌++◌, cond, ltb, Option, Some, None}
use Rattle.record.specs.declared.syntax.Record.{Record}
use Rattle.provisioning.specs.declared.line.Kind.{Kind}
use Rattle.provisioning.specs.declared.line.Kind.TheVariants.{OfCid, OfSyntax, OfM, OfSeq}
use Rattle.record.specs.Record.{word, found_at}
use Rattle.octets.specs.Text.{lf}
use Rattle.provisioning.specs.Line.{row}

-- a number below 1,000 in decimal digits, with no leading zero
unfoldable pub decimal : ℕ → List ℕ
decimal n =
    cond (ltb n 10) ((48 + n) ∷ [])
    (cond (ltb n 100) ((48 + n / 10) ∷ (48 + n % 10) ∷ [])
    ((48 + n / 100) ∷ (48 + n / 10 % 10) ∷ (48 + n % 10) ∷ []))

-- the value of a line of this kind
abbrev pub value_text : Kind → ℕ → Record → List ℕ
value_text OfCid cid r = decimal cid
value_text OfSyntax cid r = word r.syntax
value_text OfM cid r = decimal r.m
value_text OfSeq cid r = decimal (cond r.seq 1 0)

abbrev pub line_text : Kind → ℕ → Record → List ℕ
line_text kind cid r = (row kind).key ++ (value_text kind cid r ++ lf ∷ [])

-- the four lines of a block
unfoldable pub block_text : ℕ → Record → List ℕ
block_text cid r = line_text OfCid cid r ++ line_text OfSyntax cid r ++ line_text OfM cid r ++ line_text OfSeq cid r

abbrev pub text_of_found : ℕ → Option Record → List ℕ
text_of_found cid (Some r) = block_text cid r
text_of_found cid None = []

-- the blocks of `room` CIDs from `cid` on
unfoldable pub text_from : ℕ → ℕ → List ℕ → List ℕ
text_from zero cid t = []
text_from (suc room) cid t = text_of_found cid (found_at t cid) ++ text_from room (cid + 1) t

-- The text of a table: a block for each provisioned CID from 4 to 255, in order.
abbrev pub text_of_table : List ℕ → List ℕ
text_of_table t = text_from 252 4 t
