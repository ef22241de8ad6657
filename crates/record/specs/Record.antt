-- Syntaxes, what m and seq each may have, and the numbers of the provisioning table (document 01, "Provisioning text").
use Rattle.std.specs.Prelude.{ℕ, ◌+◌, ◌*◌, ◌/◌, ◌%◌, List, Bool, true, cond, not, ◌&&◌, ltb, leb, eqb, get_or, Option, Some, None}
use Rattle.octets.specs.Text.{ascii}
use Rattle.record.specs.declared.syntax.Syntax.{Syntax}
use Rattle.record.specs.declared.syntax.Syntax.TheVariants.{Acelp, Pcm, G727, G728, G7231, Data, Fax}
use Rattle.record.specs.declared.syntax.Record.{Record}

-- "Syntax words: acelp, pcm, g727, g728, g7231, data, fax."
abbrev pub word : Syntax → List ℕ
word Acelp = ascii "acelp"
word Pcm = ascii "pcm"
word G727 = ascii "g727"
word G728 = ascii "g728"
word G7231 = ascii "g7231"
word Data = ascii "data"
word Fax = ascii "fax"

-- "m is 1 to 6 for acelp, 1 to 12 for pcm, g727, g728, else 1."
abbrev pub most_m : Syntax → ℕ
most_m Acelp = 6
most_m Pcm = 12
most_m G727 = 12
most_m G728 = 12
most_m G7231 = 1
most_m Data = 1
most_m Fax = 1

abbrev pub m_listed : Syntax → ℕ → Bool
m_listed syntax m = leb 1 m && leb m (most_m syntax)

-- "seq is 0 or 1 for acelp, g728, g7231; 1 for pcm, g727; 0 for data, fax."
abbrev pub seq_listed : Syntax → Bool → Bool
seq_listed Acelp seq = true
seq_listed Pcm seq = seq
seq_listed G727 seq = seq
seq_listed G728 seq = true
seq_listed G7231 seq = true
seq_listed Data seq = not seq
seq_listed Fax seq = not seq

-- a record whose m and seq are listed for its syntax
abbrev pub legal : Record → Bool
legal r = m_listed r.syntax r.m && seq_listed r.syntax r.seq

-- the place of a syntax in the list of words, from 1
abbrev pub place : Syntax → ℕ
place Acelp = 1
place Pcm = 2
place G727 = 3
place G728 = 4
place G7231 = 5
place Data = 6
place Fax = 7

-- the syntax at a place from 1 to 7
unfoldable pub syntax_at : ℕ → Syntax
syntax_at at =
    cond (eqb at 1) Acelp
    (cond (eqb at 2) Pcm
    (cond (eqb at 3) G727
    (cond (eqb at 4) G728
    (cond (eqb at 5) G7231
    (cond (eqb at 6) Data Fax)))))

-- A record as a number of the table. That of a legal one has its syntax above bit 5, m in bits 5 to 2 and seq in bit 1.
unfoldable pub packed : Record → ℕ
packed r = place r.syntax * 32 + r.m * 2 + cond r.seq 1 0

-- the record of this syntax whose m and seq a number packs
abbrev pub with_pair : Syntax → ℕ → Record
with_pair syntax n = record { syntax = syntax; m = n / 2 % 16; seq = eqb (n % 2) 1 }

-- the record whose number this could be
abbrev pub unpacked : ℕ → Record
unpacked n = with_pair (syntax_at (n / 32)) n

-- What a number of the table means: the legal record whose number it is, and no record where it is that of none.
unfoldable pub meaning : ℕ → Option Record
meaning n =
    cond (eqb (packed (unpacked n)) n && legal (unpacked n)) (Some (unpacked n)) None

-- What is provisioned on a CID: CIDs are 4 to 255.
unfoldable pub found_at : List ℕ → ℕ → Option Record
found_at table cid = cond (ltb cid 4) None (meaning (get_or table cid 0))
