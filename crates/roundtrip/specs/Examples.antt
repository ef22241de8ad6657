-- Legal lists: one with each of the six kinds of content, and one of 64 sub-frames and 1,600 octets. Proved legal in
-- proofs/Examples.antt, so the hypotheses of demand 2 can be met.
use Rattle.std.specs.Prelude.{ℕ, List, [], ◌∷◌, ◌++◌, true, false, replicate, pos, Some}
use Rattle.record.specs.declared.syntax.Syntax.TheVariants.{Acelp, Data}
use Rattle.record.specs.Record.{packed}
use Rattle.sid.specs.declared.Sid.TheVariants.{Plain}
use Rattle.fax.specs.declared.Command.TheVariants.{Off}
use Rattle.payload.specs.Content.{speech, dialled, seized, faxed, silent, fragment}
use Rattle.roundtrip.specs.Demand2.{Sub, Legal}

-- CID 5 is acelp, one block without a sequence; CID 6 is data.
abbrev pub table : List ℕ
table =
    replicate 5 0
    ++ packed (record { syntax = Acelp; m = 1; seq = false })
    ∷ packed (record { syntax = Data; m = 1; seq = false })
    ∷ replicate 249 0

abbrev pub spoken : Sub
spoken = record { cid = 5; content = speech (record { 0 = 0 }) 0 (replicate 10 170) }

-- The level is above zero, and the last two windows are off with a code: these come back as 0.
abbrev pub every_kind : List Sub
every_kind =
    spoken
    ∷ record {
      cid = 5;
      content =
          dialled
          (record {
            sequence = record { 0 = 7 };
            level = pos 3;
            current = record { on = true; edge = 2; code = 5 };
            recent = record { on = false; edge = 0; code = 9 };
            previous = record { on = false; edge = 0; code = 9 };
          });
    }
    ∷ record { cid = 5; content = seized (record { alarm = true; sequence = record { 0 = 1 }; samples = replicate 30 15 }) }
    ∷ record { cid = 5; content = faxed 0 (Some 1000) Off [] }
    ∷ record { cid = 5; content = silent Plain }
    ∷ record { cid = 6; content = fragment true true (record { 0 = 300 }) (1 ∷ []) }
    ∷ []

abbrev pub fragments : Sub
fragments = record { cid = 6; content = fragment true true (record { 0 = 0 }) (replicate 841 0) }

abbrev pub fullest : List Sub
fullest = replicate 63 spoken ++ fragments ∷ []

-- Each is legal in a lent frame that it just fills.
abbrev pub EveryKindLegal : Type 0
EveryKindLegal = (left : List ℕ) × Legal table (replicate 55 0) every_kind (record { at = 55; count = 6; done = true }) left

abbrev pub FullestLegal : Type 0
FullestLegal = (left : List ℕ) × Legal table (replicate 1600 0) fullest (record { at = 1600; count = 64; done = true }) left
