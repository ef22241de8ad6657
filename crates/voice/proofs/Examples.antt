-- Worked examples, on the definitions: payloads with the octets of their coding type, one less and one more; and what is refused with 16.
use Prim.Native.Nat.{ℕ}
use mathlib.Core.Path.{◌≡◌, refl}
use mathlib.Core.List.{List, [], ◌∷◌}
use mathlib.Core.Bool.{true}
use lib.ListN.{replicate}
use Rattle.std.specs.Prelude.{Result, Ok, Err}
use Rattle.refusal.specs.declared.Refusal.{Refusal}
use Rattle.refusal.specs.declared.Refusal.TheVariants.{CodingTypeUnknown}
use Rattle.refusal.specs.Numbers as numbers
use Rattle.octets.specs.Made.{unmade}
use Rattle.record.specs.declared.syntax.Record.{Record}
use Rattle.record.specs.declared.syntax.Syntax.{Syntax}
use Rattle.record.specs.declared.syntax.Syntax.TheVariants.{Acelp, Pcm, G727, G728}
use Rattle.voice.specs.declared.Voice.{Voice}
use Rattle.voice.specs.Voice.{block_octets, body_octets, front_of, voice_read, voice_made}

-- 0, or the refusal
abbrev number : Result Voice Refusal → ℕ
number (Ok voice) = 0
number (Err refusal) = numbers.number refusal

abbrev of : Syntax → ℕ → Record
of syntax m = record { syntax = syntax; m = m; seq = true }

-- the answers to a front octet with this coding type and so many octets behind it
abbrev answers : Syntax → ℕ → ℕ → List ℕ → List ℕ
answers syntax m coding [] = []
answers syntax m coding (n ∷ ns) =
    number (voice_read (of syntax m) (coding ∷ replicate n 0)) ∷ answers syntax m coding ns

-- only the length in the middle is that of the coding type
pub lengths :
    -- document 01, examples 13 and 14: 81 and 481 octets with the front one
    answers Pcm 4 7 (79 ∷ 80 ∷ 81 ∷ [])
    ∷ answers Pcm 12 0 (479 ∷ 480 ∷ 481 ∷ [])
    -- the last coding type of Annex F
    ∷ answers Pcm 1 13 (9 ∷ 10 ∷ 11 ∷ [])
    -- Annex G: its three cores, the largest and the last enhancement, and the last that combines both
    ∷ answers G727 1 0 (9 ∷ 10 ∷ 11 ∷ [])
    ∷ answers G727 1 7 (14 ∷ 15 ∷ 16 ∷ [])
    ∷ answers G727 1 12 (19 ∷ 20 ∷ 21 ∷ [])
    ∷ answers G727 1 3 (14 ∷ 15 ∷ 16 ∷ [])
    ∷ answers G727 1 13 (4 ∷ 5 ∷ 6 ∷ [])
    ∷ answers G727 12 14 (299 ∷ 300 ∷ 301 ∷ [])
    -- acelp and g728: ten octets
    ∷ answers Acelp 6 0 (59 ∷ 60 ∷ 61 ∷ [])
    ∷ answers G728 2 0 (19 ∷ 20 ∷ 21 ∷ [])
    ∷ []
    ≡ replicate 11 (13 ∷ 0 ∷ 13 ∷ [])
unfolding voice_read front_of body_octets block_octets
lengths = refl

-- numbers that are no coding type of their syntax, at three lengths
pub no-coding-type :
    answers Pcm 1 14 (0 ∷ 10 ∷ 40 ∷ [])
    ∷ answers Pcm 1 15 (0 ∷ 10 ∷ 40 ∷ [])
    ∷ answers G727 1 15 (0 ∷ 5 ∷ 25 ∷ [])
    ∷ answers Acelp 1 1 (0 ∷ 10 ∷ 20 ∷ [])
    ∷ answers G728 1 15 (0 ∷ 10 ∷ 20 ∷ [])
    ∷ []
    ≡ replicate 5 (16 ∷ 16 ∷ 16 ∷ [])
unfolding voice_read front_of body_octets block_octets
no-coding-type = refl

-- a writer can state a coding type over 15: it is not counted round
pub written-beyond : voice_made (of Pcm 1) 0 16 (replicate 40 0) ∷ voice_made (of G727 1) 0 64 (replicate 10 0) ∷ [] ≡ replicate 2 (unmade CodingTypeUnknown)
unfolding voice_made body_octets block_octets
written-beyond = refl
