-- What leaves a sender.
use Rattle.std.specs.Prelude.{ℕ, List}

-- A payload as it leaves: its number, counted as sent, from 0 (its own period is then number + 2 of the periods, where two of the
-- start state stand first); and its octets. A static repeat has the number of
-- the payload it repeats.
pub record Emission : Type 0 where
  pub number : ℕ
  pub octets : List ℕ
