-- Lower-case hex (document 01, "Listing program"): two characters an octet, the high half first.
use Rattle.std.specs.Prelude.{ℕ, ◌+◌, ◌-◌, ◌*◌, Bool, false, cond, List, [], ◌∷◌, nat_lt}
use Rattle.refusal.specs.Order.{◌or◌}

-- the value of a character `0` to `9`, `a` to `f`, and 16 of any other
unfoldable pub hex_value : ℕ → ℕ
hex_value c =
    cond (nat_lt c 48) 16 (cond (nat_lt c 58) (c - 48) (cond (nat_lt c 97) 16 (cond (nat_lt c 103) (c - 87) 16)))

abbrev pub is_other : ℕ → Bool
is_other c = nat_lt 15 (hex_value c)

-- whether another character is among these
unfoldable pub any_other : List ℕ → Bool
any_other [] = false
any_other (c ∷ cs) = is_other c or any_other cs

-- the octets of pairs of characters
unfoldable pub paired : List ℕ → List ℕ
paired [] = []
paired (c ∷ []) = []
paired (c ∷ d ∷ rest) = (hex_value c * 16 + hex_value d) ∷ paired rest
