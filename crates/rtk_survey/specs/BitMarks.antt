-- Marks of places, one bit each.
use Rattle.std.specs.Prelude.{ℕ, ◌/◌, ◌%◌, ◌==◌, Bool, List, get_or}
use Rattle.std.specs.Int.{bit_at}

-- formula
-- a place is marked if the bit place % 64 of the word place / 64 is set, counted from the least significant one
unfoldable pub is_marked_in : List ℕ → ℕ → Bool
is_marked_in words place = bit_at (get_or words (place / 64) 0) (place % 64) == 1
