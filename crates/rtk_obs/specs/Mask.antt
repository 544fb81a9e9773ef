-- The set bits of a mask, and a list that is made place by place.
-- Source: RTCM 10403.3, DF394 to DF396
use Rattle.std.specs.Prelude.{ℕ, zero, suc, ◌-◌, ◌^◌, nat_le, List, [], ◌∷◌, ◌++◌, if◌then◌else◌}

-- the places of the set bits among the w low bits of a mask; the most significant of the w bits has
-- this place
unfoldable pub set_bits_from : ℕ → ℕ → ℕ → List ℕ
set_bits_from place zero mask = []
set_bits_from place (suc w) mask =
    if nat_le (2 ^ w) mask then place ∷ set_bits_from (suc place) w (mask - 2 ^ w) else set_bits_from (suc place) w mask

-- the places of the set bits of a mask of w bits: the first bit is the most significant one, and
-- has place 1
abbrev pub set_bits : ℕ → ℕ → List ℕ
set_bits w mask = set_bits_from 1 w mask

-- the lists that f gives for each element and its place, joined; the first element has place k
unfoldable pub join_from : {X Y : Type 0} → (ℕ → X → List Y) → ℕ → List X → List Y
join_from f k [] = []
join_from f k (x ∷ xs) = f k x ++ join_from f (suc k) xs
