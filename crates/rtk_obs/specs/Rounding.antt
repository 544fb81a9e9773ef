-- Rounding to the nearest whole number; a tie goes away from 0 (this project's rule).
use Rattle.std.specs.Prelude.{◌≡◌, ℕ, ◌+◌, ◌*◌, ◌/◌, ◌<◌, ◌≤◌, ℤ, pos, neg_ℤ, ◌*ℤ◌, ◌-ℤ◌, unsigned_abs, int_lt, if◌then◌else◌}

-- v is a whole number nearest to n / d, and if two are equally near, the one further from 0
abbrev pub IsRounded : ℤ → ℕ → ℤ → Type 0
IsRounded n d v =
    (2 * unsigned_abs (v *ℤ pos d -ℤ n) ≤ d)
    × (2 * unsigned_abs (v *ℤ pos d -ℤ n) ≡ d → unsigned_abs n < unsigned_abs v * d)

-- the whole number nearest to n / d, a tie going up
abbrev pub rounded_magnitude : ℕ → ℕ → ℕ
rounded_magnitude n d = (2 * n + d) / (2 * d)

-- formula
-- the whole number nearest to n / d, a tie going away from 0
abbrev pub rounded : ℤ → ℕ → ℤ
rounded n d =
    if int_lt n (pos 0) then neg_ℤ (pos (rounded_magnitude (unsigned_abs n) d))
    else pos (rounded_magnitude (unsigned_abs n) d)
