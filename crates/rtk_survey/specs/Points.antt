-- How far reference points are apart (this project's rule).
use Rattle.std.specs.Prelude.{ℕ, ℤ, ◌+◌, ◌*◌, ◌-ℤ◌, unsigned_abs, Bool, nat_lt}
use Rattle.rtk_survey.specs.declared.reference_point.ReferencePoint.{ReferencePoint}

-- formula
abbrev pub squared_apart : ℤ → ℤ → ℕ
squared_apart a b = unsigned_abs (a -ℤ b) * unsigned_abs (a -ℤ b)

-- formula
-- two reference points are more than 100 m apart; coordinates are in 0.0001 m
abbrev pub are_far : ReferencePoint → ReferencePoint → Bool
are_far a b = nat_lt 1_000_000_000_000 (squared_apart a.x b.x + squared_apart a.y b.y + squared_apart a.z b.z)
