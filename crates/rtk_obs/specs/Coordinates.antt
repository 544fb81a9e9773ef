-- Coordinates of the antenna reference point.
-- Source: RTCM 10403.3, DF025 to DF027
use Rattle.std.specs.Prelude.{ℤ, pos, negsuc, ◌≤ℤ◌}

-- constant
-- a coordinate in 0.0001 m fits 38 bits with a sign (RTCM 10403.3, DF025 to DF027)
pub record IsCoordinate (v : ℤ) : Type 0 where
  pub least : negsuc 137_438_953_471 ≤ℤ v
  pub greatest : v ≤ℤ pos 137_438_953_471

-- all three coordinates do
abbrev pub AreCoordinates : ℤ → ℤ → ℤ → Type 0
AreCoordinates x y z = IsCoordinate x × IsCoordinate y × IsCoordinate z
