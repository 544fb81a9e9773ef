-- The fault line of a system whose MSM has no range rates.
use Rattle.std.specs.Prelude.{ℕ, List, [], ◌∷◌, ◌++◌, codes}
use Rattle.rtk_message.specs.declared.system.System.{System}
use Rattle.rtk_obs.specs.SatelliteIndex.{letter_of}

-- formula
-- a file can't show Doppler shifts of this system, because its MSM has no range rates (this project's rule)
abbrev pub rates_line : System → List ℕ
rates_line s = codes "--doppler needs MSM5 or MSM7 of " ++ letter_of s ∷ []
