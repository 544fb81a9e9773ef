-- The lines that follow a fault line and say how codes are written.
use Rattle.std.specs.Prelude.{ℕ, List, ◌∷◌, ◌++◌, flat_map, codes}
use Rattle.rtk_message.specs.declared.system.System.{System}
use Rattle.rtk_obs.specs.declared.code.Code.{Code}
use Rattle.rtk_obs.specs.AnyCode.{name_of, all_any_codes}
use Rattle.rtk_obs.specs.Code as gps
use Rattle.rtk_obs.specs.SatelliteIndex.{letter_of}
use Rattle.rtk_rinex.specs.MixedHeader.{codes_of}

-- formula
-- the codes of a system, in the order of their places, as `codes of R: 1C 1P 2C 2P` (this project's rule)
unfoldable pub codes_line : System → List ℕ
codes_line s = codes "codes of " ++ letter_of s ∷ codes ":" ++ flat_map (λ c. 32 ∷ name_of c) (codes_of (letter_of s) all_any_codes)

-- formula
-- a code of GPS, which has no letter before it (this project's rule)
abbrev pub short_code_line : Code → List ℕ
short_code_line c = codes "GPS codes have two characters: " ++ gps.name_of c
