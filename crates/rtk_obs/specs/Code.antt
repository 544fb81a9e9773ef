-- Observation codes, their bands and the frequencies of their carriers.
-- Source: RINEX 3.05, Table 4
use Rattle.std.specs.Prelude.{ℕ, List, [], ◌∷◌, codes}
use Rattle.rtk_obs.specs.declared.code.Band.{Band}
use Rattle.rtk_obs.specs.declared.code.Band.TheVariants.{L1, L2, L5}
use Rattle.rtk_obs.specs.declared.code.Code.{Code}
use Rattle.rtk_obs.specs.declared.code.Code.TheVariants.{G1C, G1P, G1W, G1S, G1L, G1X, G2C, G2D, G2P, G2W, G2S, G2L, G2X, G5I, G5Q, G5X}

-- table
-- the two characters of a code (RINEX 3.05, Table 4)
abbrev pub name_of : Code → List ℕ
name_of G1C = codes "1C"
name_of G1P = codes "1P"
name_of G1W = codes "1W"
name_of G1S = codes "1S"
name_of G1L = codes "1L"
name_of G1X = codes "1X"
name_of G2C = codes "2C"
name_of G2D = codes "2D"
name_of G2P = codes "2P"
name_of G2W = codes "2W"
name_of G2S = codes "2S"
name_of G2L = codes "2L"
name_of G2X = codes "2X"
name_of G5I = codes "5I"
name_of G5Q = codes "5Q"
name_of G5X = codes "5X"

-- table
-- the band of a code is the first character of its name
abbrev pub band_of : Code → Band
band_of G1C = L1
band_of G1P = L1
band_of G1W = L1
band_of G1S = L1
band_of G1L = L1
band_of G1X = L1
band_of G2C = L2
band_of G2D = L2
band_of G2P = L2
band_of G2W = L2
band_of G2S = L2
band_of G2L = L2
band_of G2X = L2
band_of G5I = L5
band_of G5Q = L5
band_of G5X = L5

-- table
-- the frequency of a carrier in Hz (RTCM 10403.3; IS-GPS-200, IS-GPS-705)
abbrev pub frequency_of : Band → ℕ
frequency_of L1 = 1_575_420_000
frequency_of L2 = 1_227_600_000
frequency_of L5 = 1_176_450_000

-- the frequency of the carrier of a code in Hz
abbrev pub frequency_of_code : Code → ℕ
frequency_of_code c = frequency_of (band_of c)

-- table
-- the place of a code in the list of all sixteen (this project's rule)
abbrev pub place_of : Code → ℕ
place_of G1C = 0
place_of G1P = 1
place_of G1W = 2
place_of G1S = 3
place_of G1L = 4
place_of G1X = 5
place_of G2C = 6
place_of G2D = 7
place_of G2P = 8
place_of G2W = 9
place_of G2S = 10
place_of G2L = 11
place_of G2X = 12
place_of G5I = 13
place_of G5Q = 14
place_of G5X = 15

-- table
-- all codes, in the order of their places
abbrev pub all_codes : List Code
all_codes = G1C ∷ G1P ∷ G1W ∷ G1S ∷ G1L ∷ G1X ∷ G2C ∷ G2D ∷ G2P ∷ G2W ∷ G2S ∷ G2L ∷ G2X ∷ G5I ∷ G5Q ∷ G5X ∷ []
