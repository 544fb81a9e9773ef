-- The observation codes of all systems: the system, the place, the name and the carrier of each.
-- Source: RINEX 3.05, Tables 4 to 10
use Rattle.std.specs.Prelude.{◌≡◌, ℕ, ◌+◌, ◌-◌, ◌*◌, List, [], ◌∷◌, codes}
use Rattle.rtk_message.specs.declared.system.System.{System}
use Rattle.rtk_message.specs.declared.system.System.TheVariants.{Gps, Glonass, Galileo, Beidou, Qzss, Sbas, Navic}
use Rattle.rtk_obs.specs.declared.carrier.Carrier.{Carrier}
use Rattle.rtk_obs.specs.declared.carrier.Carrier.TheVariants.{L1, L2, L5, G1, G2, B1, B3, E6, E5b, E5}
use Rattle.rtk_obs.specs.declared.any_code.AnyCode.{AnyCode}
use Rattle.rtk_obs.specs.declared.any_code.AnyCode.TheVariants.{G1C, G1P, G1W, G1S, G1L, G1X, G2C, G2D, G2P, G2W, G2S, G2L, G2X, G5I, G5Q, G5X, R1C, R1P, R2C, R2P, E1C, E1B, E1X, E6C, E6B, E6X, E7I, E7Q, E7X, E8I, E8Q, E8X, E5I, E5Q, E5X, C2I, C2Q, C2X, C6I, C6Q, C6X, C7I, C7Q, C7X, C5D, C5P, C5X, C7D, C1D, C1P, C1X, J1C, J6S, J6L, J6X, J2S, J2L, J2X, J5I, J5Q, J5X, J1S, J1L, J1X, S1C, S5I, S5Q, S5X, I5A}
use Rattle.rtk_obs.specs.declared.code.Code.{Code}
use Rattle.rtk_obs.specs.declared.code.Code.TheVariants as gps
use Rattle.rtk_obs.specs.SatelliteIndex.{IsSatelliteIndex, system_at, letter_of}

-- the system of a code, its place among the codes of the system, from 0, its band and attribute, and its
-- carrier
pub record CodeRow : Type 0 where
  pub system : System
  pub place : ℕ
  pub name : List ℕ
  pub carrier : Carrier

abbrev pub row : System → ℕ → List ℕ → Carrier → CodeRow
row s k n c = record { system = s; place = k; name = n; carrier = c }

-- table
-- the codes of all systems; their places are this project's rule
abbrev pub row_of : AnyCode → CodeRow
row_of G1C = row Gps 0 (codes "1C") L1
row_of G1P = row Gps 1 (codes "1P") L1
row_of G1W = row Gps 2 (codes "1W") L1
row_of G1S = row Gps 3 (codes "1S") L1
row_of G1L = row Gps 4 (codes "1L") L1
row_of G1X = row Gps 5 (codes "1X") L1
row_of G2C = row Gps 6 (codes "2C") L2
row_of G2D = row Gps 7 (codes "2D") L2
row_of G2P = row Gps 8 (codes "2P") L2
row_of G2W = row Gps 9 (codes "2W") L2
row_of G2S = row Gps 10 (codes "2S") L2
row_of G2L = row Gps 11 (codes "2L") L2
row_of G2X = row Gps 12 (codes "2X") L2
row_of G5I = row Gps 13 (codes "5I") L5
row_of G5Q = row Gps 14 (codes "5Q") L5
row_of G5X = row Gps 15 (codes "5X") L5
row_of R1C = row Glonass 0 (codes "1C") G1
row_of R1P = row Glonass 1 (codes "1P") G1
row_of R2C = row Glonass 2 (codes "2C") G2
row_of R2P = row Glonass 3 (codes "2P") G2
row_of E1C = row Galileo 0 (codes "1C") L1
row_of E1B = row Galileo 1 (codes "1B") L1
row_of E1X = row Galileo 2 (codes "1X") L1
row_of E6C = row Galileo 3 (codes "6C") E6
row_of E6B = row Galileo 4 (codes "6B") E6
row_of E6X = row Galileo 5 (codes "6X") E6
row_of E7I = row Galileo 6 (codes "7I") E5b
row_of E7Q = row Galileo 7 (codes "7Q") E5b
row_of E7X = row Galileo 8 (codes "7X") E5b
row_of E8I = row Galileo 9 (codes "8I") E5
row_of E8Q = row Galileo 10 (codes "8Q") E5
row_of E8X = row Galileo 11 (codes "8X") E5
row_of E5I = row Galileo 12 (codes "5I") L5
row_of E5Q = row Galileo 13 (codes "5Q") L5
row_of E5X = row Galileo 14 (codes "5X") L5
row_of C2I = row Beidou 0 (codes "2I") B1
row_of C2Q = row Beidou 1 (codes "2Q") B1
row_of C2X = row Beidou 2 (codes "2X") B1
row_of C6I = row Beidou 3 (codes "6I") B3
row_of C6Q = row Beidou 4 (codes "6Q") B3
row_of C6X = row Beidou 5 (codes "6X") B3
row_of C7I = row Beidou 6 (codes "7I") E5b
row_of C7Q = row Beidou 7 (codes "7Q") E5b
row_of C7X = row Beidou 8 (codes "7X") E5b
row_of C5D = row Beidou 9 (codes "5D") L5
row_of C5P = row Beidou 10 (codes "5P") L5
row_of C5X = row Beidou 11 (codes "5X") L5
row_of C7D = row Beidou 12 (codes "7D") E5b
row_of C1D = row Beidou 13 (codes "1D") L1
row_of C1P = row Beidou 14 (codes "1P") L1
row_of C1X = row Beidou 15 (codes "1X") L1
row_of J1C = row Qzss 0 (codes "1C") L1
row_of J6S = row Qzss 1 (codes "6S") E6
row_of J6L = row Qzss 2 (codes "6L") E6
row_of J6X = row Qzss 3 (codes "6X") E6
row_of J2S = row Qzss 4 (codes "2S") L2
row_of J2L = row Qzss 5 (codes "2L") L2
row_of J2X = row Qzss 6 (codes "2X") L2
row_of J5I = row Qzss 7 (codes "5I") L5
row_of J5Q = row Qzss 8 (codes "5Q") L5
row_of J5X = row Qzss 9 (codes "5X") L5
row_of J1S = row Qzss 10 (codes "1S") L1
row_of J1L = row Qzss 11 (codes "1L") L1
row_of J1X = row Qzss 12 (codes "1X") L1
row_of S1C = row Sbas 0 (codes "1C") L1
row_of S5I = row Sbas 1 (codes "5I") L5
row_of S5Q = row Sbas 2 (codes "5Q") L5
row_of S5X = row Sbas 3 (codes "5X") L5
row_of I5A = row Navic 0 (codes "5A") L5

abbrev pub system_of : AnyCode → System
system_of c = (row_of c).system

abbrev pub place_of : AnyCode → ℕ
place_of c = (row_of c).place

abbrev pub name_of : AnyCode → List ℕ
name_of c = (row_of c).name

abbrev pub carrier_of : AnyCode → Carrier
carrier_of c = (row_of c).carrier

-- formula
-- the letter of the system, the band and the attribute, as E1X
abbrev pub text_of : AnyCode → List ℕ
text_of c = letter_of (system_of c) ∷ name_of c

-- table
-- how many codes stand before those of a system, in the order G R E C J S I
abbrev pub codes_before : System → ℕ
codes_before Gps = 0
codes_before Glonass = 16
codes_before Galileo = 20
codes_before Beidou = 35
codes_before Qzss = 51
codes_before Sbas = 64
codes_before Navic = 68

-- formula
-- the number of a code among all, from 0: system by system, in the order of their places
abbrev pub number_of : AnyCode → ℕ
number_of c = codes_before (system_of c) + place_of c

-- the code is one of the system of this satellite
abbrev pub IsSignal : ℕ → AnyCode → Type 0
IsSignal satellite c = IsSatelliteIndex satellite × (system_of c ≡ system_at satellite)

-- formula
-- the place of a satellite and a code of its system among those of all systems, from 0
abbrev pub signal_place : ℕ → AnyCode → ℕ
signal_place satellite c = (satellite - 1) * 16 + place_of c

-- table
-- all codes, in the order of their numbers
abbrev pub all_any_codes : List AnyCode
all_any_codes =
    G1C ∷ G1P ∷ G1W ∷ G1S ∷ G1L ∷ G1X ∷ G2C ∷ G2D ∷ G2P ∷ G2W ∷ G2S ∷ G2L ∷ G2X ∷ G5I ∷ G5Q ∷ G5X ∷
    R1C ∷ R1P ∷ R2C ∷ R2P ∷
    E1C ∷ E1B ∷ E1X ∷ E6C ∷ E6B ∷ E6X ∷ E7I ∷ E7Q ∷ E7X ∷ E8I ∷ E8Q ∷ E8X ∷ E5I ∷ E5Q ∷ E5X ∷
    C2I ∷ C2Q ∷ C2X ∷ C6I ∷ C6Q ∷ C6X ∷ C7I ∷ C7Q ∷ C7X ∷ C5D ∷ C5P ∷ C5X ∷ C7D ∷ C1D ∷ C1P ∷ C1X ∷
    J1C ∷ J6S ∷ J6L ∷ J6X ∷ J2S ∷ J2L ∷ J2X ∷ J5I ∷ J5Q ∷ J5X ∷ J1S ∷ J1L ∷ J1X ∷
    S1C ∷ S5I ∷ S5Q ∷ S5X ∷
    I5A ∷ []

-- table
-- the code of any system that a code of GPS is
abbrev pub code_of_gps : Code → AnyCode
code_of_gps gps.G1C = G1C
code_of_gps gps.G1P = G1P
code_of_gps gps.G1W = G1W
code_of_gps gps.G1S = G1S
code_of_gps gps.G1L = G1L
code_of_gps gps.G1X = G1X
code_of_gps gps.G2C = G2C
code_of_gps gps.G2D = G2D
code_of_gps gps.G2P = G2P
code_of_gps gps.G2W = G2W
code_of_gps gps.G2S = G2S
code_of_gps gps.G2L = G2L
code_of_gps gps.G2X = G2X
code_of_gps gps.G5I = G5I
code_of_gps gps.G5Q = G5Q
code_of_gps gps.G5X = G5X
