-- The satellites of all systems: an index over them, and their names.
-- Source: RTCM 10403.3, DF394; RINEX 3.05, section 3.5
use Rattle.std.specs.Prelude.{ℕ, ◌+◌, ◌-◌, ◌<◌, ◌≤◌, Bool, ◌&&◌, nat_le, List, ◌∷◌, Option, Some, None, if◌then◌else◌}
use Rattle.rtk_message.specs.declared.system.System.{System}
use Rattle.rtk_message.specs.declared.system.System.TheVariants.{Gps, Glonass, Galileo, Beidou, Qzss, Sbas, Navic}
use Rattle.rtk_obs.specs.CivilText.{last_digits}

-- table
-- how many satellites of a system give cells: those of the mask bits (DF394) from 1 to this number
abbrev pub satellites_of_system : System → ℕ
satellites_of_system Gps = 32
satellites_of_system Glonass = 27
satellites_of_system Galileo = 36
satellites_of_system Beidou = 63
satellites_of_system Qzss = 10
satellites_of_system Sbas = 39
satellites_of_system Navic = 14

-- table
-- how many satellites stand before those of a system, in the order G R E C J S I (this project's rule)
abbrev pub satellites_before : System → ℕ
satellites_before Gps = 0
satellites_before Glonass = 32
satellites_before Galileo = 59
satellites_before Beidou = 95
satellites_before Qzss = 158
satellites_before Sbas = 168
satellites_before Navic = 207

-- constant
-- the index of a satellite of some system
abbrev pub IsSatelliteIndex : ℕ → Type 0
IsSatelliteIndex i = (1 ≤ i) × (i ≤ 221)

-- the index is of a satellite of this system
abbrev pub IsOfSystem : System → ℕ → Type 0
IsOfSystem s i = (satellites_before s < i) × (i ≤ satellites_before s + satellites_of_system s)

-- a mask bit (DF394) of a satellite that gives cells
abbrev pub is_taken : System → ℕ → Bool
is_taken s bit = nat_le 1 bit && nat_le bit (satellites_of_system s)

-- formula
-- the index of the satellite of a mask bit (DF394), if it gives cells
abbrev pub index_in : System → ℕ → Option ℕ
index_in s bit = if is_taken s bit then Some (satellites_before s + bit) else None

-- table
-- the system of an index
abbrev pub system_at : ℕ → System
system_at i =
    if nat_le i 32 then Gps else if nat_le i 59 then Glonass else if nat_le i 95 then Galileo else
    if nat_le i 158 then Beidou else if nat_le i 168 then Qzss else if nat_le i 207 then Sbas else Navic

-- formula
-- the mask bit (DF394) of an index
abbrev pub bit_at : ℕ → ℕ
bit_at i = i - satellites_before (system_at i)

-- ---- names

-- table
-- the letter of a system: G, R, E, C, J, S, I (RINEX 3.05, section 3.5)
abbrev pub letter_of : System → ℕ
letter_of Gps = 71
letter_of Glonass = 82
letter_of Galileo = 69
letter_of Beidou = 67
letter_of Qzss = 74
letter_of Sbas = 83
letter_of Navic = 73

-- table
-- how much greater than the mask bit the number in a name is: bit 1 of SBAS is PRN 120, which is S20
-- (RINEX 3.05, section 3.5)
abbrev pub name_offset : System → ℕ
name_offset Gps = 0
name_offset Glonass = 0
name_offset Galileo = 0
name_offset Beidou = 0
name_offset Qzss = 0
name_offset Sbas = 19
name_offset Navic = 0

-- formula
-- the name of a satellite: the letter of its system and two digits, as G05 and S20 (RINEX 3.05,
-- section 3.5)
abbrev pub index_name : ℕ → List ℕ
index_name i = letter_of (system_at i) ∷ last_digits 2 (bit_at i + name_offset (system_at i))
