-- The codes of the signals of all systems.
-- Source: RTCM 10403.3, DF395 and its tables of signals; RINEX 3.05, Tables 4 to 10
use Rattle.std.specs.Prelude.{ℕ, ◌==◌, Option, Some, None, if◌then◌else◌}
use Rattle.rtk_message.specs.declared.system.System.{System}
use Rattle.rtk_message.specs.declared.system.System.TheVariants.{Gps, Glonass, Galileo, Beidou, Qzss, Sbas, Navic}
use Rattle.rtk_obs.specs.declared.any_code.AnyCode.{AnyCode}
use Rattle.rtk_obs.specs.declared.any_code.AnyCode.TheVariants.{G1C, G1P, G1W, G1S, G1L, G1X, G2C, G2P, G2W, G2S, G2L, G2X, G5I, G5Q, G5X, R1C, R1P, R2C, R2P, E1C, E1B, E1X, E6C, E6B, E6X, E7I, E7Q, E7X, E8I, E8Q, E8X, E5I, E5Q, E5X, C2I, C2Q, C2X, C6I, C6Q, C6X, C7I, C7Q, C7X, C5D, C5P, C5X, C7D, C1D, C1P, C1X, J1C, J6S, J6L, J6X, J2S, J2L, J2X, J5I, J5Q, J5X, J1S, J1L, J1X, S1C, S5I, S5Q, S5X, I5A}

-- ---- the code of a signal identifier (DF395); others give no cell

-- table
-- GPS
abbrev pub gps_code : ℕ → Option AnyCode
gps_code s =
    if s == 2 then Some G1C else if s == 3 then Some G1P else if s == 4 then Some G1W else if s == 8 then Some G2C else
    if s == 9 then Some G2P else if s == 10 then Some G2W else if s == 15 then Some G2S else if s == 16 then Some G2L else
    if s == 17 then Some G2X else if s == 22 then Some G5I else if s == 23 then Some G5Q else if s == 24 then Some G5X else
    if s == 30 then Some G1S else if s == 31 then Some G1L else if s == 32 then Some G1X else None

-- table
-- GLONASS
abbrev pub glonass_code : ℕ → Option AnyCode
glonass_code s =
    if s == 2 then Some R1C else if s == 3 then Some R1P else if s == 8 then Some R2C else if s == 9 then Some R2P else None

-- table
-- Galileo, without those that hold the PRS
abbrev pub galileo_code : ℕ → Option AnyCode
galileo_code s =
    if s == 2 then Some E1C else if s == 4 then Some E1B else if s == 5 then Some E1X else if s == 8 then Some E6C else
    if s == 10 then Some E6B else if s == 11 then Some E6X else if s == 14 then Some E7I else if s == 15 then Some E7Q else
    if s == 16 then Some E7X else if s == 18 then Some E8I else if s == 19 then Some E8Q else if s == 20 then Some E8X else
    if s == 22 then Some E5I else if s == 23 then Some E5Q else if s == 24 then Some E5X else None

-- table
-- BeiDou; those of the signals from 22 on are this project's assignment
abbrev pub beidou_code : ℕ → Option AnyCode
beidou_code s =
    if s == 2 then Some C2I else if s == 3 then Some C2Q else if s == 4 then Some C2X else if s == 8 then Some C6I else
    if s == 9 then Some C6Q else if s == 10 then Some C6X else if s == 14 then Some C7I else if s == 15 then Some C7Q else
    if s == 16 then Some C7X else if s == 22 then Some C5D else if s == 23 then Some C5P else if s == 24 then Some C5X else
    if s == 25 then Some C7D else if s == 30 then Some C1D else if s == 31 then Some C1P else if s == 32 then Some C1X else None

-- table
-- QZSS
abbrev pub qzss_code : ℕ → Option AnyCode
qzss_code s =
    if s == 2 then Some J1C else if s == 9 then Some J6S else if s == 10 then Some J6L else if s == 11 then Some J6X else
    if s == 15 then Some J2S else if s == 16 then Some J2L else if s == 17 then Some J2X else if s == 22 then Some J5I else
    if s == 23 then Some J5Q else if s == 24 then Some J5X else if s == 30 then Some J1S else if s == 31 then Some J1L else
    if s == 32 then Some J1X else None

-- table
-- SBAS
abbrev pub sbas_code : ℕ → Option AnyCode
sbas_code s =
    if s == 2 then Some S1C else if s == 22 then Some S5I else if s == 23 then Some S5Q else if s == 24 then Some S5X else None

-- table
-- NavIC
abbrev pub navic_code : ℕ → Option AnyCode
navic_code s =
    if s == 22 then Some I5A else None

-- the code of a signal of a system, if it has one
abbrev pub code_in : System → ℕ → Option AnyCode
code_in Gps n = gps_code n
code_in Glonass n = glonass_code n
code_in Galileo n = galileo_code n
code_in Beidou n = beidou_code n
code_in Qzss n = qzss_code n
code_in Sbas n = sbas_code n
code_in Navic n = navic_code n
