-- What a file looks like, by its first bytes (this project's rule).
use Rattle.std.specs.Prelude.{ℕ, ◌==◌, Bool, ◌&&◌, ◌||◌, nat_eq, nat_le, nat_lt, List, [], ◌∷◌, length, take, drop, get_or, codes, if◌then◌else◌}
use Rattle.std.specs.List.{list_all, starts_with}
use Rattle.rtk_survey.specs.declared.look.Look.{Look}
use Rattle.rtk_survey.specs.declared.look.Look.TheVariants.{Empty, Gzip, Bzip2, Xz, Zip, Ublox, Sbf, NovAtel, Jps, Rinex, Nmea, HexText, Unknown}

abbrev pub is_between : ℕ → ℕ → ℕ → Bool
is_between least greatest byte = nat_le least byte && nat_le byte greatest

-- constant
-- A to Z
abbrev pub is_capital : ℕ → Bool
is_capital byte = is_between 65 90 byte

-- constant
-- 0 to 9, A to F, a to f
abbrev pub is_hex_digit : ℕ → Bool
is_hex_digit byte = is_between 48 57 byte || (is_between 65 70 byte || is_between 97 102 byte)

-- constant
-- a digit, a blank or the end of a line
abbrev pub is_hex_text : ℕ → Bool
is_hex_text byte = is_hex_digit byte || ((byte == 32) || ((byte == 13) || (byte == 10)))

-- constant
-- the first line has this label in its columns 61 to 80
-- Source: RINEX 3.05, Table A2; the Compact RINEX format, header
abbrev pub is_rinex : List ℕ → Bool
is_rinex head = starts_with nat_eq (drop 60 head) (codes "RINEX VERSION / TYPE") || starts_with nat_eq (drop 60 head) (codes "CRINEX VERS   / TYPE")

-- constant
-- a sentence of NMEA 0183 begins with $ or !, and two capitals that name who talks
abbrev pub is_nmea : List ℕ → Bool
is_nmea head =
    nat_lt 2 (length head) && (((get_or head 0 0 == 36) || (get_or head 0 0 == 33)) && (is_capital (get_or head 1 0) && is_capital (get_or head 2 0)))

-- constant
-- so are the first 64 bytes
abbrev pub are_hex_text : List ℕ → Bool
are_hex_text head = list_all is_hex_text (take 64 head)

-- it begins with a digit
abbrev pub is_hex : List ℕ → Bool
is_hex head = nat_lt 0 (length head) && (is_hex_digit (get_or head 0 0) && are_hex_text head)

-- what a text looks like
abbrev pub look_of_text : List ℕ → Look
look_of_text head = if is_rinex head then Rinex else if is_nmea head then Nmea else if is_hex head then HexText else Unknown

-- table
-- the file of a receiver: u-blox (frame of UBX), Septentrio (block of SBF), NovAtel (long and short header of OEM
-- logs), JAVAD and Topcon (file identifier of GREIS, a message JP of 55 bytes in hex)
abbrev pub look_of_receiver : List ℕ → Look
look_of_receiver head =
    if starts_with nat_eq head (181 ∷ 98 ∷ []) then Ublox else
    if starts_with nat_eq head (36 ∷ 64 ∷ []) then Sbf else
    if starts_with nat_eq head (170 ∷ 68 ∷ 18 ∷ []) || starts_with nat_eq head (170 ∷ 68 ∷ 19 ∷ []) then NovAtel else
    if starts_with nat_eq head (codes "JP055") then Jps else look_of_text head

-- table
-- the first of these that it is: gzip (RFC 1952, 2.3.1), bzip2, xz (the .xz format, 2.1.1.1), zip (APPNOTE.TXT, 4.3.7)
abbrev pub look_of : List ℕ → Look
look_of head =
    if length head == 0 then Empty else
    if starts_with nat_eq head (31 ∷ 139 ∷ []) then Gzip else
    if starts_with nat_eq head (codes "BZh") then Bzip2 else
    if starts_with nat_eq head (253 ∷ 55 ∷ 122 ∷ 88 ∷ 90 ∷ 0 ∷ []) then Xz else
    if starts_with nat_eq head (80 ∷ 75 ∷ 3 ∷ 4 ∷ []) then Zip else look_of_receiver head

-- table
abbrev pub look_name : Look → List ℕ
look_name Empty = codes "empty"
look_name Gzip = codes "gzip"
look_name Bzip2 = codes "bzip2"
look_name Xz = codes "xz"
look_name Zip = codes "zip"
look_name Ublox = codes "u-blox"
look_name Sbf = codes "SBF"
look_name NovAtel = codes "NovAtel"
look_name Jps = codes "JPS"
look_name Rinex = codes "RINEX"
look_name Nmea = codes "NMEA"
look_name HexText = codes "hex-text"
look_name Unknown = codes "unknown"
