-- The header of an observation file (RINEX 3.05, Table A2); the order of the lines and their fixed
-- entries are this project's.
-- Source: RINEX 3.05, Table A2
use Rattle.std.specs.Prelude.{◌≡◌, ◌≢◌, ◌<◌, ℕ, ◌-◌, ◌*◌, ◌%◌, List, [], ◌∷◌, ◌==◌, if◌then◌else◌, ◌++◌, take, drop, length, flat_map, codes, decimal, ℤ, pos, false, All, AllPairs, slice_get, Some}
use Rattle.std.specs.Int.{IsInRange}
use Rattle.rtk_obs.specs.declared.code.Code.{Code}
use Rattle.rtk_obs.specs.Code.{name_of}
use Rattle.rtk_obs.specs.declared.position.Position.{Position}
use Rattle.rtk_obs.specs.Coordinates.{IsCoordinate}
use Rattle.rtk_obs.specs.declared.time.Civil.{Civil}
use Rattle.rtk_obs.specs.CivilText.{last_digits}
use Rattle.rtk_rinex.specs.Columns.{left, right, decimals, fixed, seconds_of}
use Rattle.rtk_obs.specs.Reading.{IsMoment, reading_of}

-- what is known of a file before its observations: the marker's name, the listed codes, and the
-- moment at which the file is made (this project's choice)
pub record HeadView : Type 0 where
  pub marker : List ℕ
  pub listed : List Code
  pub made : ℕ

-- formula
-- 1 to 60 characters from blank to tilde, the first and the last no blank (this project's rule)
abbrev pub IsMarker : List ℕ → Type 0
IsMarker m =
    IsInRange 1 60 (length m) × All (λ x. IsInRange 32 126 x) m
    × (slice_get m 0 ≢ Some 32) × (slice_get m (length m - 1) ≢ Some 32)

-- formula
-- 1 to 16 codes, no two alike (this project's rule)
abbrev pub IsCodeList : List Code → Type 0
IsCodeList listed = IsInRange 1 16 (length listed) × AllPairs (λ a b. a ≢ b) listed

-- formula
-- a good marker, good codes and a whole second (this project's rule)
abbrev pub IsHeadView : HeadView → Type 0
IsHeadView h =
    IsMarker h.marker × IsCodeList h.listed × IsMoment h.made × (h.made % 1000 ≡ 0)

-- formula
-- a line: 60 columns, 20 columns of label, and LF
unfoldable pub header_line : List ℕ → List ℕ → List ℕ
header_line content label = left 60 content ++ left 20 label ++ 10 ∷ []

-- formula
-- the day and the time of day at which the file is made, as 20240517 130000 UTC
abbrev pub made_text : Civil → List ℕ
made_text c =
    last_digits 4 c.year ++ last_digits 2 c.month ++ last_digits 2 c.day ++ codes " "
    ++ last_digits 2 c.hour ++ last_digits 2 c.minute ++ last_digits 2 c.second ++ codes " UTC "

-- formula
-- the version, the kind of the file and its system
abbrev pub version_line : List ℕ
version_line = header_line (codes "     3.05           OBSERVATION DATA    G") (codes "RINEX VERSION / TYPE")

-- formula
-- the program, and the time at which the file is made
abbrev pub made_line : Civil → List ℕ
made_line made = header_line (codes "rtcm2rinex                              " ++ made_text made) (codes "PGM / RUN BY / DATE")

-- formula
-- the marker's name
abbrev pub marker_line : List ℕ → List ℕ
marker_line marker = header_line marker (codes "MARKER NAME")

-- formula
-- the lines up to the antenna's type, of a marker and the time at which the file is made; the fixed
-- entries are this project's
abbrev pub first_lines : List ℕ → Civil → List ℕ
first_lines marker made =
    version_line
    ++ made_line made
    ++ marker_line marker
    ++ header_line (codes "GEODETIC") (codes "MARKER TYPE")
    ++ header_line [] (codes "OBSERVER / AGENCY")
    ++ header_line [] (codes "REC # / TYPE / VERS")
    ++ header_line [] (codes "ANT # / TYPE")

-- the antenna reference point (ECEF) and the antenna's height above it, in 0.0001 m (RTCM 10403.3,
-- DF025 to DF028)
pub record PositionView : Type 0 where
  pub x : ℤ
  pub y : ℤ
  pub z : ℤ
  pub height : ℕ

-- what is seen of a position (this project's rule)
abbrev pub position_view : Position → PositionView
position_view p = record { x = p.x; y = p.y; z = p.z; height = p.height }

-- formula
-- coordinates of 38 bits with a sign, and a height of 16 bits
abbrev pub IsPositionView : PositionView → Type 0
IsPositionView s = IsCoordinate s.x × IsCoordinate s.y × IsCoordinate s.z × (s.height < 65_536)

-- formula
-- the position: 3F14.4, in m
abbrev pub place_line : PositionView → List ℕ
place_line s = header_line (fixed 4 14 s.x ++ fixed 4 14 s.y ++ fixed 4 14 s.z) (codes "APPROX POSITION XYZ")

-- formula
-- the antenna's height: F14.4, in m; east and north are 0
abbrev pub height_line : ℕ → List ℕ
height_line height = header_line (fixed 4 14 (pos height) ++ codes "        0.0000        0.0000") (codes "ANTENNA: DELTA H/E/N")

-- formula
-- the lines of the position and of the antenna's height
abbrev pub position_lines : PositionView → List ℕ
position_lines s = place_line s ++ height_line s.height

-- formula
-- the three observation types of a code, each after a blank: pseudorange, carrier phase and signal
-- strength (this project's choice)
abbrev pub types_of : Code → List ℕ
types_of c = codes " C" ++ name_of c ++ codes " L" ++ name_of c ++ codes " S" ++ name_of c

-- the observation types of all codes, four columns each
abbrev pub types : List Code → List ℕ
types = flat_map types_of

abbrev pub types_label : List ℕ
types_label = codes "SYS / # / OBS TYPES"

-- formula
-- the first line of observation types, of which there are three for each of n codes
abbrev pub first_types_line : ℕ → List ℕ → List ℕ
first_types_line n text = header_line (codes "G  " ++ right 3 (decimal (3 * n)) ++ take 52 text) types_label

-- formula
-- a further line of observation types, if any are left; thirteen fill its 52 columns
abbrev pub continuation_line : List ℕ → List ℕ
continuation_line text =
    if length text == 0 then []
    else header_line (codes "      " ++ take 52 text) types_label

-- formula
-- the lines of the observation types: their number, then thirteen on a line; 16 codes have 48 types
-- on four lines
abbrev pub types_lines : List Code → List ℕ
types_lines listed =
    first_types_line (length listed) (types listed)
    ++ continuation_line (drop 52 (types listed))
    ++ continuation_line (drop 104 (types listed))
    ++ continuation_line (drop 156 (types listed))

-- formula
-- the time of the first observation: 5I6, F13.7, 5X, A3
abbrev pub first_text : Civil → List ℕ
first_text c =
    right 6 (decimal c.year) ++ right 6 (decimal c.month) ++ right 6 (decimal c.day)
    ++ right 6 (decimal c.hour) ++ right 6 (decimal c.minute)
    ++ right 13 (decimals 7 false (seconds_of c)) ++ codes "     GPS"

-- formula
-- the unit of the signal strengths
abbrev pub unit_line : List ℕ
unit_line = header_line (codes "DBHZ") (codes "SIGNAL STRENGTH UNIT")

-- formula
-- the line of the time of the first observation
abbrev pub first_line : Civil → List ℕ
first_line first = header_line (first_text first) (codes "TIME OF FIRST OBS")

-- formula
-- the lines after the observation types, with the time of the first observation; the fixed entries
-- are this project's
abbrev pub last_lines : Civil → List ℕ
last_lines first =
    unit_line
    ++ first_line first
    ++ header_line (codes "G") (codes "SYS / PHASE SHIFT")
    ++ header_line [] (codes "END OF HEADER")

-- formula
-- the header of a head, a position and the moment of the first observation, in this project's order
unfoldable pub header_text : HeadView → PositionView → ℕ → List ℕ
header_text h s first =
    first_lines h.marker (reading_of h.made)
    ++ position_lines s
    ++ types_lines h.listed
    ++ last_lines (reading_of first)
