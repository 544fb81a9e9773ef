-- The header of an observation file of any systems (RINEX 3.05, Table A2); the order of the lines and
-- their fixed entries are this project's.
-- Source: RINEX 3.05, Table A2
use Rattle.std.specs.Prelude.{◌≡◌, ℕ, Bool, true, false, zero, suc, ◌+◌, ◌*◌, List, [], ◌∷◌, ◌==◌, if◌then◌else◌, ◌++◌, take, drop, length, map, flat_map, codes, decimal, ℤ, pos, negsuc, Option, Some, None, is_some}
use Rattle.std.specs.List.{filter, list_all, count_by}
use Rattle.rtk_obs.specs.declared.any_code.AnyCode.{AnyCode}
use Rattle.rtk_obs.specs.Code as gps
use Rattle.rtk_obs.specs.AnyCode.{name_of, text_of}
use Rattle.rtk_obs.specs.Carriers.{channel_at}
use Rattle.rtk_obs.specs.CivilText.{last_digits}
use Rattle.rtk_rinex.specs.Columns.{right}
use Rattle.rtk_obs.specs.Reading.{reading_of}
use Rattle.rtk_rinex.specs.Header.{HeadView, PositionView, IsHeadView, header_line, made_line, marker_line, position_lines, types_label, continuation_line, unit_line, first_line, header_text}
use Rattle.rtk_rinex.specs.MixedHead.{GlonassView, MixedHeadView, letter}

-- ---- the systems

-- formula
-- the letter of the system of all codes, or M for several systems
abbrev pub version_letter : List AnyCode → ℕ
version_letter [] = 77
version_letter (c ∷ cs) = if list_all (λ d. letter d == letter c) cs then letter c else 77

-- formula
-- the version, the kind of the file and the letter of its system
abbrev pub mixed_version_line : ℕ → List ℕ
mixed_version_line system = header_line (codes "     3.05           OBSERVATION DATA    " ++ system ∷ []) (codes "RINEX VERSION / TYPE")

-- the codes of the system of this letter
abbrev pub codes_of : ℕ → List AnyCode → List AnyCode
codes_of system = filter (λ c. letter c == system)

-- ---- the observation types

-- formula
-- the three observation types of a code in a file without Doppler shifts, each after a blank: pseudorange, carrier
-- phase and signal strength (this project's choice)
abbrev pub three_types : AnyCode → List ℕ
three_types c = codes " C" ++ name_of c ++ codes " L" ++ name_of c ++ codes " S" ++ name_of c

-- formula
-- the four observation types of a code in a file with Doppler shifts: the shift stands before the signal strength (this
-- project's choice)
abbrev pub four_types : AnyCode → List ℕ
four_types c = codes " C" ++ name_of c ++ codes " L" ++ name_of c ++ codes " D" ++ name_of c ++ codes " S" ++ name_of c

-- the observation types of a code in a file with Doppler shifts (true), or without them
abbrev pub code_types : Bool → AnyCode → List ℕ
code_types false = three_types
code_types true = four_types

-- how many observation types a code has
abbrev pub types_count : Bool → ℕ
types_count false = 3
types_count true = 4

-- the observation types of all codes, four columns each
abbrev pub types_text : Bool → List AnyCode → List ℕ
types_text doppler = flat_map (code_types doppler)

-- formula
-- the lines of n codes of a system with these observation types: its letter and their number, then
-- thirteen on a line; 16 codes have 48 types on four lines, or 64 types on five
abbrev pub types_lines_of : Bool → ℕ → ℕ → List ℕ → List ℕ
types_lines_of doppler system n text =
    header_line (system ∷ codes "  " ++ right 3 (decimal (types_count doppler * n)) ++ take 52 text) types_label
    ++ continuation_line (drop 52 text)
    ++ continuation_line (drop 104 text)
    ++ continuation_line (drop 156 text)
    ++ continuation_line (drop 208 text)

-- the lines of the observation types of a system; nothing without codes
abbrev pub system_types_lines : Bool → ℕ → List AnyCode → List ℕ
system_types_lines doppler system [] = []
system_types_lines doppler system (c ∷ cs) = types_lines_of doppler system (length (c ∷ cs)) (types_text doppler (c ∷ cs))

-- formula
-- the phase shifts of a system are unknown; nothing without codes
abbrev pub phase_shift_line : ℕ → List AnyCode → List ℕ
phase_shift_line system [] = []
phase_shift_line system (c ∷ cs) = header_line (system ∷ []) (codes "SYS / PHASE SHIFT")

-- formula
-- lines of each system of these codes, in the order of the satellites
abbrev pub by_system : (ℕ → List AnyCode → List ℕ) → List AnyCode → List ℕ
by_system lines listed = flat_map (λ system. lines system (codes_of system listed)) (codes "GRECJSI")

-- ---- GLONASS

-- formula
-- a channel: I2 of one digit
abbrev pub channel_text : ℤ → List ℕ
channel_text (pos n) = 32 ∷ (48 + n) ∷ []
channel_text (negsuc n) = 45 ∷ (49 + n) ∷ []

-- formula
-- the seven columns of a slot with a channel: R and two digits, a blank, the channel, a blank
abbrev pub slot_text : ℕ → Option ℤ → List ℕ
slot_text slot None = []
slot_text slot (Some k) = 82 ∷ last_digits 2 slot ++ 32 ∷ channel_text k ++ 32 ∷ []

-- the columns of the slots from 1 to n that have a channel
abbrev pub slots_text : List (Option ℤ) → ℕ → List ℕ
slots_text channels zero = []
slots_text channels (suc n) = slots_text channels n ++ slot_text (suc n) (channel_at channels (suc n))

abbrev pub slots_label : List ℕ
slots_label = codes "GLONASS SLOT / FRQ #"

-- formula
-- a further line of slots, if any are left; eight fill its 56 columns
abbrev pub further_slots_line : List ℕ → List ℕ
further_slots_line text = if length text == 0 then [] else header_line (codes "    " ++ take 56 text) slots_label

-- formula
-- the lines of the slots with a channel: their number, then eight on a line; 27 stand on four lines
abbrev pub slots_lines : List (Option ℤ) → List ℕ
slots_lines channels =
    header_line (right 3 (decimal (count_by is_some channels)) ++ codes " " ++ take 56 (slots_text channels 27)) slots_label
    ++ further_slots_line (drop 56 (slots_text channels 27))
    ++ further_slots_line (drop 112 (slots_text channels 27))
    ++ further_slots_line (drop 168 (slots_text channels 27))

-- formula
-- the biases, which are unknown
abbrev pub biases_line : List ℕ
biases_line = header_line [] (codes "GLONASS COD/PHS/BIS")

-- formula
-- the leap seconds: I6
abbrev pub leap_line : ℕ → List ℕ
leap_line n = header_line (right 6 (decimal n)) (codes "LEAP SECONDS")

-- formula
-- the lines of GLONASS, if the file tells of it
abbrev pub glonass_lines : Option GlonassView → List ℕ
glonass_lines None = []
glonass_lines (Some g) = slots_lines g.channels ++ biases_line ++ leap_line g.leap_seconds

-- ---- the header

-- formula
-- the lines from the marker's type to the antenna's type; the fixed entries are this project's
abbrev pub unknown_lines : List ℕ
unknown_lines =
    header_line (codes "GEODETIC") (codes "MARKER TYPE")
    ++ header_line [] (codes "OBSERVER / AGENCY")
    ++ header_line [] (codes "REC # / TYPE / VERS")
    ++ header_line [] (codes "ANT # / TYPE")

-- formula
-- the header of a head, a position and the moment of the first observation, in this project's order
unfoldable pub mixed_header_text : MixedHeadView → PositionView → ℕ → List ℕ
mixed_header_text h s first =
    mixed_version_line (version_letter h.listed)
    ++ made_line (reading_of h.made)
    ++ marker_line h.marker
    ++ unknown_lines
    ++ position_lines s
    ++ by_system (system_types_lines h.doppler) h.listed
    ++ unit_line
    ++ first_line (reading_of first)
    ++ by_system phase_shift_line h.listed
    ++ glonass_lines h.glonass
    ++ header_line [] (codes "END OF HEADER")

-- ---- GPS alone

-- formula
-- the head of a file of any systems has the codes of GPS alone, no Doppler shifts, and else the same parts
pub record IsOfGps (h : HeadView) (m : MixedHeadView) : Type 0 where
  pub marker : m.marker ≡ h.marker
  pub listed : map text_of m.listed ≡ map (λ c. 71 ∷ gps.name_of c) h.listed
  pub glonass : m.glonass ≡ None
  pub made : m.made ≡ h.made
  pub doppler : m.doppler ≡ false

-- the header of codes of GPS alone is the header of a file of GPS
abbrev pub GpsFilesStay : Type 0
GpsFilesStay =
    (h : HeadView) (m : MixedHeadView) (s : PositionView) (first : ℕ) → IsOfGps h m → IsHeadView h
    → mixed_header_text m s first ≡ header_text h s first
