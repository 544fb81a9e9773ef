-- The lines of the antenna and the receiver of a station (this project's rule).
use Rattle.std.specs.Prelude.{ℕ, ◌+◌, ◌/◌, ◌%◌, ◌&&◌, nat_le, nat_lt, List, [], ◌∷◌, ◌++◌, flat_map, codes, Option, None, Some, if◌then◌else◌}
use Rattle.arrayvec.specs.ArrayVec.{ArrayVec}
use Rattle.rtk_survey.specs.declared.equipment.Equipment.{Equipment}
use Rattle.rtk_survey.specs.declared.equipment.SetupHistory.{SetupHistory}
use Rattle.rtk_survey.specs.declared.equipment.TextHistory.{TextHistory}
use Rattle.rtk_survey.specs.SummaryText.{number_line, counted_line}

-- ---- a text

-- formula
-- a digit of a number below 16: 0 to 9, A to F
abbrev pub hex_digit : ℕ → ℕ
hex_digit n = if nat_lt n 10 then 48 + n else 55 + n

-- formula
-- a byte from blank to tilde as it is, others as in \x0A
abbrev pub shown_byte : ℕ → List ℕ
shown_byte byte = if nat_le 32 byte && nat_le byte 126 then byte ∷ [] else 92 ∷ 120 ∷ hex_digit (byte / 16) ∷ hex_digit (byte % 16) ∷ []

-- formula
-- words and a text; an empty text has no line
abbrev pub text_line : List ℕ → List ℕ → List ℕ
text_line words [] = []
text_line words (x ∷ xs) = words ++ flat_map shown_byte (x ∷ xs) ++ 10 ∷ []

-- a text that no message told has no line
abbrev pub line_if_any : List ℕ → Option (ArrayVec ℕ) → List ℕ
line_if_any words None = []
line_if_any words (Some text) = text_line words text.items

-- formula
-- the last text that was told, and how often another was told than the one before
unfoldable pub text_lines : List ℕ → List ℕ → TextHistory → List ℕ
text_lines words changes t = line_if_any words t.last ++ counted_line changes t.changes

-- ---- a setup

-- formula
abbrev pub setup_line : Option ℕ → List ℕ
setup_line None = []
setup_line (Some setup) = number_line (codes " antenna-setup ") setup

-- formula
unfoldable pub setup_lines : SetupHistory → List ℕ
setup_lines t = setup_line t.last ++ counted_line (codes " changes-of-antenna-setup ") t.changes

-- ---- a station

-- formula
unfoldable pub antenna_lines : Equipment → List ℕ
antenna_lines e =
    text_lines (codes " antenna-type ") (codes " changes-of-antenna-type ") e.antenna_type
    ++ text_lines (codes " antenna-serial ") (codes " changes-of-antenna-serial ") e.antenna_serial
    ++ setup_lines e.antenna_setup

-- formula
unfoldable pub receiver_lines : Equipment → List ℕ
receiver_lines e =
    text_lines (codes " receiver-type ") (codes " changes-of-receiver-type ") e.receiver_type
    ++ text_lines (codes " receiver-version ") (codes " changes-of-receiver-version ") e.receiver_version
    ++ text_lines (codes " receiver-serial ") (codes " changes-of-receiver-serial ") e.receiver_serial

-- formula
-- the lines of the antenna and the receiver of a station
abbrev pub equipment_lines : Equipment → List ℕ
equipment_lines e = antenna_lines e ++ receiver_lines e
