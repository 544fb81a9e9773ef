-- Fields of a header that a label fills: offsets, and how fields stand in their columns.
-- Source: RINEX 3.05, Table A2
use Rattle.std.specs.Prelude.{◌≡◌, ◌<◌, ◌⊎◌, ℕ, ◌+◌, ◌-◌, ◌==◌, List, [], length, take, drop, codes, All, slice_index, if◌then◌else◌}
use Rattle.std.specs.Int.{IsInRange}
use Rattle.rtk_rinex.specs.Columns.{left, right}
use Rattle.rtk_rinex.specs.Header.{header_line}

-- formula
-- plus or minus
abbrev pub IsSign : ℕ → Type 0
IsSign x = (x ≡ 43) ⊎ (x ≡ 45)

-- formula
-- decimal digits
abbrev pub AreDigits : List ℕ → Type 0
AreDigits text = All (λ x. IsInRange 48 57 x) text

-- formula
-- an offset in m: a sign, one to four digits, a point and four digits (this project's rule: by the
-- sign it is told from a height of the stream, which has none)
abbrev pub IsSigned : List ℕ → Type 0
IsSigned text =
    IsInRange 7 10 (length text) × IsSign (slice_index text 0) × (slice_index text (length text - 5) ≡ 46)
    × AreDigits (take (length text - 5 - 1) (drop 1 text)) × AreDigits (drop (length text - 5 + 1) text)

-- formula
-- no characters, or an offset
abbrev pub IsOffset : List ℕ → Type 0
IsOffset text = 0 < length text → IsSigned text

-- formula
-- the columns of an offset to the east or north (F14.4, in m), 0 if the field is blank
abbrev pub offset_columns : List ℕ → List ℕ
offset_columns text = if length text == 0 then codes "        0.0000" else right 14 text

-- formula
-- the line of the marker's number (A20), which is absent if the field is blank
abbrev pub marker_number_line : List ℕ → List ℕ
marker_number_line text = if length text == 0 then [] else header_line (left 20 text) (codes "MARKER NUMBER")
