-- The texts that messages told last and that a label does not have (this project's rule).
use Rattle.std.specs.Prelude.{ℕ, ◌==◌, ◌||◌, List, [], ◌∷◌, ◌++◌, length, flat_map, codes, Option, None, Some, if◌then◌else◌}
use Rattle.std.specs.List.{list_all}
use Rattle.arrayvec.specs.ArrayVec.{ArrayVec}
use Rattle.rtk_survey.specs.EquipmentText.{shown_byte}
use Rattle.rtk_survey.specs.declared.equipment.Equipment.{Equipment}
use Rattle.rtk_plan.specs.ToldLabel.{is_printed, fits_field, is_null_told, trimmed}

-- formula
-- why a text has no field, if it has none; an empty text needs none
abbrev pub reason : List ℕ → List ℕ
reason text =
    if (length text == 0) || fits_field text then [] else
    if list_all is_printed text then codes " has more than 20 characters: " else codes " has characters that are no printable ASCII: "

abbrev pub field_and_reason : List ℕ → List ℕ → List ℕ
field_and_reason field why = codes " not-in-label " ++ field ++ why

-- formula
-- a field, a reason and a text; without a reason there is no line
abbrev pub left_out_line : List ℕ → List ℕ → List ℕ → List ℕ
left_out_line field why text = if length why == 0 then [] else field_and_reason field why ++ flat_map shown_byte text ++ 10 ∷ []

-- a text that a field can't have
abbrev pub unfit_line : List ℕ → Option (ArrayVec ℕ) → List ℕ
unfit_line field None = []
unfit_line field (Some text) = left_out_line field (reason (trimmed text.items)) (trimmed text.items)

-- a text that is left out for this reason, unless it is empty
abbrev pub line_without_antenna : List ℕ → List ℕ → Option (ArrayVec ℕ) → List ℕ
line_without_antenna field why None = []
line_without_antenna field why (Some text) =
    if length (trimmed text.items) == 0 then [] else left_out_line field why (trimmed text.items)

-- formula
-- the antenna: one that stands for none has no field, nor has its serial number
unfoldable pub antenna_left_out : Equipment → List ℕ
antenna_left_out e =
    if is_null_told e.antenna_type.last then
    line_without_antenna (codes "antenna-type") (codes " names no antenna: ") e.antenna_type.last
    ++ line_without_antenna (codes "antenna-serial") (codes " is of no antenna: ") e.antenna_serial.last
    else unfit_line (codes "antenna-type") e.antenna_type.last ++ unfit_line (codes "antenna-serial") e.antenna_serial.last

-- formula
-- the receiver
unfoldable pub receiver_left_out : Equipment → List ℕ
receiver_left_out e =
    unfit_line (codes "receiver-type") e.receiver_type.last
    ++ unfit_line (codes "receiver-version") e.receiver_version.last
    ++ unfit_line (codes "receiver-serial") e.receiver_serial.last

-- the lines of all texts that are left out
abbrev pub texts_left_out : Equipment → List ℕ
texts_left_out e = antenna_left_out e ++ receiver_left_out e
