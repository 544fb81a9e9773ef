-- What captures told of an antenna and a receiver beside those that were told last (this project's rule): a file has one label,
-- so whoever reads it should know that a part of its epochs had another antenna or receiver.
use Rattle.std.specs.Prelude.{ℕ, ◌==◌, Bool, ◌&&◌, nat_lt, List, [], ◌++◌, length, flat_map, slice_get, codes, decimal, Option, None, Some, if◌then◌else◌}
use Rattle.std.specs.Borrow.{Bor}
use Rattle.arrayvec.specs.ArrayVec.{ArrayVec}
use Rattle.rtk_survey.specs.Contents.{station_in}
use Rattle.rtk_survey.specs.EquipmentHistory.{is_other_text}
use Rattle.rtk_survey.specs.EquipmentText.{shown_byte}
use Rattle.rtk_survey.specs.declared.equipment.Equipment.{Equipment}
use Rattle.rtk_survey.specs.declared.equipment.TextHistory.{TextHistory}
use Rattle.rtk_survey.specs.declared.station.StationSurvey.{StationSurvey}
use Rattle.rtk_survey.specs.declared.survey.CaptureSurvey.{CaptureSurvey}
use Rattle.rtk_captures.specs.CaptureNames.{capture_name, lines_by}
use Rattle.rtk_captures.specs.Lists.{name_line}
use Rattle.rtk_plan.specs.TextsLeftOut.{texts_left_out}

-- formula
-- words, a field and a blank
abbrev pub field_after : List ℕ → List ℕ → List ℕ
field_after words field = words ++ field ++ codes " "

-- a text is another one than the one that counts; an empty text names nothing
abbrev pub is_other_named : Option (ArrayVec ℕ) → ArrayVec ℕ → Bool
is_other_named counts text = nat_lt 0 (length text.items) && is_other_text counts text

-- formula
-- the text that a capture told last, if it is another one than the one that counts
abbrev pub other_named_line : List ℕ → List ℕ → Option (ArrayVec ℕ) → ArrayVec ℕ → List ℕ
other_named_line field name counts text =
    if is_other_named counts text then field_after (codes " other-") field ++ flat_map shown_byte text.items ++ name_line (codes " in ") name else []

abbrev pub other_told_line : List ℕ → List ℕ → Option (ArrayVec ℕ) → Option (ArrayVec ℕ) → List ℕ
other_told_line field name counts None = []
other_told_line field name counts (Some text) = other_named_line field name counts text

-- formula
-- how often a capture told another text than before, if it did
abbrev pub changes_line : List ℕ → List ℕ → ℕ → List ℕ
changes_line field name changes =
    if changes == 0 then [] else field_after (codes " changes-of-") field ++ decimal changes ++ name_line (codes " in ") name

-- both of a field
abbrev pub field_notes : List ℕ → List ℕ → TextHistory → TextHistory → List ℕ
field_notes field name counts told = other_told_line field name counts.last told.last ++ changes_line field name told.changes

-- those of the antenna, and of the receiver
unfoldable pub antenna_notes : List ℕ → Equipment → Equipment → List ℕ
antenna_notes name counts told =
    field_notes (codes "antenna-type") name counts.antenna_type told.antenna_type
    ++ field_notes (codes "antenna-serial") name counts.antenna_serial told.antenna_serial

unfoldable pub receiver_notes : List ℕ → Equipment → Equipment → List ℕ
receiver_notes name counts told =
    field_notes (codes "receiver-type") name counts.receiver_type told.receiver_type
    ++ field_notes (codes "receiver-version") name counts.receiver_version told.receiver_version
    ++ field_notes (codes "receiver-serial") name counts.receiver_serial told.receiver_serial

abbrev pub other_equipment : List ℕ → Equipment → Option Equipment → List ℕ
other_equipment name counts None = []
other_equipment name counts (Some told) = antenna_notes name counts told ++ receiver_notes name counts told

-- those of a station; one that was heard has an entry of what it told, or none
abbrev pub other_of_station : List ℕ → Equipment → Option StationSurvey → List ℕ
other_of_station name counts None = []
other_of_station name counts (Some s) = other_equipment name counts (slice_get s.equipment.items 0)

-- those of a capture of this name
abbrev pub other_in_capture : ℕ → Equipment → CaptureSurvey → List ℕ → List ℕ
other_in_capture station counts s name = other_of_station name counts (station_in station s)

-- those of captures with these names, beside what they told last of all
abbrev pub all_other_equipment : List (Bor (List ℕ)) → ℕ → Equipment → List CaptureSurvey → List ℕ
all_other_equipment names station counts ss = lines_by (λ at s. other_in_capture station counts s (capture_name names at)) 0 ss

-- what a person should know of the antenna and the receiver
abbrev pub equipment_notes : List (Bor (List ℕ)) → List CaptureSurvey → ℕ → Equipment → List ℕ
equipment_notes names ss station counts = texts_left_out counts ++ all_other_equipment names station counts ss
