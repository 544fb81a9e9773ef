-- The lines of a report (this project's rule). Links are counted from 1; moments are read as GPS
-- time.
use Rattle.std.specs.Prelude.{ℕ, zero, suc, ◌+◌, Bool, List, [], ◌∷◌, ◌++◌, codes, decimal, Option, None, Some, if◌then◌else◌}
use Rattle.rtk_obs.specs.declared.any_code.AnyCode.{AnyCode}
use Rattle.rtk_obs.specs.AnyCode.{name_of}
use Rattle.rtk_obs.specs.CivilText.{civil_text, last_digits}
use Rattle.rtk_obs.specs.SatelliteIndex.{index_name}
use Rattle.rtk_obs.specs.Reading.{reading_of}

-- formula
-- the epoch of a message; a hyphen for a station message, which has none
abbrev pub epoch_text : Option ℕ → List ℕ
epoch_text None = codes "-"
epoch_text (Some t) = civil_text (reading_of t)

-- formula
abbrev pub link_text : ℕ → List ℕ
link_text link = codes "link " ++ decimal (link + 1)

-- formula
-- a link, a message number and an epoch, as in: link 2 late 1074 2024-05-17 12:00:00.000
abbrev pub arrival_text : ℕ → List ℕ → ℕ → Option ℕ → List ℕ
arrival_text link what number epoch = link_text link ++ what ++ decimal number ++ 32 ∷ epoch_text epoch

-- formula
-- a message that came too late
abbrev pub late_line : ℕ → ℕ → Option ℕ → List ℕ
late_line link number epoch = arrival_text link (codes " late ") number epoch ++ 10 ∷ []

-- formula
-- a station message that differs from the one before
abbrev pub conflict_line : ℕ → ℕ → List ℕ
conflict_line link number = arrival_text link (codes " conflict ") number None ++ 10 ∷ []

-- formula
-- a satellite and a code, as in: G05 1C
unfoldable pub signal_text : ℕ → AnyCode → List ℕ
signal_text satellite code = 32 ∷ index_name satellite ++ 32 ∷ name_of code

-- formula
-- a cell that differs from the one before, as in: link 1 conflict 1074 2024-05-17 12:00:00.000 G05
-- 1C
abbrev pub cell_conflict_line : ℕ → ℕ → ℕ → ℕ → AnyCode → List ℕ
cell_conflict_line link number epoch satellite code =
    arrival_text link (codes " conflict ") number (Some epoch) ++ signal_text satellite code ++ 10 ∷ []

-- formula
-- the name of a satellite of GLONASS after a blank: R and the two digits of its slot
abbrev pub slot_name : ℕ → List ℕ
slot_name slot = 32 ∷ 82 ∷ last_digits 2 slot

-- formula
-- the names of the slots from 1 to n that a test holds of, rising
abbrev pub slot_names : (ℕ → Bool) → ℕ → List ℕ
slot_names test zero = []
slot_names test (suc n) = slot_names test n ++ (if test (suc n) then slot_name (suc n) else [])

-- formula
-- some names; a hyphen for none
abbrev pub shown_names : List ℕ → List ℕ
shown_names [] = codes " -"
shown_names (x ∷ names) = x ∷ names

-- formula
-- a line of slots, as in: other-channel R09 R10
abbrev pub slots_line : List ℕ → List ℕ → List ℕ
slots_line name names = name ++ shown_names names ++ 10 ∷ []

-- formula
-- the two lines of slots whose satellites have no phases: those that the first test holds of have another channel by a message,
-- those of the second have none
abbrev pub channels_text : (ℕ → Bool) → (ℕ → Bool) → List ℕ
channels_text is_other is_without = slots_line (codes "other-channel") (slot_names is_other 27) ++ slots_line (codes "no-channel") (slot_names is_without 27)

-- formula
-- the systems of which no message was taken, if there are any, as in: no-message C J
abbrev pub missing_line : List ℕ → List ℕ
missing_line [] = []
missing_line (x ∷ letters) = codes "no-message" ++ x ∷ letters ++ 10 ∷ []
