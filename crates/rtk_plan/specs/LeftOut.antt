-- The lines of what captures have and no file can show (this project's rule).
use Rattle.std.specs.Prelude.{ℕ, ◌==◌, List, [], ◌++◌, flat_map, codes, decimal, if◌then◌else◌}
use Rattle.std.specs.Borrow.{Bor}
use Rattle.std.specs.BTreeMap.{BTreeMap}
use Rattle.rtk_captures.specs.CaptureNames.{capture_name, lines_by}
use Rattle.rtk_captures.specs.Lists.{name_line}
use Rattle.rtk_captures.specs.OtherPositions.{other_position_lines}
use Rattle.rtk_message.specs.Accepted.{accepts}
use Rattle.rtk_message.specs.declared.accepted.Accepted.{Accepted}
use Rattle.rtk_plan.specs.Plan.{taken_messages}
use Rattle.rtk_plan.specs.declared.planning.Plan.{Plan}
use Rattle.rtk_setup.specs.Setup.{taken_by}
use Rattle.rtk_survey.specs.Surveys.{places_of}
use Rattle.rtk_survey.specs.declared.contents.Contents.{Contents}
use Rattle.rtk_survey.specs.declared.survey.CaptureSurvey.{CaptureSurvey}
use Rattle.rtk_systems.specs.NamelessLines.{nameless_lines}

-- ---- frames that can't be read

-- formula
-- so many messages of a number that can't be read, behind words that name the fault
unfoldable pub refused_number_line : List ℕ → List ℕ → ℕ → ℕ → List ℕ
refused_number_line words name number count = words ++ decimal number ++ codes " " ++ decimal count ++ name_line (codes " in ") name

abbrev pub refused_among : List ℕ → List ℕ → BTreeMap ℕ ℕ → List ℕ
refused_among words name counts = flat_map (λ e. refused_number_line words name e.0 e.1) counts.entries

-- formula
-- so many frames without a number
abbrev pub numberless_line : ℕ → List ℕ → List ℕ
numberless_line count name = if count == 0 then [] else codes " refused M1 - " ++ decimal count ++ name_line (codes " in ") name

-- so many MSM of a number that tell no day, if MSM of this number are taken
unfoldable pub dayless_line : Accepted → List ℕ → ℕ → ℕ → List ℕ
dayless_line taken name number count = if accepts taken number then refused_number_line (codes " refused M4 ") name number count else []

abbrev pub dayless_among : Accepted → List ℕ → BTreeMap ℕ ℕ → List ℕ
dayless_among taken name counts = flat_map (λ e. dayless_line taken name e.0 e.1) counts.entries

-- a conversion with 1012 reads these MSM
abbrev pub dayless_lines : Accepted → List ℕ → BTreeMap ℕ ℕ → List ℕ
dayless_lines taken name counts = if taken.obs1012 then [] else dayless_among taken name counts

-- table
-- the frames of a capture that can't be read, by fault and number
unfoldable pub refused_lines : Accepted → List ℕ → Contents → List ℕ
refused_lines taken name c =
    numberless_line c.unread.no_number name ++ refused_among (codes " refused M3 ") name c.unread.short
    ++ refused_among (codes " refused M4 ") name c.unread.outside_week ++ dayless_lines taken name c.dayless
    ++ refused_among (codes " refused M5 ") name c.unread.too_many_cells

abbrev pub refused_at : List (Bor (List ℕ)) → Accepted → ℕ → CaptureSurvey → List ℕ
refused_at names taken at s = refused_lines taken (capture_name names at) s.contents

-- those of all captures, if these messages are taken
abbrev pub all_refused : List (Bor (List ℕ)) → Accepted → List CaptureSurvey → List ℕ
all_refused names taken ss = lines_by (refused_at names taken) 0 ss

-- ---- all of it

-- the frames that can't be read, the systems with cells without a name, and the captures that tell another position
abbrev pub left_out_lines : List (Bor (List ℕ)) → List CaptureSurvey → Plan → List ℕ
left_out_lines names ss plan =
    all_refused names (taken_by plan.setup) ss ++ nameless_lines plan.setup.head.listed ss plan.setup.station (taken_messages plan.setup)
    ++ other_position_lines names plan.captures.items (places_of plan.links.items)
