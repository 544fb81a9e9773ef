-- What a refusal lists of captures (this project's rule).
use Rattle.std.specs.Prelude.{ℕ, nat_lt, List, [], length, flat_map, slice_get, codes, Option, None, Some, if◌then◌else◌}
use Rattle.std.specs.Borrow.{Bor}
use Rattle.std.specs.List.{range_with_len}
use Rattle.rtk_survey.specs.declared.placing.Placed.{Placed}
use Rattle.rtk_survey.specs.declared.survey.CaptureSurvey.{CaptureSurvey}
use Rattle.rtk_survey.specs.declared.tellings.Told.{Told}
use Rattle.rtk_captures.specs.CaptureNames.{capture_name, lines_by}
use Rattle.rtk_captures.specs.Kept.{is_heard}
use Rattle.rtk_captures.specs.Lists.{capture_line, name_line, station_line, to_come_line, date_line, reach_line}
use Rattle.rtk_survey.specs.Contents.{station_in}
use Rattle.rtk_captures.specs.StationCaptures.{epochs_heard, told_in, to_come_in}
use Rattle.rtk_captures.specs.declared.station_capture.StationCapture.{StationCapture}

-- each capture, with what it looks like if it has no frame
abbrev pub listed_captures : List (Bor (List ℕ)) → List CaptureSurvey → List ℕ
listed_captures names ss = lines_by (λ at s. capture_line (codes " ") (capture_name names at) s.look) 0 ss

-- the captures that have observations of a station, and of each station (DF003)
abbrev pub listed_station : List (Bor (List ℕ)) → List CaptureSurvey → ℕ → List ℕ
listed_station names ss station = lines_by (λ at s. station_line s station (capture_name names at)) 0 ss

unfoldable pub listed_stations : List (Bor (List ℕ)) → List CaptureSurvey → List ℕ
listed_stations names ss = flat_map (listed_station names ss) (range_with_len 0 4096)

-- the dates that are to come
abbrev pub to_come_line_if : Option Told → List ℕ → List ℕ
to_come_line_if None name = []
to_come_line_if (Some t) name = to_come_line t name

abbrev pub listed_to_come : List (Bor (List ℕ)) → List CaptureSurvey → List ℕ
listed_to_come names ss = lines_by (λ at s. to_come_line_if (to_come_in s) (capture_name names at)) 0 ss

-- the captures at these places
abbrev pub listed_names : List (Bor (List ℕ)) → List ℕ → List ℕ
listed_names names places = flat_map (λ place. name_line (codes " ") (capture_name names place)) places

-- the captures that have nothing of the station
abbrev pub empty_line_if : StationCapture → List ℕ → List ℕ
empty_line_if c name = if is_heard c then [] else capture_line (codes " ") name c.look

abbrev pub listed_empty : List (Bor (List ℕ)) → List StationCapture → List ℕ
listed_empty names cs = lines_by (λ at c. empty_line_if c (capture_name names at)) 0 cs

-- the first epochs that captures tell of a station, where those of a capture differ
abbrev pub differing_lines : List Told → List ℕ → List ℕ
differing_lines ts name = if nat_lt (length ts) 2 then [] else flat_map (λ t. date_line t name) ts

abbrev pub listed_dates : List (Bor (List ℕ)) → ℕ → List CaptureSurvey → List ℕ
listed_dates names station ss = lines_by (λ at s. differing_lines (told_in station s) (capture_name names at)) 0 ss

-- the first epoch that each capture tells
abbrev pub told_line_if : Option Told → List ℕ → List ℕ
told_line_if None name = []
told_line_if (Some t) name = date_line t name

abbrev pub listed_told : List (Bor (List ℕ)) → List StationCapture → List ℕ
listed_told names cs = lines_by (λ at c. told_line_if c.told (capture_name names at)) 0 cs

-- the first and the last epoch of each capture of a station, and how many it has
abbrev pub epochs_in_survey : ℕ → Option CaptureSurvey → ℕ
epochs_in_survey station None = 0
epochs_in_survey station (Some s) = epochs_heard (station_in station s)

abbrev pub reach_line_if : Option Placed → ℕ → List ℕ → List ℕ
reach_line_if None epochs name = []
reach_line_if (Some p) epochs name = reach_line p epochs name

abbrev pub listed_reaches : List (Bor (List ℕ)) → ℕ → List CaptureSurvey → List (Option Placed) → List ℕ
listed_reaches names station ss placed = lines_by (λ at p. reach_line_if p (epochs_in_survey station (slice_get ss at)) (capture_name names at)) 0 placed
