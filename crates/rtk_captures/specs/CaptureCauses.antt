-- Why captures of a station can't be dated or joined to links (this project's rule).
use Rattle.std.specs.Prelude.{◌≡◌, ◌≢◌, ◌<◌, ◌+◌, ℕ, Bool, true, false, ◌&&◌, not, ◌⊎◌, nat_lt, ⊤, List, [], length, map, slice_get, Option, None, Some}
use Rattle.std.specs.List.{list_any}
use Rattle.std.specs.Option.{option_map_or}
use Rattle.rtk_obs.specs.Dating.{IsReference}
use Rattle.rtk_obs.specs.declared.time.TheConstants.{LAST_MS}
use Rattle.rtk_survey.specs.Telling.{half_week_ms}
use Rattle.rtk_survey.specs.declared.placing.Placed.{Placed}
use Rattle.rtk_survey.specs.declared.survey.CaptureSurvey.{CaptureSurvey}
use Rattle.rtk_captures.specs.ChosenStation.{IsObservedStation, AreSeveralObserved}
use Rattle.rtk_captures.specs.Reach.{has_week, least_told, placed_if_any, reach_after, second_of}
use Rattle.rtk_captures.specs.declared.station_capture.StationCapture.{StationCapture}
use Rattle.rtk_captures.specs.declared.reach.Base.{Base}
use Rattle.rtk_captures.specs.Kept.{empty_captures}
use Rattle.rtk_captures.specs.Dating.{IsBaseOf, IsReachOf, some_out_of_reach}
use Rattle.rtk_captures.specs.declared.refusal.PlanFault.{PlanFault}
use Rattle.rtk_captures.specs.declared.refusal.PlanFault.TheVariants.{Refused, OutOfMemory}
use Rattle.rtk_captures.specs.declared.refusal.Refusal.{Refusal}
use Rattle.rtk_captures.specs.declared.refusal.Refusal.TheVariants.{NoObservation, NoStation, SeveralStations, Empty, DatesDiffer, TwoDates, OutsideDates, NoDate, TooLong, TooManyLinks}

-- a refusal has this cause; refused memory has none
abbrev pub IfRefused : (Refusal → Type 0) → PlanFault → Type 0
IfRefused IsCause (Refused refusal list) = IsCause refusal
IfRefused IsCause OutOfMemory = ⊤

-- ---- the station

abbrev pub IsStationCause : List CaptureSurvey → Option ℕ → Refusal → Type 0
IsStationCause ss named NoObservation = (n : ℕ) → ¬ (IsObservedStation ss n)
IsStationCause ss named (NoStation station) = (named ≡ Some station) × ¬ (IsObservedStation ss station)
IsStationCause ss named SeveralStations = (named ≡ None) × AreSeveralObserved ss
IsStationCause ss named other = ⊥

-- ---- captures that have nothing of it

abbrev pub IsEmptyCause : ℕ → List StationCapture → Bool → Refusal → Type 0
IsEmptyCause station cs skip_empty (Empty n) = (n ≡ station) × (skip_empty ≡ false) × (empty_captures cs ≢ [])
IsEmptyCause station cs skip_empty other = ⊥

-- ---- their dates

-- messages of the capture that count tell several first epochs
abbrev pub has_several_dates : StationCapture → Bool
has_several_dates c = nat_lt 1 c.dates

-- a capture is dated by the week of a 1019, which means several; or by the day of a 1013 or 1029, or the week of a 1042,
-- 1045 or 1046, which mean one
abbrev pub is_dated_by_week : StationCapture → Bool
is_dated_by_week c = option_map_or (λ t. has_week t.message) c.told false

abbrev pub is_dated_by_day : StationCapture → Bool
is_dated_by_day c = option_map_or (λ t. not (has_week t.message)) c.told false

-- formula
-- a capture tells that it begins more than half a week after this moment
abbrev pub is_told_later : ℕ → StationCapture → Bool
is_told_later least c = option_map_or (λ t. nat_lt (least + half_week_ms) t.first) c.told false

-- some captures are dated by weeks and others by days, and one is told to be far from the first one
abbrev pub have_week_and_day : List StationCapture → ℕ → Bool
have_week_and_day cs least = list_any is_dated_by_week cs && (list_any is_dated_by_day cs && list_any (is_told_later least) cs)

-- a capture tells several dates, or captures that are dated by weeks and by days differ
abbrev pub HaveDifferingDates : List StationCapture → Type 0
HaveDifferingDates cs =
    (list_any has_several_dates cs ≡ true)
    ⊎ ((least : ℕ) × (least_told cs ≡ Some least) × (have_week_and_day cs least ≡ true))

-- the second date of the capture at this place begins behind so many frames
abbrev pub IsPartedAt : List StationCapture → ℕ → ℕ → Type 0
IsPartedAt cs place frame = (c : StationCapture) × (slice_get cs place ≡ Some c) × (c.parting ≡ Some frame)

-- the moment near which they would be dated can't be a reference, or an epoch is after the last moment
abbrev pub IsOutside : Placed → Type 0
IsOutside reach = ¬ (IsReference (second_of reach.first)) ⊎ ((LAST_MS < reach.from) ⊎ (LAST_MS < reach.until))

-- captures that are dated near a base
abbrev pub IsReachCause : Base → List StationCapture → Refusal → Type 0
IsReachCause base cs NoObservation = reach_after None (map (placed_if_any base) cs) ≡ None
IsReachCause base cs OutsideDates = (reach : Placed) × IsReachOf base cs reach × IsOutside reach
IsReachCause base cs TooLong =
    (reach : Placed) × IsReachOf base cs reach × (some_out_of_reach (second_of reach.first) cs (map (placed_if_any base) cs) ≡ true)
IsReachCause base cs other = ⊥

-- captures that are dated near this moment, or by what they tell
abbrev pub IsDatingCause : Option ℕ → List StationCapture → Refusal → Type 0
IsDatingCause given cs DatesDiffer = (given ≡ None) × HaveDifferingDates cs
IsDatingCause given cs (TwoDates place frame) = (given ≡ None) × IsPartedAt cs place frame
IsDatingCause given cs NoDate = (given ≡ None) × (least_told cs ≡ None)
IsDatingCause given cs refusal = (base : Base) × IsBaseOf given cs base × IsReachCause base cs refusal

abbrev pub AreTooMany : List (List ℕ) → Refusal → Type 0
AreTooMany links refusal = (refusal ≡ TooManyLinks) × (16 < length links)
