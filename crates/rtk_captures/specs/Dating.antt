-- When captures of a station are (this project's rule).
use Rattle.std.specs.Prelude.{◌≡◌, ℕ, Bool, false, ◌||◌, List, [], ◌∷◌, map, Option, None, Some}
use Rattle.rtk_survey.specs.declared.placing.Placed.{Placed}
use Rattle.rtk_survey.specs.declared.survey.CaptureSurvey.{CaptureSurvey}
use Rattle.rtk_captures.specs.Reach.{least_told, placed_if_any, reach_after, is_out_of_reach, second_of}
use Rattle.rtk_captures.specs.declared.span_line.DatedSpan.{DatedSpan}
use Rattle.rtk_captures.specs.declared.station_capture.StationCapture.{StationCapture}
use Rattle.rtk_captures.specs.declared.reach.Base.{Base}
use Rattle.rtk_captures.specs.declared.reach.Base.TheVariants.{Given, Told}
use Rattle.rtk_captures.specs.StationCaptures.{capture_of}
use Rattle.rtk_captures.specs.Sources.{dated_span_of}
use Rattle.rtk_captures.specs.Stray.{strays}

-- the moment near which captures are dated: the one that is given; else the least first epoch that they tell
abbrev pub IsBaseOf : Option ℕ → List StationCapture → Base → Type 0
IsBaseOf None cs base = (least : ℕ) × (least_told cs ≡ Some least) × (base ≡ Told least)
IsBaseOf (Some near) cs base = base ≡ Given near

-- the epochs of captures that are dated near a base have this reach
abbrev pub IsReachOf : Base → List StationCapture → Placed → Type 0
IsReachOf base cs reach = reach_after None (map (placed_if_any base) cs) ≡ Some reach

-- the epochs of captures that are dated so, one for each capture
abbrev pub ArePlaced : Option ℕ → List StationCapture → List (Option Placed) → Type 0
ArePlaced given cs placed = (base : Base) × IsBaseOf given cs base × (placed ≡ map (placed_if_any base) cs)

-- a conversion near this moment would date an epoch of some capture otherwise
abbrev pub some_out_of_reach : ℕ → List StationCapture → List (Option Placed) → Bool
some_out_of_reach near [] placed = false
some_out_of_reach near (c ∷ cs) [] = false
some_out_of_reach near (c ∷ cs) (p ∷ ps) = is_out_of_reach near c p || some_out_of_reach near cs ps

-- a conversion near this moment dates all epochs of the captures as they are dated here
abbrev pub IsInReach : Option ℕ → List StationCapture → ℕ → Type 0
IsInReach given cs near = (placed : List (Option Placed)) × ArePlaced given cs placed × (some_out_of_reach near cs placed ≡ false)

-- formula
-- the whole second of the least first epoch of the captures
abbrev pub IsNearOf : Option ℕ → List StationCapture → ℕ → Type 0
IsNearOf given cs near =
    (base : Base) × IsBaseOf given cs base × ((reach : Placed) × IsReachOf base cs reach × (near ≡ second_of reach.first))

-- the captures that have the greatest epoch, if it is more than a day after all others
abbrev pub AreStrays : Option ℕ → List StationCapture → List ℕ → Type 0
AreStrays given cs places =
    (base : Base) × IsBaseOf given cs base × ((reach : Placed) × IsReachOf base cs reach × (places ≡ strays cs (map (placed_if_any base) cs) reach.until))

-- the first and the last epoch of the station, and by what the captures are dated
abbrev pub IsSpanOf : Option ℕ → List StationCapture → ℕ → DatedSpan → Type 0
IsSpanOf given cs station span =
    (base : Base) × IsBaseOf given cs base × ((reach : Placed) × IsReachOf base cs reach × (span ≡ dated_span_of cs base station reach))

-- what captures tell of a station, one after another
abbrev pub captures_of : List CaptureSurvey → ℕ → List StationCapture
captures_of ss station = map (capture_of station) ss
