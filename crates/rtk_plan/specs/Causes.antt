-- Why captures have no plan: what holds of them and of the words if a refusal comes (this project's rule).
use Rattle.std.specs.Prelude.{◌≡◌, ◌<◌, ◌==◌, ℕ, Bool, true, false, not, ◌⊎◌, List, [], length, Option, None, Some}
use Rattle.std.specs.List.{list_any}
use Rattle.rtk_message.specs.declared.system.System.{System}
use Rattle.rtk_obs.specs.declared.any_code.AnyCode.{AnyCode}
use Rattle.rtk_obs.specs.Dating.{IsReference}
use Rattle.rtk_obs.specs.SatelliteIndex.{letter_of}
use Rattle.rtk_setup.specs.Rates.{without_rates}
use Rattle.rtk_setup.specs.Setup.{SetupView}
use Rattle.rtk_setup.specs.declared.system_kinds.SystemKinds.{SystemKinds}
use Rattle.rtk_survey.specs.declared.survey.CaptureSurvey.{CaptureSurvey}
use Rattle.rtk_captures.specs.declared.station_capture.StationCapture.{StationCapture}
use Rattle.rtk_plan.specs.LinkPlaces.{AreLinksOf}
use Rattle.rtk_plan.specs.Plan.{IsChosenStation, kinds_found, AreSystemsTaken, AreCodesChosen, AreLeapSecondsOf, IsNear1012, HaveFarClocks, IsSetupFor, codes_taken_from}
use Rattle.rtk_captures.specs.Dating.{captures_of, IsNearOf}
use Rattle.rtk_captures.specs.Positions.{some_are_far}
use Rattle.rtk_systems.specs.Values.{codes_in_captures}
use Rattle.rtk_rinex.specs.declared.system_flags.SystemFlags.{SystemFlags}
use Rattle.rtk_captures.specs.declared.refusal.Refusal.{Refusal}
use Rattle.rtk_captures.specs.declared.refusal.Refusal.TheVariants.{NoFrame, NoObservation, NoStation, SeveralStations, Empty, OutsideDates, TooLong, NoCode, NoRates, TooManyLinks, PositionsDiffer}
use Rattle.rtk_systems.specs.declared.values.TakenMessages.{TakenMessages}
use Rattle.rtk_plan.specs.declared.wanted.Wanted.{Wanted}
use Rattle.rtk_captures.specs.CaptureCauses.{IsStationCause, IsEmptyCause, IsDatingCause}

-- ---- the values of the conversion of a station

-- no code is found in messages that are taken, of the systems that are taken with these leap seconds
abbrev pub FindsNoCode : List CaptureSurvey → TakenMessages → Wanted → ℕ → Option ℕ → ℕ → Type 0
FindsNoCode ss taken w station seconds near =
    (systems : SystemFlags) × AreSystemsTaken ss station w.systems seconds near systems × (codes_in_captures ss station systems taken ≡ [])

-- no codes are named, and none is found in the MSM of these links, and in 1012 if these can be dated, near this moment
abbrev pub HasNoCode : List CaptureSurvey → List (List ℕ) → Wanted → ℕ → ℕ → Type 0
HasNoCode ss links w station near =
    (w.codes ≡ None) × ((seconds : Option ℕ) × AreLeapSecondsOf ss w station near seconds
    × ((other : Option ℕ) × IsNear1012 ss w.near station seconds near other
    × FindsNoCode ss (codes_taken_from (kinds_found w.msm ss links station) other) w station seconds near))

-- the same near the moment near which captures are dated
abbrev pub HasNoCodeNear : List CaptureSurvey → List (List ℕ) → Wanted → ℕ → List StationCapture → Type 0
HasNoCodeNear ss links w station cs = (near : ℕ) × IsNearOf w.near cs near × HasNoCode ss links w station near

-- the MSM of a listed system has no range rates, and Doppler shifts are asked for; the first such system has this letter
abbrev pub LacksRates : Bool → SystemKinds → List AnyCode → ℕ → Type 0
LacksRates is_asked ks listed letter = (s : System) × (without_rates is_asked ks listed ≡ Some s) × (letter ≡ letter_of s)

-- that is why a setup of these kinds and codes is refused
abbrev pub IsRatesCause : Bool → SystemKinds → List AnyCode → Refusal → Type 0
IsRatesCause is_asked ks listed (NoRates letter) = LacksRates is_asked ks listed letter
IsRatesCause is_asked ks listed refusal = ⊥

-- the MSM of these links has no range rates of a system of this letter, of which a code is named or found near this moment
abbrev pub HasNoRates : List CaptureSurvey → List (List ℕ) → Wanted → ℕ → ℕ → ℕ → Type 0
HasNoRates ss links w station letter near =
    (seconds : Option ℕ) × AreLeapSecondsOf ss w station near seconds
    × ((other : Option ℕ) × IsNear1012 ss w.near station seconds near other
    × ((listed : List AnyCode) × AreCodesChosen w ss station seconds near (codes_taken_from (kinds_found w.msm ss links station) other) listed
    × LacksRates w.doppler (kinds_found w.msm ss links station) listed letter))

-- the same near the moment near which captures are dated
abbrev pub HasNoRatesNear : List CaptureSurvey → List (List ℕ) → Wanted → ℕ → ℕ → List StationCapture → Type 0
HasNoRatesNear ss links w station letter cs = (near : ℕ) × IsNearOf w.near cs near × HasNoRates ss links w station letter near

abbrev pub IsSetupCause : List CaptureSurvey → List (List ℕ) → Wanted → ℕ → ℕ → Refusal → Type 0
IsSetupCause ss links w station near NoCode = HasNoCode ss links w station near
IsSetupCause ss links w station near OutsideDates = ¬ (IsReference near)
IsSetupCause ss links w station near (NoRates letter) = HasNoRates ss links w station letter near
IsSetupCause ss links w station near other = ⊥

-- ---- all of them

-- no capture has a frame
abbrev pub has_frames : CaptureSurvey → Bool
has_frames s = not (s.contents.frames == 0)

-- a clock that gives no epoch goes further than the conversion of a station can date it
abbrev pub AreClocksFar : List CaptureSurvey → Wanted → ℕ → Type 0
AreClocksFar ss w station =
    (links : List (List ℕ)) × ((made : ℕ) × ((s : SetupView) × IsSetupFor ss links w made s × HaveFarClocks ss w.near station s true))

-- of captures that tell this of the station that is converted
abbrev pub IsCaptureCause : List CaptureSurvey → Wanted → Bool → Bool → ℕ → List StationCapture → Refusal → Type 0
IsCaptureCause ss w skip_empty as_given station cs (Empty n) = IsEmptyCause station cs skip_empty (Empty n)
IsCaptureCause ss w skip_empty as_given station cs NoCode =
    (links : List (List ℕ)) × AreLinksOf as_given w.near ss station links × HasNoCodeNear ss links w station cs
IsCaptureCause ss w skip_empty as_given station cs (NoRates letter) =
    (links : List (List ℕ)) × AreLinksOf as_given w.near ss station links × HasNoRatesNear ss links w station letter cs
IsCaptureCause ss w skip_empty as_given station cs TooLong = IsDatingCause w.near cs TooLong ⊎ AreClocksFar ss w station
IsCaptureCause ss w skip_empty as_given station cs TooManyLinks =
    (links : List (List ℕ)) × AreLinksOf as_given w.near ss station links × (16 < length links)
IsCaptureCause ss w skip_empty as_given station cs PositionsDiffer = (as_given ≡ false) × (some_are_far cs ≡ true)
IsCaptureCause ss w skip_empty as_given station cs refusal = IsDatingCause w.near cs refusal

-- of captures of the station that is converted
abbrev pub IsChosenCause : List CaptureSurvey → Wanted → Bool → Bool → Refusal → Type 0
IsChosenCause ss w skip_empty as_given refusal =
    (station : ℕ) × IsChosenStation ss w.station station × IsCaptureCause ss w skip_empty as_given station (captures_of ss station) refusal

-- why there is no plan of a conversion of captures with these surveys, by these words; captures that have
-- nothing of the station are left out or not, and links are as given or found
abbrev pub IsCauseOf : List CaptureSurvey → Wanted → Bool → Bool → Refusal → Type 0
IsCauseOf ss w skip_empty as_given NoFrame = list_any has_frames ss ≡ false
IsCauseOf ss w skip_empty as_given NoObservation =
    IsStationCause ss w.station NoObservation ⊎ IsChosenCause ss w skip_empty as_given NoObservation
IsCauseOf ss w skip_empty as_given (NoStation station) = IsStationCause ss w.station (NoStation station)
IsCauseOf ss w skip_empty as_given SeveralStations = IsStationCause ss w.station SeveralStations
IsCauseOf ss w skip_empty as_given refusal = IsChosenCause ss w skip_empty as_given refusal
