-- What a conversion is told, by the surveys of captures and by what words say (this project's rule).
use Rattle.std.specs.Prelude.{◌≡◌, ℕ, Bool, ◌&&◌, is_none, is_some, List, Option, None, Some, unwrap_or, if◌then◌else◌}
use Rattle.std.specs.declared.vec.Vec.{Vec}
use Rattle.rtk_message.specs.declared.msm_kind.MsmKind.{MsmKind}
use Rattle.rtk_obs.specs.declared.any_code.AnyCode.{AnyCode}
use Rattle.rtk_obs.specs.CivilText.{last_digits}
use Rattle.rtk_rinex.specs.MixedHead.{has_glonass}
use Rattle.rtk_setup.specs.Rates.{without_rates}
use Rattle.rtk_setup.specs.Setup.{SetupView, all_of}
use Rattle.rtk_setup.specs.declared.system_kinds.SystemKinds.{SystemKinds}
use Rattle.rtk_survey.specs.declared.survey.CaptureSurvey.{CaptureSurvey}
use Rattle.rtk_captures.specs.ChosenStation.{IsObservedStation, IsOnlyObserved}
use Rattle.rtk_systems.specs.declared.clock_seconds.ClockSeconds.{ClockSeconds}
use Rattle.rtk_rinex.specs.declared.system_flags.SystemFlags.{SystemFlags}
use Rattle.rtk_captures.specs.declared.span_line.DatedSpan.{DatedSpan}
use Rattle.rtk_systems.specs.ClockOffsets.{systems_with_clocks}
use Rattle.rtk_systems.specs.FoundSeconds.{asks_glonass, AreSecondsOfSetup}
use Rattle.rtk_plan.specs.ClockDating.{midway, clock_dating}
use Rattle.rtk_plan.specs.ClockReach.{clocks_taken, has_far_clock}
use Rattle.rtk_plan.specs.Near1012.{ends_after, near_between}
use Rattle.rtk_systems.specs.SlotChannels.{AreSecondsChosen, IsGlonassFound}
use Rattle.rtk_systems.specs.SystemFlags.{flags_listed}
use Rattle.rtk_rinex.specs.SystemFlags.{in_both}
use Rattle.rtk_systems.specs.SystemMsms.{kinds_listed}
use Rattle.rtk_systems.specs.Values.{kinds_in_links, codes_in_captures, is_1012_given}
use Rattle.rtk_systems.specs.declared.values.TakenMessages.{TakenMessages}
use Rattle.rtk_plan.specs.declared.clock_dating.ClockDating.{ClockDating}
use Rattle.rtk_plan.specs.declared.wanted.Wanted.{Wanted}
use Rattle.rtk_captures.specs.Dating.{ArePlaced, IsNearOf, IsSpanOf, captures_of, some_out_of_reach}
use Rattle.rtk_captures.specs.declared.station_capture.StationCapture.{StationCapture}
use Rattle.rtk_survey.specs.declared.placing.Placed.{Placed}

-- the station that is named, if it has observations; else the only one that has
abbrev pub IsChosenStation : List CaptureSurvey → Option ℕ → ℕ → Type 0
IsChosenStation ss None station = IsOnlyObserved ss station
IsChosenStation ss (Some named) station = (station ≡ named) × IsObservedStation ss station

-- the MSM that is named, of all systems; else of each system the one of which the station has most epochs with a
-- value on one of these links
abbrev pub kinds_found : Option MsmKind → List CaptureSurvey → List (List ℕ) → ℕ → SystemKinds
kinds_found None ss links station = kinds_in_links ss links station
kinds_found (Some named) ss links station = all_of named

-- the codes that are named; else all of these systems of which the station has a value in the messages that are taken
abbrev pub codes_chosen : {A : Type 0} → Option (Vec AnyCode A) → List CaptureSurvey → ℕ → SystemFlags → TakenMessages → List AnyCode
codes_chosen None ss station systems taken = codes_in_captures ss station systems taken
codes_chosen (Some named) ss station systems taken = named.items

-- the leap seconds by which clocks are compared that are dated near a moment: those that are given, or else those of the
-- table on the day of each clock
abbrev pub clock_seconds : Option ℕ → ℕ → ClockSeconds
clock_seconds given near = record { given = given; near = near }

-- the systems that are wanted, but for those whose clocks are wrong by these leap seconds
abbrev pub AreSystemsTaken : List CaptureSurvey → ℕ → SystemFlags → Option ℕ → ℕ → SystemFlags → Type 0
AreSystemsTaken ss station wanted seconds near systems = systems ≡ in_both wanted (systems_with_clocks ss station (clock_seconds seconds near))

-- the codes that are named; else those of the systems that are taken
abbrev pub AreCodesChosen : Wanted → List CaptureSurvey → ℕ → Option ℕ → ℕ → TakenMessages → List AnyCode → Type 0
AreCodesChosen w ss station seconds near taken listed =
    (systems : SystemFlags) × AreSystemsTaken ss station w.systems seconds near systems × (listed ≡ codes_chosen w.codes ss station systems taken)

-- the systems that are asked for: those that are wanted; if codes are named those of the codes that are listed
abbrev pub systems_asked : {A : Type 0} → Option (Vec AnyCode A) → SystemFlags → List AnyCode → SystemFlags
systems_asked None wanted listed = wanted
systems_asked (Some named) wanted listed = flags_listed listed

-- formula
-- the marker that is named; else the station's number in four digits
abbrev pub marker_chosen : Option (List ℕ) → ℕ → List ℕ
marker_chosen None station = last_digits 4 station
marker_chosen (Some named) station = named

-- the leap seconds of the setup of a conversion of a station near this moment
abbrev pub AreLeapSecondsOf : List CaptureSurvey → Wanted → ℕ → ℕ → Option ℕ → Type 0
AreLeapSecondsOf ss w station near seconds =
    (span : DatedSpan) × IsSpanOf w.near (captures_of ss station) station span
    × AreSecondsOfSetup w.leap_seconds (asks_glonass w.codes w.systems) ss station near span.from span.until seconds

-- the leap seconds of a setup were found by the clocks of GLONASS: it has some, and none are given
abbrev pub seconds_are_found : Option ℕ → Option ℕ → Bool
seconds_are_found given seconds = is_none given && is_some seconds

-- the leap seconds by which clocks are compared: those of the setup, else those of the table, near the first moment
abbrev pub AreSecondsCompared : Option ℕ → List StationCapture → Option ℕ → ClockSeconds → Type 0
AreSecondsCompared given cs seconds s = (first : ℕ) × IsNearOf given cs first × (s ≡ clock_seconds seconds first)

-- ---- 1012

-- the moment, if a conversion near it dates all epochs of the captures as they are dated here
abbrev pub near_in_reach : List StationCapture → List (Option Placed) → Option ℕ → Option ℕ
near_in_reach cs ps None = None
near_in_reach cs ps (Some near) = if some_out_of_reach near cs ps then None else Some near

-- the moment near which 1012 of captures that are dated so are dated right, if there is one; the first and the last epoch are
-- these
abbrev pub near_with_1012 : List CaptureSurvey → ClockDating → List StationCapture → List (Option Placed) → ℕ → ℕ → Option ℕ
near_with_1012 ss way cs ps from until = near_in_reach cs ps (near_between (ends_after way (record { from = from; until = until }) ss ps))

-- the same of captures that are dated near a moment that is given, or by what they tell; with these leap seconds, else with
-- those of the table at this moment, the first one
abbrev pub IsNear1012 : List CaptureSurvey → Option ℕ → ℕ → Option ℕ → ℕ → Option ℕ → Type 0
IsNear1012 ss given station seconds first near =
    (placed : List (Option Placed)) × ArePlaced given (captures_of ss station) placed
    × ((span : DatedSpan) × IsSpanOf given (captures_of ss station) station span
    × ((n : ℕ) × AreSecondsChosen seconds first n
    × (near ≡ near_with_1012 ss (clock_dating given station n (midway span.from span.until)) (captures_of ss station) placed span.from span.until)))

-- the messages of which a setup takes values
abbrev pub taken_messages : SetupView → TakenMessages
taken_messages s = record { kinds = s.kinds; obs1012 = s.takes_1012 }

-- those of which codes are taken: 1012 too, if there is such a moment
abbrev pub codes_taken_from : SystemKinds → Option ℕ → TakenMessages
codes_taken_from kinds near = record { kinds = kinds; obs1012 = is_some near }

-- 1012 are converted: there is such a moment, a code of GLONASS is listed, and some 1012 of the station has a value
abbrev pub converts_1012 : List CaptureSurvey → ℕ → List AnyCode → Option ℕ → Bool
converts_1012 ss station listed near = is_some near && (has_glonass listed && is_1012_given ss station)

-- the moment near which a conversion dates: with 1012 that one, else the first one
abbrev pub near_chosen : Bool → ℕ → Option ℕ → ℕ
near_chosen is_taken first near = if is_taken then unwrap_or near first else first

-- whether there is such a moment
abbrev pub HasNear1012 : List CaptureSurvey → Option ℕ → ℕ → Option ℕ → Bool → Type 0
HasNear1012 ss given station seconds has =
    (first : ℕ) × IsNearOf given (captures_of ss station) first
    × ((near : Option ℕ) × IsNear1012 ss given station seconds first near × (has ≡ is_some near))

-- ---- clocks that give no epoch

-- whether a conversion of captures, which are dated near a moment that is given or by what they tell, dates a clock of a system
-- that it converts otherwise than it is near the epochs, or in a capture without an epoch by what this names, or in the middle
abbrev pub HaveFarClocks : List CaptureSurvey → Option ℕ → ℕ → SetupView → Bool → Type 0
HaveFarClocks ss given station s has =
    (first : ℕ) × IsNearOf given (captures_of ss station) first
    × ((placed : List (Option Placed)) × ArePlaced given (captures_of ss station) placed
    × ((span : DatedSpan) × IsSpanOf given (captures_of ss station) station span
    × ((n : ℕ) × AreSecondsChosen s.leap_seconds first n
    × (has ≡ has_far_clock (clock_dating given station n (midway span.from span.until)) (clocks_taken s) s.near placed ss))))

-- ---- all of it

-- the setup of a conversion of captures with these surveys on these links, by these words and at this time of
-- making: each value is named or found. The moment of the first epoch dates all but 1012, which may have another one
pub record IsSetupFor (ss : List CaptureSurvey) (links : List (List ℕ)) (w : Wanted) (made : ℕ) (s : SetupView) : Type 0 where
  pub first : ℕ
  pub first_is : IsNearOf w.near (captures_of ss s.station) first
  pub other : Option ℕ
  pub other_is : IsNear1012 ss w.near s.station s.leap_seconds first other
  pub station : IsChosenStation ss w.station s.station
  pub kinds : s.kinds ≡ kinds_listed (kinds_found w.msm ss links s.station) s.head.listed
  pub listed : AreCodesChosen w ss s.station s.leap_seconds first (codes_taken_from (kinds_found w.msm ss links s.station) other) s.head.listed
  pub marker : s.head.marker ≡ marker_chosen w.marker s.station
  pub made_at : s.head.made ≡ made
  pub window : s.window ≡ w.window
  pub glonass : IsGlonassFound ss s.station (record { kinds = kinds_found w.msm ss links s.station; obs1012 = s.takes_1012 }) s.head.listed w.channels s.leap_seconds s.near s.head.glonass
  pub leap_seconds : AreLeapSecondsOf ss w s.station first s.leap_seconds
  pub with_1012 : s.takes_1012 ≡ converts_1012 ss s.station s.head.listed other
  pub near_by : s.near ≡ near_chosen s.takes_1012 first other
  pub doppler : s.head.doppler ≡ w.doppler
  pub rates : without_rates w.doppler (kinds_found w.msm ss links s.station) s.head.listed ≡ None
