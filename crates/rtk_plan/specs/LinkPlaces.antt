-- The places of captures among links (this project's rule). A capture has its place by its epochs, and one without an epoch by
-- its clocks of GLONASS and BeiDou.
use Rattle.std.specs.Prelude.{◌≡◌, ℕ, ◌+◌, Bool, true, false, List, [], ◌∷◌, slice_get, Option, None, Some}
use Rattle.rtk_survey.specs.declared.clock_spans.FollowedClock.TheVariants.{GlonassWeek, BeidouWeek, GlonassDay}
use Rattle.rtk_survey.specs.declared.placing.Placed.{Placed}
use Rattle.rtk_survey.specs.declared.survey.CaptureSurvey.{CaptureSurvey}
use Rattle.rtk_systems.specs.SlotChannels.{AreSecondsChosen}
use Rattle.rtk_captures.specs.Dating.{ArePlaced, IsNearOf, IsSpanOf, captures_of}
use Rattle.rtk_captures.specs.Linking.{links_found, links_as_given}
use Rattle.rtk_captures.specs.Reach.{reach_with}
use Rattle.rtk_captures.specs.declared.span_line.DatedSpan.{DatedSpan}
use Rattle.rtk_plan.specs.ClockDating.{midway, clock_dating}
use Rattle.rtk_plan.specs.ClockReach.{clock_placed, placed_or_none}
use Rattle.rtk_plan.specs.declared.clock_dating.ClockDating.{ClockDating}

-- the first and the last message of a capture without an epoch
abbrev pub place_of_clocks : ClockDating → CaptureSurvey → Option Placed
place_of_clocks way s =
    reach_with (reach_with (clock_placed way GlonassWeek s None) (clock_placed way BeidouWeek s None)) (clock_placed way GlonassDay s None)

abbrev pub place_among_links : ClockDating → CaptureSurvey → Option Placed → Option Placed
place_among_links way s None = place_of_clocks way s
place_among_links way s (Some p) = Some p

-- the same of captures, of which the first has these epochs
abbrev pub places_among_links : ClockDating → List (Option Placed) → ℕ → List CaptureSurvey → List (Option Placed)
places_among_links way ps at [] = []
places_among_links way ps at (s ∷ ss) = place_among_links way s (placed_or_none (slice_get ps at)) ∷ places_among_links way ps (at + 1) ss

-- the links of captures of a station that are dated near this moment, or by what they tell; clocks of GLONASS take the leap
-- seconds of the table here. Or each capture is a link
abbrev pub AreLinksOf : Bool → Option ℕ → List CaptureSurvey → ℕ → List (List ℕ) → Type 0
AreLinksOf true given ss station links = links ≡ links_as_given (captures_of ss station)
AreLinksOf false given ss station links =
    (placed : List (Option Placed)) × ArePlaced given (captures_of ss station) placed
    × ((span : DatedSpan) × IsSpanOf given (captures_of ss station) station span
    × ((first : ℕ) × IsNearOf given (captures_of ss station) first
    × ((n : ℕ) × AreSecondsChosen None first n
    × (links ≡ links_found (captures_of ss station) (places_among_links (clock_dating given station n (midway span.from span.until)) placed 0 ss)))))
