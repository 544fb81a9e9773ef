-- Laws of the dates of captures.
use Rattle.std.specs.Prelude.{◌≡◌, ◌⊎◌}
use Rattle.rtk_survey.specs.CaptureDates.{counting}
use Rattle.rtk_survey.specs.declared.tellings.Tellings.{Tellings}
use Rattle.rtk_captures.specs.StationCaptures.{weeks_passed_over, others_passed_over, system_weeks_passed_over}

-- the first epochs of ephemerides of GPS, of other stations, and of ephemerides of other systems: of each of these they count, or
-- are passed over
abbrev pub DatesCountOrAreTold : Type 0
DatesCountOrAreTold = (t : Tellings)
    → ((counting t ≡ t.weeks.items) ⊎ (weeks_passed_over t ≡ t.weeks.items))
    × ((counting t ≡ t.others.items) ⊎ (others_passed_over t ≡ t.others.items))
    × ((counting t ≡ t.system_weeks.items) ⊎ (system_weeks_passed_over t ≡ t.system_weeks.items))
