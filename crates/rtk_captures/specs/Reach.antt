-- The dates of captures that were read (this project's rule).
use Rattle.std.specs.Prelude.{ℕ, ◌-◌, ◌%◌, Bool, true, false, ◌||◌, not, nat_le, min, max, List, [], ◌∷◌, Option, None, Some, if◌then◌else◌}
use Rattle.rtk_obs.specs.declared.time.TheConstants.{LAST_MS}
use Rattle.rtk_survey.specs.Placing.{least_with_if_any, placed, is_dated_near}
use Rattle.rtk_survey.specs.declared.date_message.DateMessage.{DateMessage}
use Rattle.rtk_survey.specs.declared.date_message.DateMessage.TheVariants.{Utc, Ephemeris, OtherEphemeris}
use Rattle.rtk_survey.specs.declared.placing.Placed.{Placed}
use Rattle.rtk_survey.specs.declared.span.Span.{Span}
use Rattle.rtk_survey.specs.declared.tellings.Told.{Told}
use Rattle.rtk_captures.specs.declared.station_capture.StationCapture.{StationCapture}
use Rattle.rtk_captures.specs.declared.reach.Base.{Base}
use Rattle.rtk_captures.specs.declared.reach.Base.TheVariants.{Given, Told as ByCaptures}
use Rattle.rtk_captures.specs.declared.reach.NamedBy.{NamedBy}
use Rattle.rtk_captures.specs.declared.reach.NamedBy.TheVariants.{Own, Week, Day, Any}

-- ---- the first epochs that are told

abbrev pub moment_told : Option Told → Option ℕ
moment_told None = None
moment_told (Some t) = if nat_le t.first LAST_MS then Some t.first else None

-- the least first epoch that captures tell, if one does
abbrev pub least_of_captures : Option ℕ → List StationCapture → Option ℕ
least_of_captures least [] = least
least_of_captures least (c ∷ cs) = least_of_captures (least_with_if_any least (moment_told c.told)) cs

-- ---- the moments that captures without an epoch name

-- a message tells a week that means several: it is a 1019
abbrev pub has_week : DateMessage → Bool
has_week (Utc date) = false
has_week (Ephemeris date) = true
has_week (OtherEphemeris date) = false

-- a message tells a day: it is a 1013 or a 1029
abbrev pub has_day : DateMessage → Bool
has_day (Utc date) = true
has_day (Ephemeris date) = false
has_day (OtherEphemeris date) = false

abbrev pub is_named_by_week : Option Told → Bool
is_named_by_week None = false
is_named_by_week (Some t) = has_week t.message

abbrev pub is_named_by_day : Option Told → Bool
is_named_by_day None = false
is_named_by_day (Some t) = has_day t.message

abbrev pub moment_if : Bool → Option Told → Option Told
moment_if counts moment = if counts then moment else None

-- the moment of a capture, if messages of the station name it, if a 1019 does, if a 1013 or 1029 does, or by whatever
-- message
abbrev pub moment_named : NamedBy → StationCapture → Option Told
moment_named Own c = moment_if c.is_moment_of_station c.moment
moment_named Week c = moment_if (is_named_by_week c.moment) c.moment
moment_named Day c = moment_if (is_named_by_day c.moment) c.moment
moment_named Any c = c.moment

-- the least moment that captures name by such messages, if one does
abbrev pub least_of_moments : NamedBy → Option ℕ → List StationCapture → Option ℕ
least_of_moments named least [] = least
least_of_moments named least (c ∷ cs) = least_of_moments named (least_with_if_any least (moment_told (moment_named named c))) cs

abbrev pub or_moment : Option ℕ → Option ℕ → Option ℕ
or_moment None other = other
or_moment (Some first) other = Some first

-- the least moment that messages of the station name; if they name none, the least one by 1019; if none, the least one by
-- messages of other stations; and else the least one by 1042, 1045 and 1046
abbrev pub least_moment : List StationCapture → Option ℕ
least_moment cs =
    or_moment (least_of_moments Own None cs)
    (or_moment (least_of_moments Week None cs) (or_moment (least_of_moments Day None cs) (least_of_moments Any None cs)))

-- the least first epoch that captures tell; if none tells one, the least moment that counts
abbrev pub least_told : List StationCapture → Option ℕ
least_told cs = or_moment (least_of_captures None cs) (least_moment cs)

-- ---- the epochs with their dates

abbrev pub base_moment : Base → ℕ
base_moment (Given near) = near
base_moment (ByCaptures least) = least

-- what a capture tells does not count if the moment is given
abbrev pub told_by : Base → Option Told → Option ℕ
told_by (Given near) told = None
told_by (ByCaptures least) told = moment_told told

abbrev pub placed_with : Base → Option Told → Option Span → Option Placed
placed_with base told None = None
placed_with base told (Some span) = Some (placed (base_moment base) (record { told = told_by base told; span = span }))

-- the epochs of a capture with their dates, if it has one
abbrev pub placed_if_any : Base → StationCapture → Option Placed
placed_if_any base c = placed_with base c.told c.span

-- ---- all of them

abbrev pub joined_reach : Placed → Placed → Placed
joined_reach a b = record { first = min a.first b.first; from = min a.from b.from; until = max a.until b.until }

abbrev pub reach_with : Option Placed → Option Placed → Option Placed
reach_with reach None = reach
reach_with None (Some p) = Some p
reach_with (Some r) (Some p) = Some (joined_reach r p)

-- the least first epoch, the least and the greatest epoch of captures, if one has an epoch
abbrev pub reach_after : Option Placed → List (Option Placed) → Option Placed
reach_after reach [] = reach
reach_after reach (p ∷ ps) = reach_after (reach_with reach p) ps

-- formula
-- the whole second
abbrev pub second_of : ℕ → ℕ
second_of t = t - t % 1000

abbrev pub is_wide_if_any : Option Span → Bool
is_wide_if_any None = false
is_wide_if_any (Some s) = s.is_wide

abbrev pub is_far_if_any : ℕ → Option Placed → Bool
is_far_if_any near None = false
is_far_if_any near (Some p) = not (is_dated_near near p)

-- a conversion near this moment would date an epoch of the capture otherwise
abbrev pub is_out_of_reach : ℕ → StationCapture → Option Placed → Bool
is_out_of_reach near c p = is_wide_if_any c.span || is_far_if_any near p
