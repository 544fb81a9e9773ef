-- The leap seconds by which clocks of GLONASS are dated, if those of the table are not right by them (this project's rule).
use Rattle.std.specs.Prelude.{◌≡◌, ℕ, ◌+◌, ◌-◌, ◌*◌, ◌/◌, ◌%◌, ◌==◌, Bool, true, false, ◌&&◌, nat_le, nat_lt, List, [], ◌∷◌, Option, None, Some, if◌then◌else◌}
use Rattle.std.specs.BTreeMap.{get}
use Rattle.std.specs.List.{list_all}
use Rattle.std.specs.Ordering.{nat_cmp}
use Rattle.std.specs.declared.vec.Vec.{Vec}
use Rattle.rtk_message.specs.Fields.{week_ms}
use Rattle.rtk_message.specs.declared.system.System.TheVariants.{Glonass}
use Rattle.rtk_obs.specs.LeapSeconds.{IsLeapSecondsAt}
use Rattle.rtk_obs.specs.declared.any_code.AnyCode.{AnyCode}
use Rattle.rtk_rinex.specs.MixedHead.{has_glonass}
use Rattle.rtk_survey.specs.declared.clock_chains.ClockOffset.{ClockOffset}
use Rattle.rtk_survey.specs.declared.survey.CaptureSurvey.{CaptureSurvey}
use Rattle.rtk_survey.specs.declared.system_tellings.LeapRange.{LeapRange}
use Rattle.rtk_systems.specs.ClockOffsets.{ahead_in_list, told_among, is_wrong_among, gps_offsets_in_capture, gps_offsets_in_captures}
use Rattle.rtk_systems.specs.declared.clock_seconds.ClockSeconds.{ClockSeconds}
use Rattle.rtk_rinex.specs.declared.system_flags.SystemFlags.{SystemFlags}

-- ---- one capture

-- the leap seconds of the table on the day of each clock
abbrev pub table_seconds : ℕ → ClockSeconds
table_seconds near = record { given = None; near = near }

-- more clocks have an offset than are right
abbrev pub is_frequent : ℕ → ℕ → Option ClockOffset → Bool
is_frequent right ahead None = false
is_frequent right ahead (Some o) = o.ahead_ms == ahead && nat_lt right o.count

-- the clocks of a list are most often ahead of GPS time by this
abbrev pub are_ahead : ℕ → List ClockOffset → Bool
are_ahead ahead os = is_frequent (ahead_in_list 0 os) ahead (told_among os)

-- the same, or none is compared
abbrev pub are_ahead_if_any : ℕ → List ClockOffset → Bool
are_ahead_if_any ahead [] = true
are_ahead_if_any ahead (o ∷ os) = are_ahead ahead (o ∷ os)

abbrev pub is_ahead_in_capture : ℕ → ClockSeconds → ℕ → CaptureSurvey → Bool
is_ahead_in_capture n days ahead s = are_ahead_if_any ahead (gps_offsets_in_capture days n Glonass s)

-- what 1013 tell of leap seconds (DF054), if they do
abbrev pub is_range_alone : ℕ → LeapRange → Bool
is_range_alone seconds r = r.least == seconds && r.greatest == seconds

abbrev pub is_told_alone : ℕ → Option LeapRange → Bool
is_told_alone seconds None = true
is_told_alone seconds (Some r) = is_range_alone seconds r

-- the leap seconds that the 1013 of a station in a capture tell, if they do
abbrev pub leap_in_capture : ℕ → CaptureSurvey → Option LeapRange
leap_in_capture n s = get nat_cmp s.contents.system_tellings.leap_seconds n

abbrev pub agrees_in_capture : ℕ → ℕ → CaptureSurvey → Bool
agrees_in_capture n seconds s = is_told_alone seconds (leap_in_capture n s)

-- ---- all captures

-- clocks of GLONASS are everywhere ahead by this, and no 1013 tells other leap seconds
abbrev pub all_agree : List CaptureSurvey → ℕ → ClockSeconds → ℕ → ℕ → Bool
all_agree ss n days ahead seconds = list_all (is_ahead_in_capture n days ahead) ss && list_all (agrees_in_capture n seconds) ss

-- formula
-- by how much clocks of GLONASS are behind GPS time, if they are ahead by this of where they are with the leap seconds of
-- the table
abbrev pub truly_behind : ℕ → ℕ → ℕ
truly_behind table ahead = (1000 * table + week_ms - ahead) % week_ms

-- constant
-- whole seconds, 0 to 99
abbrev pub whole_seconds : ℕ → Option ℕ
whole_seconds ms = if ms % 1000 == 0 && nat_le ms 99_000 then Some (ms / 1000) else None

-- so many, if all captures agree
abbrev pub agreed_seconds : List CaptureSurvey → ℕ → ClockSeconds → ℕ → Option ℕ → Option ℕ
agreed_seconds ss n days ahead None = None
agreed_seconds ss n days ahead (Some seconds) = if all_agree ss n days ahead seconds then Some seconds else None

abbrev pub seconds_by : List CaptureSurvey → ℕ → ClockSeconds → ℕ → Option ClockOffset → Option ℕ
seconds_by ss n days table None = None
seconds_by ss n days table (Some o) = agreed_seconds ss n days o.ahead_ms (whole_seconds (truly_behind table o.ahead_ms))

-- those of clocks with these offsets, if these are wrong
abbrev pub seconds_if_wrong : List CaptureSurvey → ℕ → ClockSeconds → ℕ → List ClockOffset → Option ℕ
seconds_if_wrong ss n days table all = if is_wrong_among all then seconds_by ss n days table (told_among all) else None

-- the leap seconds by which clocks of GLONASS are right that are wrong by those of the table, if they are wrong by the
-- same whole seconds everywhere
abbrev pub seconds_found : List CaptureSurvey → ℕ → ClockSeconds → ℕ → Option ℕ
seconds_found ss n days table = seconds_if_wrong ss n days table (gps_offsets_in_captures days ss n Glonass)

-- ---- the leap seconds of a setup

-- GLONASS is asked for
abbrev pub asks_glonass : {A : Type 0} → Option (Vec AnyCode A) → SystemFlags → Bool
asks_glonass None wanted = wanted.glonass
asks_glonass (Some named) wanted = has_glonass named.items

-- they are found only if GLONASS is asked for and no row of the table lies between the first and the last epoch
abbrev pub seconds_found_if : Bool → List CaptureSurvey → ℕ → ClockSeconds → ℕ → ℕ → ℕ → Option ℕ
seconds_found_if asked ss n days table first last = if asked && first == last then seconds_found ss n days table else None

-- with the leap seconds of the table at the moment near which captures are dated, and at the first and the last epoch
abbrev pub AreSecondsFound : Bool → List CaptureSurvey → ℕ → ℕ → ℕ → ℕ → Option ℕ → Type 0
AreSecondsFound asked ss n near from until found =
    (table : ℕ) × IsLeapSecondsAt near table × ((first : ℕ) × IsLeapSecondsAt from first × ((last : ℕ) × IsLeapSecondsAt until last
    × (found ≡ seconds_found_if asked ss n (table_seconds near) table first last)))

-- those that are given; else those that are found
abbrev pub AreSecondsOfSetup : Option ℕ → Bool → List CaptureSurvey → ℕ → ℕ → ℕ → ℕ → Option ℕ → Type 0
AreSecondsOfSetup None asked ss n near from until seconds = AreSecondsFound asked ss n near from until seconds
AreSecondsOfSetup (Some given) asked ss n near from until seconds = seconds ≡ Some given
