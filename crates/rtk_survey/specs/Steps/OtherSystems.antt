-- What is held of other systems than GPS for the command of a station.
use Rattle.std.specs.Prelude.{ℕ, ◌+◌, Bool, false, ◌&&◌, ◌||◌, get_or, List, Option, None, Some}
use Rattle.std.specs.BTreeMap.{get}
use Rattle.std.specs.Ordering.{nat_cmp}
use Rattle.rtk_message.specs.declared.system.System.TheVariants.{Glonass}
use Rattle.rtk_obs.specs.declared.any_code.AnyCode.{AnyCode}
use Rattle.rtk_obs.specs.AnyCode.{number_of}
use Rattle.rtk_obs.specs.Code.{place_of}
use Rattle.rtk_survey.specs.BitMarks.{is_marked_in}
use Rattle.rtk_survey.specs.Chains.{clocks_at}
use Rattle.rtk_survey.specs.Channels.{count_of_field}
use Rattle.rtk_survey.specs.NextCommand.{number_by, with_own_sbas, next_takes_1012, other_taken, slot_items, glonass_options}
use Rattle.rtk_survey.specs.Steps.Tables.{system_epochs_held}
use Rattle.rtk_survey.specs.UncheckedClocks.{systems_sent}
use Rattle.rtk_survey.specs.declared.date_message.UtcDate.{UtcDate}
use Rattle.rtk_survey.specs.declared.station.StationSurvey.{StationSurvey}
use Rattle.rtk_survey.specs.declared.system_msm.SystemMsm.{SystemMsm}
use Rattle.rtk_survey.specs.declared.systems_sent.SystemsSent.{SystemsSent}

-- a code has a value in the messages of a number
abbrev pub code_in_part : Option SystemMsm → AnyCode → Bool
code_in_part None c = false
code_in_part (Some p) c = is_marked_in p.signals.codes.words (number_of c)

abbrev pub codes_held_by : StationSurvey → ℕ → AnyCode → Bool
codes_held_by s n c = code_in_part (get nat_cmp s.system_msm n) c

-- the satellite of a slot has; those of GPS stand before it
abbrev pub slot_in_part : Option SystemMsm → ℕ → Bool
slot_in_part None slot = false
slot_in_part (Some p) slot = is_marked_in p.signals.satellites.words (32 + slot)

abbrev pub slot_held : StationSurvey → ℕ → ℕ → Bool
slot_held s slot n = slot_in_part (get nat_cmp s.system_msm n) slot

-- the command takes 1012
abbrev pub legacy_held : Option UtcDate → StationSurvey → Bool
legacy_held date s = next_takes_1012 date s.times.first s.times.last (system_epochs_held s)

-- in the MSM of GLONASS that the command takes, or in 1012 if it takes them
abbrev pub slots_held : Bool → StationSurvey → ℕ → Bool
slots_held legacy s slot = slot_held s slot (number_by (system_epochs_held s) Glonass) || (legacy && slot_held s slot 1012)

-- how many messages tell a field of a slot
abbrev pub fields_held : StationSurvey → ℕ → ℕ → ℕ
fields_held s slot field = count_of_field s.channels slot field

-- the codes that the command takes
abbrev pub taken_held : Option UtcDate → StationSurvey → AnyCode → Bool
taken_held date s = other_taken date (clocks_at s.clocks).offsets (system_epochs_held s) (codes_held_by s) (legacy_held date s)

-- the systems whose messages have clocks
abbrev pub clocked_held : StationSurvey → SystemsSent
clocked_held s =
    with_own_sbas (system_epochs_held s)
    (systems_sent (λ c. get_or s.signals.codes.marks (place_of c) false) (λ c. is_marked_in s.system_signals.codes.words (number_of c)))

-- the options of GLONASS
abbrev pub glonass_held : Option UtcDate → StationSurvey → List ℕ
glonass_held date s = glonass_options (slot_items (slots_held (legacy_held date s) s) (fields_held s)) (legacy_held date s)
