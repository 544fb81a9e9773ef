-- What 1042, 1045, 1046, 1020 and 1013 tell of a capture. Lists of frames and messages are newest first.
use Rattle.std.specs.Prelude.{◌≡◌, ℕ, ◌==◌, Bool, List, [], ◌∷◌, min, max, Option, None, Some, Result, Ok, Err, if◌then◌else◌}
use Rattle.std.specs.BTreeMap.{BTreeMap, get}
use Rattle.std.specs.List.{filter_map}
use Rattle.std.specs.Ordering.{nat_cmp}
use Rattle.rtk_bits.specs.Bits.{bits}
use Rattle.rtk_message.specs.declared.any_message.AnyMessage.{AnyMessage}
use Rattle.rtk_message.specs.declared.any_fault.AnyFault.{AnyFault}
use Rattle.rtk_survey.specs.Channels.{is_field}
use Rattle.rtk_survey.specs.ReadFrames.{ReadFrame}
use Rattle.rtk_survey.specs.SystemMessages.{system_message_in}
use Rattle.rtk_survey.specs.declared.system_message.LeapSeconds.{LeapSeconds}
use Rattle.rtk_survey.specs.declared.system_message.SystemMessage.{SystemMessage}
use Rattle.rtk_survey.specs.declared.system_message.SystemMessage.TheVariants.{Week, Slot, Leap}
use Rattle.rtk_survey.specs.declared.system_tellings.LeapRange.{LeapRange}

-- a frame tells such things if it is no message that is read
abbrev pub system_message_of_reading : List ℕ → Result AnyMessage AnyFault → Option SystemMessage
system_message_of_reading payload (Ok m) = None
system_message_of_reading payload (Err fault) = system_message_in (bits payload)

abbrev pub system_message_of_frame : ReadFrame → Option SystemMessage
system_message_of_frame f = system_message_of_reading f.payload f.reading

-- what the frames tell
abbrev pub system_messages_in : List ReadFrame → List SystemMessage
system_messages_in fs = filter_map system_message_of_frame fs

-- ---- weeks

-- the week that a message of this number names
abbrev pub system_week_of : ℕ → SystemMessage → Option ℕ
system_week_of number (Week w) = if w.number == number then Some w.week else None
system_week_of number (Slot s) = None
system_week_of number (Leap l) = None

-- a message of this number names this week
abbrev pub names_week : ℕ → ℕ → SystemMessage → Bool
names_week number week m = is_field (system_week_of number m) week

-- ---- leap seconds

abbrev pub leap_in : SystemMessage → Option LeapSeconds
leap_in (Week w) = None
leap_in (Slot s) = None
leap_in (Leap l) = Some l

abbrev pub widened : LeapRange → ℕ → LeapRange
widened r seconds = record { least = min r.least seconds; greatest = max r.greatest seconds }

abbrev pub leap_with : Option LeapRange → ℕ → LeapRange
leap_with None seconds = record { least = seconds; greatest = seconds }
leap_with (Some r) seconds = widened r seconds

abbrev pub leap_with_if : ℕ → Option LeapRange → Option LeapSeconds → Option LeapRange
leap_with_if station known None = known
leap_with_if station known (Some l) = if l.station == station then Some (leap_with known l.seconds) else known

-- the least and the most leap seconds that messages tell of a station
abbrev pub leap_range : ℕ → List SystemMessage → Option LeapRange
leap_range station [] = None
leap_range station (m ∷ before) = leap_with_if station (leap_range station before) (leap_in m)

abbrev pub HasLeapRanges : BTreeMap ℕ LeapRange → List SystemMessage → Type 0
HasLeapRanges ranges ts = (station : ℕ) → get nat_cmp ranges station ≡ leap_range station ts
