-- The messages that tell a week of Galileo or BeiDou (1042, 1045, 1046), a channel of GLONASS (1020) or leap seconds
-- (1013), by the places of their fields (RTCM 10403.3). The first bit of a payload has the place 0.
use Rattle.std.specs.Prelude.{ℕ, ◌==◌, Bool, List, length, Option, None, Some, nat_lt, if◌then◌else◌}
use Rattle.rtk_survey.specs.DateMessages.{unsigned_at, size_of_1013, beidou_week_at, galileo_week_at}
use Rattle.rtk_survey.specs.declared.system_message.LeapSeconds.{LeapSeconds}
use Rattle.rtk_survey.specs.declared.system_message.SlotChannel.{SlotChannel}
use Rattle.rtk_survey.specs.declared.system_message.SystemMessage.{SystemMessage}
use Rattle.rtk_survey.specs.declared.system_message.SystemMessage.TheVariants.{Week, Slot, Leap}

-- formula
-- what a 1020 tells: DF038 and DF040, which is 7 more than the channel
abbrev pub slot_channel_at : List Bool → SlotChannel
slot_channel_at bs = record { slot = unsigned_at 12 6 bs; field = unsigned_at 18 5 bs }

-- formula
-- what a 1013 tells: DF003 and DF054
abbrev pub leap_seconds_at : List Bool → LeapSeconds
leap_seconds_at bs = record { station = unsigned_at 12 12 bs; seconds = unsigned_at 62 8 bs }

-- a message that is cut short tells nothing
abbrev pub if_long : ℕ → List Bool → SystemMessage → Option SystemMessage
if_long size bs message = if nat_lt (length bs) size then None else Some message

-- constant
-- nor does a 1013 whose leap seconds are not given: 255
abbrev pub leap_if_given : LeapSeconds → Option SystemMessage
leap_if_given l = if l.seconds == 255 then None else Some (Leap l)

abbrev pub leap_if_long : List Bool → Option SystemMessage
leap_if_long bs = if nat_lt (length bs) (size_of_1013 bs) then None else leap_if_given (leap_seconds_at bs)

-- formula
-- what the message of this number tells with which the bits begin
abbrev pub system_message_numbered : ℕ → List Bool → Option SystemMessage
system_message_numbered number bs =
    if number == 1042 then if_long 511 bs (Week (beidou_week_at bs)) else
    if number == 1045 then if_long 496 bs (Week (galileo_week_at 1045 bs)) else
    if number == 1046 then if_long 504 bs (Week (galileo_week_at 1046 bs)) else
    if number == 1020 then if_long 360 bs (Slot (slot_channel_at bs)) else
    if number == 1013 then leap_if_long bs else None

-- what the bits tell, if they begin with such a message; its number is DF002
abbrev pub system_message_in : List Bool → Option SystemMessage
system_message_in bs = if nat_lt (length bs) 12 then None else system_message_numbered (unsigned_at 0 12 bs) bs
