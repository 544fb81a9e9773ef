-- The channels of GLONASS on which the phases of a message are counted (this project's rule).
use Rattle.std.specs.Prelude.{ℕ, ℤ, pos, ◌-ℤ◌, List, map, nat_lt, Option, None, Some, if◌then◌else◌}
use Rattle.std.specs.List.{range_with_len}
use Rattle.rtk_message.specs.declared.any_message.AnyMessage.{AnyMessage}
use Rattle.rtk_survey.specs.Channels.{field_told}

-- constant
-- the field of the channel on which phases of a slot are counted, 7 more than the channel: that of the message, if it
-- tells a channel from -7 to +6, or else that of channel 0
abbrev pub phase_field : Option ℕ → ℕ
phase_field None = 7
phase_field (Some field) = if nat_lt field 14 then field else 7

-- formula
-- whether a message gives a phase of GLONASS does not depend on the channel, which the capture need not tell: so each
-- slot has one here
abbrev pub phase_channel : AnyMessage → ℕ → Option ℤ
phase_channel m slot = Some (pos (phase_field (field_told m slot)) -ℤ pos 7)

abbrev pub phase_channels : AnyMessage → List (Option ℤ)
phase_channels m = map (phase_channel m) (range_with_len 1 27)
