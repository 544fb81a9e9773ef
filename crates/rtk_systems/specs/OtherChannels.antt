-- The lines of the slots of GLONASS whose messages tell another channel than the file has (this project's rule). A
-- conversion computes no phase of a satellite whose MSM or 1012 tells another channel than the file has for its slot. A
-- 1020 has no phase, so what it tells costs none.
use Rattle.std.specs.Prelude.{ℕ, ℤ, Bool, false, not, ◌&&◌, nat_lt, List, [], ◌∷◌, ◌++◌, flat_map, codes, Option, None, Some, if◌then◌else◌}
use Rattle.std.specs.List.{list_any}
use Rattle.rtk_survey.specs.SummaryText.{field_channel_text}
use Rattle.rtk_survey.specs.declared.survey.CaptureSurvey.{CaptureSurvey}
use Rattle.rtk_systems.specs.AlikeChannels.{channel_in_slot, is_same_channel}
use Rattle.rtk_systems.specs.ChannelWords.{all_slots, said_channel}
use Rattle.rtk_systems.specs.SeveralChannels.{told_fields, satellite_of_slot, is_field_told}
use Rattle.rtk_systems.specs.SlotChannels.{channel_of_field, is_slot_given, own_count}
use Rattle.rtk_systems.specs.declared.values.TakenMessages.{TakenMessages}

-- an MSM or a 1012 of the station tells a field of a slot
abbrev pub is_own_field : List CaptureSurvey → ℕ → ℕ → ℕ → Bool
is_own_field ss n slot field = nat_lt 0 (own_count ss n slot field)

unfoldable pub is_own_told : List CaptureSurvey → ℕ → ℕ → Bool
is_own_told ss n slot = list_any (is_own_field ss n slot) told_fields

-- constant
-- the field tells this channel, of those that a file can have
abbrev pub is_channel_of_field : Option ℤ → ℕ → Bool
is_channel_of_field channel field = if nat_lt field 14 then is_same_channel (Some (channel_of_field field)) channel else false

abbrev pub is_told_by : List CaptureSurvey → ℕ → List (Option ℤ) → ℕ → Option ℤ → ℕ → Bool
is_told_by ss n own slot channel field = is_field_told ss n own slot field && is_channel_of_field channel field

-- messages tell this channel of a slot
unfoldable pub is_channel_told : List CaptureSurvey → ℕ → List (Option ℤ) → ℕ → Option ℤ → Bool
is_channel_told ss n own slot channel = list_any (is_told_by ss n own slot channel) told_fields

-- MSM or 1012 of the station tell channels of a slot, but no message tells this one
abbrev pub tells_others : List CaptureSurvey → ℕ → List (Option ℤ) → ℕ → Option ℤ → Bool
tells_others ss n own slot channel = is_own_told ss n slot && not (is_channel_told ss n own slot channel)

-- the same of a slot that has a value
abbrev pub is_other_told : List CaptureSurvey → ℕ → TakenMessages → List (Option ℤ) → ℕ → ℤ → Bool
is_other_told ss n taken own slot channel =
    nat_lt slot 28 && (is_slot_given ss n taken slot && tells_others ss n own slot (Some channel))

-- formula
unfoldable pub own_channel : List CaptureSurvey → ℕ → ℕ → ℕ → List ℕ
own_channel ss n slot field = if is_own_field ss n slot field then 32 ∷ field_channel_text field else []

-- formula
-- a slot, and the channel that the file has
unfoldable pub other_head : ℕ → ℤ → List ℕ
other_head slot channel = codes " other-channel" ++ satellite_of_slot slot ++ codes " " ++ said_channel channel

-- formula
-- the channels that MSM and 1012 of the station tell of a slot
unfoldable pub own_channels_words : List CaptureSurvey → ℕ → ℕ → List ℕ
own_channels_words ss n slot = codes ": messages tell" ++ flat_map (own_channel ss n slot) told_fields ++ codes "\n"

abbrev pub other_words : List CaptureSurvey → ℕ → ℕ → ℤ → List ℕ
other_words ss n slot channel = other_head slot channel ++ own_channels_words ss n slot

abbrev pub other_line_of : List CaptureSurvey → ℕ → TakenMessages → List (Option ℤ) → ℕ → Option ℤ → List ℕ
other_line_of ss n taken own slot None = []
other_line_of ss n taken own slot (Some channel) = if is_other_told ss n taken own slot channel then other_words ss n slot channel else []

-- the line of a slot, by the channels that the file has
abbrev pub other_channel_line : List CaptureSurvey → ℕ → TakenMessages → List (Option ℤ) → List (Option ℤ) → ℕ → List ℕ
other_channel_line ss n taken own channels slot = other_line_of ss n taken own slot (channel_in_slot channels slot)

abbrev pub other_channel_lines : List CaptureSurvey → ℕ → TakenMessages → List (Option ℤ) → List (Option ℤ) → List ℕ
other_channel_lines ss n taken own channels = flat_map (other_channel_line ss n taken own channels) all_slots
