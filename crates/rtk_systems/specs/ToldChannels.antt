-- The lines of what messages tell of channels of GLONASS: one channel of many slots, several of one slot, none, and another
-- one than the file has (this project's rule).
use Rattle.std.specs.Prelude.{ℕ, ℤ, nat_lt, List, [], ◌∷◌, ◌++◌, flat_map, codes, Option, None, Some, if◌then◌else◌}
use Rattle.rtk_rinex.specs.MixedHead.{GlonassView}
use Rattle.rtk_survey.specs.declared.survey.CaptureSurvey.{CaptureSurvey}
use Rattle.rtk_systems.specs.AlikeChannels.{channel_in_slot, constellation_slots, is_same_channel, slots_with_channel, are_too_many}
use Rattle.rtk_systems.specs.ChannelWords.{said_channel, no_channel_line}
use Rattle.rtk_systems.specs.OtherChannels.{other_channel_lines}
use Rattle.rtk_systems.specs.SeveralChannels.{satellite_of_slot, several_lines}
use Rattle.rtk_systems.specs.SlotChannels.{channel_of_field}
use Rattle.rtk_systems.specs.declared.values.TakenMessages.{TakenMessages}

-- table
-- the fields that tell a channel that a file can have
abbrev pub channel_fields : List ℕ
channel_fields = 0 ∷ 1 ∷ 2 ∷ 3 ∷ 4 ∷ 5 ∷ 6 ∷ 7 ∷ 8 ∷ 9 ∷ 10 ∷ 11 ∷ 12 ∷ 13 ∷ []

-- ---- one channel of many slots

-- formula
abbrev pub alike_name : List (Option ℤ) → Option ℤ → ℕ → List ℕ
alike_name own channel slot = if is_same_channel (channel_in_slot own slot) channel then satellite_of_slot slot else []

-- formula
-- a channel, and the slots of the constellation that have it
unfoldable pub alike_words : List (Option ℤ) → ℤ → List ℕ
alike_words own channel =
    codes " channels-alike " ++ said_channel channel ++ flat_map (alike_name own (Some channel)) constellation_slots ++ codes "\n"

-- the same, if they are more than may share it
abbrev pub alike_line : List (Option ℤ) → ℤ → List ℕ
alike_line own channel = if are_too_many (slots_with_channel own (Some channel)) then alike_words own channel else []

unfoldable pub alike_line_of : List (Option ℤ) → ℕ → List ℕ
alike_line_of own field = if nat_lt field 14 then alike_line own (channel_of_field field) else []

abbrev pub alike_lines : List (Option ℤ) → List ℕ
alike_lines own = flat_map (alike_line_of own) channel_fields

-- ---- all of them

-- what messages tell of channels, the slots without one, and those that the file has otherwise, if this is told of GLONASS
abbrev pub told_channel_lines : List CaptureSurvey → ℕ → TakenMessages → List (Option ℤ) → Option GlonassView → List ℕ
told_channel_lines ss n taken own None = []
told_channel_lines ss n taken own (Some g) =
    alike_lines own ++ several_lines ss n taken own ++ no_channel_line ss n taken g.channels ++ other_channel_lines ss n taken own g.channels
