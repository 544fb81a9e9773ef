-- The option that names the channels of GLONASS, and the line of slots that have none (this project's rule).
use Rattle.std.specs.Prelude.{ℕ, ℤ, Bool, not, ◌&&◌, nat_lt, unsigned_abs, List, [], ◌∷◌, ◌++◌, flat_map, codes, decimal, Option, None, Some, is_some, if◌then◌else◌}
use Rattle.std.specs.Fmt.{sign_text}
use Rattle.std.specs.Int.{is_negative}
use Rattle.std.specs.List.{list_any}
use Rattle.rtk_obs.specs.CivilText.{last_digits}
use Rattle.rtk_rinex.specs.MixedHead.{GlonassView}
use Rattle.rtk_survey.specs.declared.survey.CaptureSurvey.{CaptureSurvey}
use Rattle.rtk_systems.specs.AlikeChannels.{channel_in_slot}
use Rattle.rtk_systems.specs.SlotChannels.{is_slot_given}
use Rattle.rtk_systems.specs.declared.values.TakenMessages.{TakenMessages}

-- table
-- the slots of GLONASS
abbrev pub all_slots : List ℕ
all_slots = 1 ∷ 2 ∷ 3 ∷ 4 ∷ 5 ∷ 6 ∷ 7 ∷ 8 ∷ 9 ∷ 10 ∷ 11 ∷ 12 ∷ 13 ∷ 14 ∷ 15 ∷ 16 ∷ 17 ∷ 18 ∷ 19 ∷ 20 ∷ 21 ∷ 22 ∷ 23 ∷ 24 ∷ 25 ∷ 26 ∷ 27 ∷ []

-- ---- the option

-- formula
abbrev pub said_channel : ℤ → List ℕ
said_channel k = sign_text (is_negative k) ++ decimal (unsigned_abs k)

-- formula
-- a slot and its channel, as 9:-6, behind a separator
abbrev pub said_slot : ℕ → ℕ → Option ℤ → List ℕ
said_slot separator slot None = []
said_slot separator slot (Some k) = separator ∷ decimal slot ++ 58 ∷ said_channel k

-- a comma separates an entry from those before it
abbrev pub separator_after : ℕ → Option ℤ → ℕ
separator_after separator None = separator
separator_after separator (Some k) = 44

-- the slots that have a channel, the first after this separator and each other one after a comma
abbrev pub said_slots : ℕ → List (Option ℤ) → List ℕ → List ℕ
said_slots separator channels [] = []
said_slots separator channels (slot ∷ slots) =
    said_slot separator slot (channel_in_slot channels slot)
    ++ said_slots (separator_after separator (channel_in_slot channels slot)) channels slots

abbrev pub slot_has_channel : List (Option ℤ) → ℕ → Bool
slot_has_channel channels slot = is_some (channel_in_slot channels slot)

abbrev pub have_channel : List (Option ℤ) → Bool
have_channel channels = list_any (slot_has_channel channels) all_slots

-- formula
-- the slots that have a channel, or that none has one
abbrev pub said_channels : List (Option ℤ) → List ℕ
said_channels channels = if have_channel channels then said_slots 32 channels all_slots else codes " none"

-- formula
abbrev pub channels_option : List (Option ℤ) → List ℕ
channels_option channels = codes " --channels" ++ said_channels channels

-- the option of what a file tells of GLONASS
abbrev pub glonass_words : Option GlonassView → List ℕ
glonass_words None = []
glonass_words (Some g) = channels_option g.channels

-- ---- slots without a channel

-- a slot has a value, and no channel
abbrev pub lacks_channel : List CaptureSurvey → ℕ → TakenMessages → List (Option ℤ) → ℕ → Bool
lacks_channel ss n taken channels slot = nat_lt slot 28 && (is_slot_given ss n taken slot && not (slot_has_channel channels slot))

abbrev pub have_none : List CaptureSurvey → ℕ → TakenMessages → List (Option ℤ) → Bool
have_none ss n taken channels = list_any (lacks_channel ss n taken channels) all_slots

-- formula
-- the satellite of such a slot, as in R09
abbrev pub lacking_name : List CaptureSurvey → ℕ → TakenMessages → List (Option ℤ) → ℕ → List ℕ
lacking_name ss n taken channels slot = if lacks_channel ss n taken channels slot then codes " R" ++ last_digits 2 slot else []

-- formula
-- the satellites of the slots that have a value and no channel
unfoldable pub no_channel_words : List CaptureSurvey → ℕ → TakenMessages → List (Option ℤ) → List ℕ
no_channel_words ss n taken channels =
    codes " no-channel" ++ flat_map (lacking_name ss n taken channels) all_slots
    ++ codes ": give --channels, as a header's GLONASS SLOT / FRQ # of the same days has them\n"

abbrev pub no_channel_line : List CaptureSurvey → ℕ → TakenMessages → List (Option ℤ) → List ℕ
no_channel_line ss n taken channels = if have_none ss n taken channels then no_channel_words ss n taken channels else []
