-- Channels that more than two slots of GLONASS have (this project's rule).
use Rattle.std.specs.Prelude.{ℕ, ℤ, Bool, false, ◌&&◌, nat_le, nat_lt, List, [], ◌∷◌, Option, None, Some, if◌then◌else◌}
use Rattle.std.specs.List.{sum_by}
use Rattle.std.specs.Ordering.{int_eq}
use Rattle.rtk_obs.specs.Carriers.{channel_at}
use Rattle.rtk_survey.specs.Counting.{shown_count}

abbrev pub channel_in_slot : List (Option ℤ) → ℕ → Option ℤ
channel_in_slot channels slot = if nat_le 1 slot && nat_le slot 27 then channel_at channels slot else None

-- table
-- the slots of the constellation
abbrev pub constellation_slots : List ℕ
constellation_slots = 1 ∷ 2 ∷ 3 ∷ 4 ∷ 5 ∷ 6 ∷ 7 ∷ 8 ∷ 9 ∷ 10 ∷ 11 ∷ 12 ∷ 13 ∷ 14 ∷ 15 ∷ 16 ∷ 17 ∷ 18 ∷ 19 ∷ 20 ∷ 21 ∷ 22 ∷ 23 ∷ 24 ∷ []

abbrev pub is_same_channel : Option ℤ → Option ℤ → Bool
is_same_channel None other = false
is_same_channel (Some k) None = false
is_same_channel (Some k) (Some l) = int_eq k l

-- 1 if a slot has this channel
abbrev pub count_if_same : List (Option ℤ) → Option ℤ → ℕ → ℕ
count_if_same channels channel slot = if is_same_channel (channel_in_slot channels slot) channel then 1 else 0

-- how many slots of the constellation have a channel
abbrev pub slots_with_channel : List (Option ℤ) → Option ℤ → ℕ
slots_with_channel channels channel = shown_count (sum_by (count_if_same channels channel) constellation_slots)

-- constant
-- two satellites that stand opposite each other may share a channel, and no more
-- Source: ICD GLONASS, L1 and L2, 3.3.1.1
abbrev pub are_too_many : ℕ → Bool
are_too_many count = nat_lt 2 count

-- more slots than may share a channel have that of this one
abbrev pub is_alike : List (Option ℤ) → ℕ → Bool
is_alike channels slot = nat_le slot 24 && are_too_many (slots_with_channel channels (channel_in_slot channels slot))
