-- The frequencies of carriers, and the frequency channels of GLONASS.
-- Source: RINEX 3.05, Tables 4 to 10
use Rattle.std.specs.Prelude.{ℕ, ◌-◌, ◌≤◌, ℤ, pos, negsuc, ◌+ℤ◌, ◌*ℤ◌, ◌≤ℤ◌, List, length, Option, Some, None, IfSome, slice_index_or, unsigned_abs, ◌≡◌}
use Rattle.rtk_obs.specs.declared.carrier.Carrier.{Carrier}
use Rattle.rtk_obs.specs.declared.carrier.Carrier.TheVariants.{L1, L2, L5, G1, G2, B1, B3, E6, E5b, E5}

-- constant
-- a frequency channel of GLONASS: -7 to 6
abbrev pub IsChannel : ℤ → Type 0
IsChannel k = (negsuc 6 ≤ℤ k) × (k ≤ℤ pos 6)

-- formula
-- a frequency, in Hz, that is this many Hz greater from each channel to the next, if the channel is known
abbrev pub channel_frequency : ℤ → ℤ → Option ℤ → Option ℕ
channel_frequency middle step None = None
channel_frequency middle step (Some k) = Some (unsigned_abs (middle +ℤ step *ℤ k))

-- table
-- the frequency of a carrier in Hz, if it is known: those of GLONASS depend on the channel
abbrev pub frequency_at : Carrier → Option ℤ → Option ℕ
frequency_at L1 k = Some 1_575_420_000
frequency_at L2 k = Some 1_227_600_000
frequency_at L5 k = Some 1_176_450_000
frequency_at G1 k = channel_frequency (pos 1_602_000_000) (pos 562_500) k
frequency_at G2 k = channel_frequency (pos 1_246_000_000) (pos 437_500) k
frequency_at B1 k = Some 1_561_098_000
frequency_at B3 k = Some 1_268_520_000
frequency_at E6 k = Some 1_278_750_000
frequency_at E5b k = Some 1_207_140_000
frequency_at E5 k = Some 1_191_795_000

-- table
-- the frequency in Hz by which the rolls of a carrier are counted: that of GLONASS is the one of channel 0, since a channel
-- changes the change of a roll by at most 0.25% (this project's rule)
abbrev pub roll_frequency : Carrier → ℕ
roll_frequency L1 = 1_575_420_000
roll_frequency L2 = 1_227_600_000
roll_frequency L5 = 1_176_450_000
roll_frequency G1 = 1_602_000_000
roll_frequency G2 = 1_246_000_000
roll_frequency B1 = 1_561_098_000
roll_frequency B3 = 1_268_520_000
roll_frequency E6 = 1_278_750_000
roll_frequency E5b = 1_207_140_000
roll_frequency E5 = 1_191_795_000

-- constant
-- a slot of GLONASS: 1 to 27 (this project's rule)
abbrev pub IsSlot : ℕ → Type 0
IsSlot s = (1 ≤ s) × (s ≤ 27)

-- the channel of a slot, if it has one
abbrev pub channel_at : List (Option ℤ) → ℕ → Option ℤ
channel_at channels slot = slice_index_or channels (slot - 1) None

-- there is a place for each slot, and what stands there is a channel
pub record AreChannels (channels : List (Option ℤ)) : Type 0 where
  pub count : length channels ≡ 27
  pub each : (k : ℕ) → IfSome (slice_index_or channels k None) IsChannel
