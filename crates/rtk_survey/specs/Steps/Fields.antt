-- A message more in the counts of the channels of slots.
use Rattle.std.specs.Prelude.{◌≡◌, ℕ, ◌+◌, Bool, true, false}
use Rattle.std.specs.BTreeMap.{BTreeMap}
use Rattle.rtk_survey.specs.Channels.{count_of_field, IsChannelTold}
use Rattle.rtk_survey.specs.Counting.{shown_count}

-- a message more, which tells these fields: before, after
pub record TakesFields (tells : ℕ → ℕ → Bool) (old new : BTreeMap ℕ ℕ) : Type 0 where
  pub told : (slot field : ℕ) → IsChannelTold slot field → tells slot field ≡ true
      → count_of_field new slot field ≡ shown_count (count_of_field old slot field + 1)
  pub others : (slot field : ℕ) → IsChannelTold slot field → tells slot field ≡ false
      → count_of_field new slot field ≡ count_of_field old slot field
