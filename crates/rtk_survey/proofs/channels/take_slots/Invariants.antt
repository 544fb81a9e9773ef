use Rattle.std.proofs.Common.{◌≡◌, ◌<◌, ◌≤◌, ◌+◌, ℕ, true, false}
use Rattle.rtk_survey.specs.Channels.{tells_field, count_of_field}
use Rattle.rtk_survey.specs.Counting.{shown_count}
use Rattle.rtk_survey.proofs.channels.take_slots.Given as goal

-- the fields of the slots before this one were counted, and no others
abbrev pub invariant-loop-slot : goal.invariant-loop-slot
invariant-loop-slot l = record {
  told : (s f : ℕ) → s < l.slot → 1 ≤ s → f < 21 → tells_field s f l.message ≡ true
      → count_of_field l.counts s f ≡ shown_count (count_of_field l.fn.counts s f + 1);
  others : (s f : ℕ) → f < 21 → (s < l.slot → tells_field s f l.message ≡ false)
      → count_of_field l.counts s f ≡ count_of_field l.fn.counts s f;
}
