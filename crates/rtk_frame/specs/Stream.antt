-- What passed through a source or a sink: the bytes so far, the calls, and the failed calls.
-- All of it is this project's rule.
use Rattle.std.specs.Prelude.{◌≡◌, ◌≢◌, ℕ, ◌+◌, ◌-◌, ◌^◌, ◌<◌, ◌≤◌, ◌⊎◌, Bool, true, false, List, ◌++◌, length, take, Option, None, Some, Result, Ok, Err, min, nat_lt, ◌==◌, ◌&&◌, is_err, slice_index_or}

-- the greatest value of a count of calls, which is a u64; no test makes so many calls, so this line
-- alone shows it
abbrev pub greatest_count : ℕ
greatest_count = 2 ^ 64 - 1

-- a count after one more call: at its greatest value it stays
abbrev pub count_after : ℕ → ℕ
count_after count = min (count + 1) greatest_count

-- a count has risen; one at its greatest value counts as risen
abbrev pub CountRises : ℕ → ℕ → Type 0
CountRises before after = (before < after) ⊎ (greatest_count ≤ after)

-- the count of failed calls after a call: a failed one raises it, a good one never does
abbrev pub failures_after : ℕ → Bool → ℕ
failures_after before true = count_after before
failures_after before false = before

-- a write failed: it answers the fault, or it was given bytes and took none of them
abbrev pub is_failed_write : {E : Type 0} → Result ℕ E → List ℕ → Bool
is_failed_write (Ok count) bytes = count == 0 && nat_lt 0 (length bytes)
is_failed_write (Err fault) bytes = true

-- how many bytes a call moved: 0 if it answers the fault
abbrev pub moved_count : {E : Type 0} → Result ℕ E → ℕ
moved_count (Ok count) = count
moved_count (Err fault) = 0

-- all bytes that passed, with more bytes after them; if nothing is known about them before, nothing
-- is known after
abbrev pub with_more : Option (List ℕ) → List ℕ → Option (List ℕ)
with_more None more = None
with_more (Some bytes) more = Some (bytes ++ more)

-- a first part of these bytes was taken, perhaps no byte or all of them
abbrev pub TakesPart : Option (List ℕ) → Option (List ℕ) → List ℕ → Type 0
TakesPart before after bytes = (n : ℕ) × (n ≤ length bytes) × (after ≡ with_more before (take n bytes))

-- one of many sources was read once, and the others are as they were
-- (`none` stands for a source past the end of the list, which is never looked at)
pub record ReadsOne {R E : Type 0} (given : R → Option (List ℕ)) (failures calls : R → ℕ) (before after : List R) (link : ℕ) (result : Result ℕ E) (buf : List ℕ) : Type 0 where
  pub as_many : length after ≡ length before
  pub others : (k : ℕ) (none : R) → k ≢ link → slice_index_or after k none ≡ slice_index_or before k none
  pub gives : (none : R) → given (slice_index_or after link none) ≡ with_more (given (slice_index_or before link none)) (take (moved_count result) buf)
  pub fails : (none : R) → failures (slice_index_or after link none) ≡ failures_after (failures (slice_index_or before link none)) (is_err result)
  pub called : (none : R) → calls (slice_index_or after link none) ≡ count_after (calls (slice_index_or before link none))
