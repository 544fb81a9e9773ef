-- Counts as a summary shows them (this project's rule).
use Rattle.std.specs.Prelude.{ℕ, Bool, List, min, count_by}
use Rattle.rtk_frame.specs.Stream.{greatest_count}

-- a count stays at the greatest value of a u64; a test has counts of ten digits, and none so great
abbrev pub shown_count : ℕ → ℕ
shown_count n = min n greatest_count

-- how many of these pass the test
abbrev pub count_of : {X : Type 0} → (X → Bool) → List X → ℕ
count_of test xs = shown_count (count_by test xs)
