use Rattle.std.proofs.Common.{◌≡◌, ◌≤◌, ◌++◌, ℕ, List, length, replicate}
use Rattle.rtk_quality.proofs.columns.pad_from.Given as goal

abbrev pub invariant-loop-blank : goal.invariant-loop-blank
invariant-loop-blank l = record {
  within : l.at ≤ length l.text.items;
  padded : (before value : List ℕ) → length before ≡ l.at → l.fn.text.items ≡ before ++ value → l.text.items ≡ before ++ (replicate l._blank 32 ++ value);
}
