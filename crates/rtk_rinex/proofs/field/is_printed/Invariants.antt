use Rattle.std.proofs.Common.{ℕ, ◌<◌, slice_index_or}
use Rattle.std.specs.Int.{IsInRange}
use Rattle.rtk_rinex.proofs.field.is_printed.Given as goal

abbrev pub invariant-loop-byte : goal.invariant-loop-byte
invariant-loop-byte l = (k d : ℕ) → k < l.byte-index → IsInRange 32 126 (slice_index_or l.text k d)
