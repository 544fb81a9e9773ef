use Rattle.std.proofs.Common.{◌-◌}
use Rattle.std.specs.Prelude.{flat_map}
use Rattle.std.specs.List.{range_with_len}
use Rattle.rtk_compare.specs.Headers.{slot_lines}
use Rattle.rtk_compare.specs.Differences.{Adds}
use Rattle.rtk_compare.proofs.headers.compare_channels.Given as goal

abbrev pub invariant-loop-slot : goal.invariant-loop-slot
invariant-loop-slot l = Adds l.fn.findings l.findings (flat_map (slot_lines l.old l.new) (range_with_len 1 (l.slot - 1)))
