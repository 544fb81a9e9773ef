use Rattle.std.proofs.Common.{◌≡◌, take, map}
use Rattle.rtk_systems.specs.ClockOffsets.{total_among}
use Rattle.rtk_systems.proofs.clock_offsets.totals_among.Given as goal

abbrev pub invariant-loop-offset : goal.invariant-loop-offset
invariant-loop-offset l = l.totals.items ≡ map (total_among l.all) (take l.offset-index l.all)
