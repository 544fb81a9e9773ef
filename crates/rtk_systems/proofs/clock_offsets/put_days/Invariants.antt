use Rattle.std.proofs.Common.{◌≡◌, ◌++◌, take, map}
use Rattle.rtk_systems.specs.ClockOffsets.{offset_on_day}
use Rattle.rtk_systems.proofs.clock_offsets.put_days.Given as goal

abbrev pub invariant-loop-offset : goal.invariant-loop-offset
invariant-loop-offset l = l.list.items ≡ l.fn.list.items ++ map (offset_on_day l.seconds) (take l.offset-index l.days)
