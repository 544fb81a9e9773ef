use Rattle.std.proofs.Common.{◌≡◌, ◌++◌, take}
use Rattle.std.specs.Prelude.{flat_map}
use Rattle.rtk_systems.specs.ClockOffsets.{asked_clock_line}
use Rattle.rtk_systems.proofs.clock_lines.put_clocks_among.Given as goal

abbrev pub invariant-loop-system : goal.invariant-loop-system
invariant-loop-system l =
    l.lines.items ≡ l.fn.lines.items ++ flat_map (asked_clock_line l.asked l.surveys l.station l.seconds) (take l.system-index l.systems)
