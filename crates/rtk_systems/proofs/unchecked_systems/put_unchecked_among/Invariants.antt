use Rattle.std.proofs.Common.{◌≡◌, ◌++◌, take}
use Rattle.std.specs.Prelude.{flat_map}
use Rattle.rtk_systems.specs.UncheckedSystems.{unchecked_system_line}
use Rattle.rtk_systems.proofs.unchecked_systems.put_unchecked_among.Given as goal

abbrev pub invariant-loop-system : goal.invariant-loop-system
invariant-loop-system l =
    l.lines.items ≡ l.fn.lines.items ++ flat_map (unchecked_system_line l.setup.head.listed l.surveys l.station) (take l.system-index l.systems)
