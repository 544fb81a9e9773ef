use Rattle.std.proofs.Common.{◌≡◌, ◌++◌, take}
use Rattle.std.specs.Prelude.{flat_map}
use Rattle.rtk_systems.specs.NamelessLines.{nameless_line}
use Rattle.rtk_systems.proofs.nameless_lines.put_nameless_among.Given as goal

abbrev pub invariant-loop-system : goal.invariant-loop-system
invariant-loop-system l =
    l.lines.items ≡ l.fn.lines.items ++ flat_map (nameless_line l.setup.head.listed l.surveys l.station l.taken) (take l.system-index l.systems)
