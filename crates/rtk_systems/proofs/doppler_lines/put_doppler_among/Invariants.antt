use Rattle.std.proofs.Common.{◌≡◌, ◌++◌, take}
use Rattle.std.specs.Prelude.{flat_map}
use Rattle.rtk_systems.specs.DopplerLines.{doppler_of_system}
use Rattle.rtk_systems.proofs.doppler_lines.put_doppler_among.Given as goal

abbrev pub invariant-loop-system : goal.invariant-loop-system
invariant-loop-system l = l.lines.items ≡ l.fn.lines.items ++ flat_map (doppler_of_system l.taken l.surveys l.station) (take l.system-index l.systems)
