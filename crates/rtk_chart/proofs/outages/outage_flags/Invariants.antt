use Rattle.std.proofs.Common.{◌≡◌, map}
use Rattle.std.specs.List.{range_with_len}
use Rattle.rtk_chart.specs.Grid.{is_out}
use Rattle.rtk_chart.proofs.outages.outage_flags.Given as goal

abbrev pub invariant-loop-bin : goal.invariant-loop-bin
invariant-loop-bin l = l.flags.items ≡ map (is_out l.outages l.place) (range_with_len 0 l.bin)
