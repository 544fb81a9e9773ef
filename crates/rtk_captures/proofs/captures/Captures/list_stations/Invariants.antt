use Rattle.std.proofs.Common.{◌≡◌}
use Rattle.std.specs.Prelude.{flat_map}
use Rattle.std.specs.List.{range_with_len}
use Rattle.rtk_captures.specs.RefusalLists.{listed_station}
use Rattle.rtk_captures.proofs.captures.Captures.list_stations.Given as goal

abbrev pub invariant-loop-station : goal.invariant-loop-station
invariant-loop-station l =
    l.lines.items ≡ flat_map (listed_station l.self.names.now l.self.surveys.now) (range_with_len 0 l.station)
