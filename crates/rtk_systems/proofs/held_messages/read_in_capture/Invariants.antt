use Rattle.std.proofs.Common.{◌≡◌, ◌≤◌, ◌+◌}
use Rattle.std.specs.BTreeMap.{values}
use Rattle.std.specs.List.{sum_by}
use Rattle.rtk_survey.specs.Counting.{shown_count}
use Rattle.rtk_systems.specs.Values.{read_of_station}
use Rattle.rtk_systems.proofs.held_messages.read_in_capture.Given as goal

-- the count so far and those of the stations that are left are that of all
abbrev pub invariant-loop-station : goal.invariant-loop-station
invariant-loop-station l = record {
  fits : l.count ≤ 18_446_744_073_709_551_615;
  held : shown_count (l.count + sum_by (read_of_station l.number) l.station-iterator)
      ≡ shown_count (sum_by (read_of_station l.number) (values l.survey.contents.stations));
}
