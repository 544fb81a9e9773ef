use Rattle.std.proofs.Common.{◌≡◌, ◌≤◌, ◌*◌, ◌-◌, length, take}
use Rattle.std.specs.List.{flat_map}
use Rattle.rtk_message.specs.Fields.{TakesAll}
use Rattle.rtk_message.specs.Obs1012.{satellite_table}
use Rattle.rtk_message.proofs.obs1012.read_satellites.Given as goal

abbrev pub invariant-loop-place : goal.invariant-loop-place
invariant-loop-place l = record {
  taken : TakesAll (flat_map satellite_table (take l.place l.satellites)) l.fn.reader l.reader;
  left : 130 * (l.count - l.place) ≤ length l.reader;
  count : length l.satellites ≡ l.count;
}
