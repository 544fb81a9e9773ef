use Rattle.std.proofs.Common.{◌≡◌, ◌≤◌, length}
use Rattle.rtk_message.proofs.satellite_list.SatelliteList.resize.Given as goal

abbrev pub invariant-loop : goal.invariant-loop
invariant-loop g l = record {
  so_far : length l.self-inside.list.items ≡ l.counter;
  most : l.counter ≤ l.count;
}
