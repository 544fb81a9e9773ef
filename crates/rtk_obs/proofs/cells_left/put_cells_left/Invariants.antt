use Rattle.std.proofs.Common.{◌≡◌, ◌≤◌, ◌*◌, length, take}
use Rattle.std.specs.List.{flat_map}
use Rattle.rtk_obs.specs.LegacyCells.{satellite_entries}
use Rattle.rtk_obs.specs.CellsLeft.{cells_left}
use Rattle.rtk_obs.proofs.cells_left.put_cells_left.Given as goal

abbrev pub invariant-loop-satellite : goal.invariant-loop-satellite
invariant-loop-satellite l = record {
  entries : take l.count l.found.items ≡ cells_left l.known (flat_map satellite_entries (take l.satellite-index l.satellites));
  count : l.count ≤ length l.found.items;
  few : l.count ≤ 2 * l.satellite-index;
}
