use Rattle.std.proofs.Common.{◌<◌, drop}
use Rattle.rtk_obs.specs.CellsLeft.{RiseAbove}
use Rattle.rtk_obs.proofs.cells_left.are_rising.Given as goal

-- the satellites rise if those that are left rise above the last one
abbrev pub invariant-loop-satellite : goal.invariant-loop-satellite
invariant-loop-satellite l = record {
  rise : RiseAbove l.last (drop l.satellite-index l.satellites) → RiseAbove 0 l.satellites;
  some : 0 < l.last → 0 < l.satellite-index;
}
