use Rattle.std.proofs.Common.{◌≡◌, ◌≤◌, ◌*◌, length, take, IsTrue}
use Rattle.rtk_obs.specs.LegacyCells.{cells_of_1004}
use Rattle.rtk_obs.specs.Steps.LegacyFields.{HasSeen}
use Rattle.rtk_obs.proofs.DistinctLemmas.{RiseTo}
use Rattle.rtk_obs.proofs.legacy_cells.put_satellites.Given as goal

abbrev pub invariant-loop-satellite : goal.invariant-loop-satellite
invariant-loop-satellite l = record {
  entries : take l.count l.found.items ≡ cells_of_1004 (take l.satellite-index l.satellites);
  room : 2 * length l.satellites ≤ length l.found.items;
  few : l.count ≤ 2 * l.satellite-index;
  places : length l.seen ≡ 33;
  seen : HasSeen l.seen (take l.satellite-index l.satellites);
  rises : IsTrue l.rises → RiseTo l.last (take l.satellite-index l.satellites);
}
