use Rattle.std.proofs.Common.{◌≡◌, ◌≤◌, ◌*◌, length, map, take}
use Rattle.rtk_obs.specs.SbasCells.{signals_of_1004}
use Rattle.rtk_obs.specs.Steps.GlonassFields.{HasSeenNumbers}
use Rattle.rtk_obs.proofs.sbas_cells.put_all.Given as goal

abbrev pub invariant-loop-satellite : goal.invariant-loop-satellite
invariant-loop-satellite l = record {
  entries : l.found.items ≡ signals_of_1004 (take l.satellite-index l.satellites);
  few : length l.found.items ≤ 2 * l.satellite-index;
  places : length l.seen ≡ 64;
  seen : HasSeenNumbers l.seen (map (λ s. s.satellite) (take l.satellite-index l.satellites));
}
