use Rattle.std.proofs.Common.{◌≡◌, ◌≤◌, ◌*◌, length, map, take}
use Rattle.rtk_obs.specs.GlonassCells.{entries_of_1012}
use Rattle.rtk_obs.specs.Steps.GlonassFields.{HasSeenNumbers}
use Rattle.rtk_obs.proofs.glonass_cells.put_satellites.Given as goal

abbrev pub invariant-loop-satellite : goal.invariant-loop-satellite
invariant-loop-satellite l = record {
  entries : l.found.items ≡ entries_of_1012 l.channels (take l.satellite-index l.satellites);
  few : length l.found.items ≤ 2 * l.satellite-index;
  places : length l.seen ≡ 64;
  seen : HasSeenNumbers l.seen (map (λ s. s.slot) (take l.satellite-index l.satellites));
}
