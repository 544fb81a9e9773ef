use Rattle.std.proofs.Common.{◌≡◌, take, false}
use Rattle.std.specs.List.{list_any}
use Rattle.rtk_obs.specs.SbasCells.{is_sbas_number}
use Rattle.rtk_convert.proofs.conversion.is_any_of_sbas.Given as goal

abbrev pub invariant-loop-satellite : goal.invariant-loop-satellite
invariant-loop-satellite l = list_any (λ s. is_sbas_number s.satellite) (take l.satellite-index l.satellites) ≡ false
