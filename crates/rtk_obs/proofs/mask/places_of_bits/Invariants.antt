use Rattle.std.proofs.Common.{◌≡◌, ◌++◌, ◌<◌, ◌^◌}
use Rattle.rtk_obs.specs.Mask.{set_bits}
use Rattle.rtk_obs.proofs.mask.places_of_bits.Given as goal

abbrev pub invariant-loop-rest : goal.invariant-loop-rest
invariant-loop-rest l = record {
  places : l.places.items ++ set_bits l.width l.rest ≡ set_bits l.width l.mask;
  fits : l.rest < 2 ^ l.width;
}

abbrev pub decreases-loop-rest : goal.decreases-loop-rest
decreases-loop-rest l = l.rest
