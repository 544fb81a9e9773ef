use Rattle.std.proofs.Common.{◌≡◌, ◌∷◌, ◌++◌, length}
use Rattle.std.specs.Prelude.{All}
use Rattle.rtk_obs.specs.SatelliteIndex.{IsSatelliteIndex, index_name}
use Rattle.rtk_cli.specs.Steps.NameList.{comma_names}
use Rattle.rtk_cli.proofs.chart_words.satellites_of.Given as goal

abbrev pub invariant-loop-name : goal.invariant-loop-name
invariant-loop-name l = record {
  good : All IsSatelliteIndex l.satellites.items;
  so_far : 44 ∷ l.fn.text ≡ comma_names index_name l.satellites.items ++ 44 ∷ l.rest;
}

abbrev pub decreases-loop-name : goal.decreases-loop-name
decreases-loop-name l = length l.rest
