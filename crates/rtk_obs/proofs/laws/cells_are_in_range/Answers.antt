use Rattle.rtk_obs.proofs.LegacyLemmas.{cells_of_valid}
use Rattle.rtk_obs.proofs.MessageLemmas.{cells_of-in_range, cells_of-satellites, cells_of-kind}
use Rattle.rtk_obs.proofs.MsmFieldLemmas.{cells_in_range-1074, cells_in_range-msm}
use Rattle.rtk_obs.proofs.laws.cells_are_in_range.Goals as goal

pub returns : goal.returns
returns c = record {
  each = cells_of-in_range;
  satellites = cells_of-satellites;
  kind = cells_of-kind;
  legacy = cells_of_valid;
  msm = cells_in_range-1074;
  wide = cells_in_range-msm;
}
