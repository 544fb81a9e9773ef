use Rattle.rtk_compare.proofs.FindingLemmas.{adds-more}
use Rattle.rtk_compare.proofs.labels.compare_parts.Goals as goal

pub returns : goal.returns
returns c = adds-more (adds-more c.compare_station.ensures c.compare_receiver.ensures) c.compare_antenna.ensures
