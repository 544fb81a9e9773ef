use Rattle.rtk_compare.specs.declared.difference.What.TheVariants.{Position}
use Rattle.rtk_compare.proofs.FindingLemmas.{adds-more}
use Rattle.rtk_compare.proofs.HeaderLemmas.{lines-as}
use Rattle.rtk_compare.proofs.headers.compare_positions.Goals as goal

pub returns : goal.returns
returns c =
    adds-more (lines-as Position c.is_known-was.result c.is_known-is.result c.is_same_place-is_same.result c.is_known-was.ensures c.is_known-is.ensures c.is_same_place-is_same.ensures c.put.ensures) c.put-2.ensures
