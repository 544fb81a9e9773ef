use Rattle.rtk_compare.proofs.HeaderLemmas.{lines-as}
use Rattle.rtk_compare.proofs.labels.compare_field.Goals as goal

pub returns : goal.returns
returns c =
    lines-as c.args.what c.is_filled-was.result c.is_filled-is.result c.is_same_text-is_same.result c.is_filled-was.ensures c.is_filled-is.ensures c.is_same_text-is_same.ensures c.put.ensures
