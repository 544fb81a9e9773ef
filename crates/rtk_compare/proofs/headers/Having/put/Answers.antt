use Rattle.rtk_compare.specs.declared.difference.Class.TheVariants.{Lost, Changed}
use Rattle.rtk_compare.proofs.FindingLemmas.{told-at, adds-more}
use Rattle.rtk_compare.proofs.headers.Having.put.Goals as goal

pub returns : goal.returns
returns c =
    let what = c.args.what in
    adds-more (told-at Lost what _ c.header-place.ensures c.push_if.ensures) (told-at Changed what _ c.header-place.ensures c.push_if-2.ensures)
