use Rattle.rtk_compare.specs.declared.difference.Class.TheVariants.{Changed, Explained}
use Rattle.rtk_compare.specs.declared.difference.What.TheVariants.{Range, Phase, Strength, Finer, Roll}
use Rattle.rtk_compare.proofs.FindingLemmas.{told, adds-more}
use Rattle.rtk_compare.proofs.cells.put_values.Goals as goal

pub returns : goal.returns
returns c =
    let p = c.args.place.now in
    adds-more
    (adds-more
    (adds-more
    (adds-more (told Changed Range p c.range_has_changed-range.ensures c.push_if.ensures) (told Changed Phase p c.phase_has_changed-phase.ensures c.push_if-2.ensures))
    (told Changed Strength p c.strength_has_changed-strength.ensures c.push_if-3.ensures))
    (told Explained Finer p c.is_finer-is_finer.ensures c.push_if-4.ensures))
    (told Explained Roll p c.has_rolled-has_rolled.ensures c.push_if-5.ensures)
