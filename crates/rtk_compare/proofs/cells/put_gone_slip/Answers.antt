use Rattle.rtk_compare.specs.declared.difference.Class.TheVariants.{Lost, Explained}
use Rattle.rtk_compare.specs.declared.difference.What.TheVariants.{Slip, FirstSlip, FilledSlip}
use Rattle.rtk_compare.proofs.FindingLemmas.{told, adds-more}
use Rattle.rtk_compare.proofs.CellLemmas.{lost-slip, filled-slip, first-slip}
use Rattle.rtk_compare.proofs.cells.put_gone_slip.Goals as goal

pub returns : goal.returns
returns c = λ earlier track.
    let p = c.args.place.now in
    let gone = c.args.is_gone in
    let t = c.args.track.now in
    adds-more (adds-more (told Lost Slip p (lost-slip gone t earlier track) c.push_if.ensures) (told Explained FilledSlip p (filled-slip gone t earlier track) c.push_if-2.ensures))
    (told Explained FirstSlip p (first-slip gone t earlier track) c.push_if-3.ensures)
