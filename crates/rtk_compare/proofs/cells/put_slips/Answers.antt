use Rattle.std.proofs.Common.{Bool, ap}
use Rattle.rtk_compare.specs.declared.difference.Class.TheVariants.{Explained}
use Rattle.rtk_compare.specs.declared.difference.What.TheVariants.{NewSlip}
use Rattle.rtk_compare.specs.Cells.{gone_slip_lines}
use Rattle.rtk_compare.specs.Steps.Tracks.{pair}
use Rattle.rtk_compare.proofs.FindingLemmas.{told, adds-more, adds-as}
use Rattle.rtk_compare.proofs.CellLemmas.{mark-gone}
use Rattle.rtk_compare.proofs.cells.put_slips.Goals as goal

pub returns : goal.returns
returns c = λ earlier track.
    let p = c.args.place.now in
    let cells = pair c.args.old.now c.args.new.now in
    let old = c.args.old.now.slip in
    let new = c.args.new.now.slip in
    let gone = mark-gone cells c.have_phases-have_phases.result old new c.mark_is_gone-is_gone.result c.have_phases-have_phases.ensures c.mark_is_gone-is_gone.ensures in
    let come = mark-gone cells c.have_phases-have_phases.result new old c.mark_is_gone-is_new.result c.have_phases-have_phases.ensures c.mark_is_gone-is_new.ensures in
    adds-more (adds-as (ap (λ (b : Bool). gone_slip_lines earlier b p) gone) (c.put_gone_slip.ensures earlier track)) (told Explained NewSlip p come c.push_if.ensures)
