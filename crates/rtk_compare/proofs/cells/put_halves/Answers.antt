use Rattle.std.proofs.Common.{Bool, not, ◌&&◌, ap, ◌∙◌}
use Rattle.rtk_compare.specs.declared.difference.Class.TheVariants.{Lost, Changed}
use Rattle.rtk_compare.specs.declared.difference.What.TheVariants.{HalfCycle}
use Rattle.rtk_compare.specs.Cells.{mark_is_gone}
use Rattle.rtk_compare.specs.Steps.Tracks.{pair}
use Rattle.rtk_compare.proofs.FindingLemmas.{told, adds-more}
use Rattle.rtk_compare.proofs.CellLemmas.{mark-gone}
use Rattle.rtk_compare.proofs.cells.put_halves.Goals as goal

pub returns : goal.returns
returns c =
    let p = c.args.place.now in
    let cells = pair c.args.old.now c.args.new.now in
    let old = c.args.old.now.half in
    let new = c.args.new.now.half in
    let gone = mark-gone cells c.have_phases-have_phases.result old new c.mark_is_gone-is_gone.result c.have_phases-have_phases.ensures c.mark_is_gone-is_gone.ensures in
    let come = mark-gone cells c.have_phases-have_phases.result new old c.mark_is_gone-has_come.result c.have_phases-have_phases.ensures c.mark_is_gone-has_come.ensures in
    let changed = ap (λ (b : Bool). b && not c.is_finer-is_finer.result) come ∙ ap (λ (b : Bool). mark_is_gone cells new old && not b) c.is_finer-is_finer.ensures in
    adds-more (told Lost HalfCycle p gone c.push_if.ensures) (told Changed HalfCycle p changed c.push_if-2.ensures)
