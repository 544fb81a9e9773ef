use Rattle.std.proofs.Common.{Option, ℤ, ap, ◌∙◌}
use Rattle.rtk_compare.specs.declared.difference.Class.TheVariants.{Lost}
use Rattle.rtk_compare.specs.declared.difference.What.TheVariants.{Range, Phase, Strength}
use Rattle.rtk_compare.specs.Distances.{strength_value}
use Rattle.rtk_compare.specs.Cells.{is_gone}
use Rattle.rtk_compare.proofs.FindingLemmas.{told, adds-more}
use Rattle.rtk_compare.proofs.CellLemmas.{strength-gone}
use Rattle.rtk_compare.proofs.cells.put_gone.Goals as goal

pub returns : goal.returns
returns c =
    let p = c.args.place.now in
    let old = c.args.old.now.strength_millidbhz in
    let new = c.args.new.now.strength_millidbhz in
    let strength =
    c.is_gone-strength.ensures ∙ ap (λ (o : Option ℤ). is_gone o c.widened-new_strength.result) c.widened-old_strength.ensures ∙ ap (λ (o : Option ℤ). is_gone (strength_value old) o) c.widened-new_strength.ensures
    ∙ strength-gone old new in
    adds-more (adds-more (told Lost Range p c.is_gone-range.ensures c.push_if.ensures) (told Lost Phase p c.is_gone-phase.ensures c.push_if-2.ensures)) (told Lost Strength p strength c.push_if-3.ensures)
