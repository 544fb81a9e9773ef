use Rattle.std.proofs.Common.{Bool, ◌&&◌, ap}
use Rattle.rtk_compare.specs.declared.difference.Class.TheVariants.{Lost, Changed}
use Rattle.rtk_compare.specs.declared.difference.What.TheVariants.{Doppler}
use Rattle.rtk_compare.proofs.FindingLemmas.{told, adds-more}
use Rattle.rtk_compare.proofs.cells.put_shifts.Goals as goal

pub returns : goal.returns
returns c =
    let p = c.args.place.now in
    adds-more (told Lost Doppler p (ap (λ (b : Bool). c.args.shifts && b) c.is_gone-is_gone.ensures) c.push_if.ensures)
    (told Changed Doppler p c.is_other_number-has_changed.ensures c.push_if-2.ensures)
