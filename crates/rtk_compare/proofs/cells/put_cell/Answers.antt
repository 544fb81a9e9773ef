use Rattle.std.proofs.Common.{ap}
use Rattle.rtk_compare.specs.declared.distances.Distances.{Distances}
use Rattle.rtk_compare.specs.Cells.{cell_lines, value_lines, half_lines}
use Rattle.rtk_compare.specs.Steps.Tracks.{pair}
use Rattle.rtk_compare.proofs.FindingLemmas.{adds-more, adds-as}
use Rattle.rtk_compare.proofs.cells.put_cell.Goals as goal

pub returns : goal.returns
unfolding cell_lines
returns c = λ earlier track are.
    let p = c.args.place.now in
    adds-more
    (adds-more
    (adds-more (adds-more c.put_gone.ensures (adds-as (ap (λ (d : Distances). value_lines d p) are) c.put_values.ensures)) (c.put_slips.ensures earlier track))
    (adds-as (ap (λ (d : Distances). half_lines d (pair c.args.old.now c.args.new.now) p) are) c.put_halves.ensures))
    c.put_shifts.ensures
