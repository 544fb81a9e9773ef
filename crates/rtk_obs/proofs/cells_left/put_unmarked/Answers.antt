use Rattle.rtk_obs.proofs.CellsLeftLemmas.{marked, left-put}
use Rattle.rtk_obs.proofs.cells_left.put_unmarked.Goals as goal

pub returns-clause-entries : goal.returns-clause-entries
returns-clause-entries c = λ known marks.
    left-put known _ _ _ c.args.satellite.now _ _ c.put_l1-count.ensures.entries c.put_l2.ensures.entries
    (marked c.args.marks.now known c.args.satellite.now.satellite _ c.l1_code.result _ marks c.requires.number c.place_of_signal-l1_place.ensures.value c.l1_code.ensures)
    (marked c.args.marks.now known c.args.satellite.now.satellite _ c.l2_code.result _ marks c.requires.number c.place_of_signal-l2_place.ensures.value c.l2_code.ensures)
