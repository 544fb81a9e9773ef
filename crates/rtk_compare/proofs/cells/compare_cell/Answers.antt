use Rattle.std.proofs.Common.{arith}
use Rattle.std.proofs.lemmas.Int.{ints}
use Rattle.rtk_compare.proofs.TrackLemmas.{by_same}
use Rattle.rtk_compare.proofs.cells.compare_cell.Goals as goal

pub returns-clause-lines : goal.returns-clause-lines
returns-clause-lines c = λ earlier track.
    c.tell_cell.ensures earlier track (c.of-distances.ensures earlier (by_same _ c.rolls_held-held.result _ (c.rolls_held-held.ensures earlier track) (omega (arith, ints))))

pub returns-clause-track : goal.returns-clause-track
returns-clause-track c = λ earlier track. c.note.ensures earlier track (by_same _ c.rolls_held-held.result _ (c.rolls_held-held.ensures earlier track) (omega (arith, ints)))
