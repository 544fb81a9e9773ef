use Rattle.std.proofs.Common.{arith}
use Rattle.std.proofs.lemmas.Int.{ints}
use Rattle.rtk_compare.specs.Steps.Tracks.{pair}
use Rattle.rtk_compare.proofs.CellLemmas.{distances-are}
use Rattle.rtk_compare.proofs.distances.Distances.of.Goals as goal

pub returns : goal.returns
returns c = λ earlier held.
    distances-are earlier (pair c.args.old.now c.args.new.now) c.ranges_apart-range.result c.phases_apart-phase.result c.strengths_apart-strength.result c.args.rolls c.are_due-are_due.result c.args.held _
    c.ranges_apart-range.ensures c.phases_apart-phase.ensures c.strengths_apart-strength.ensures c.requires held c.are_due-are_due.ensures (omega (arith, ints))
