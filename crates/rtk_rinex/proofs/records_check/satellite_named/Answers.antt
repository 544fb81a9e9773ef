use Rattle.std.proofs.Common.{◌≡◌, ◌∙◌, arith}
use Rattle.rtk_rinex.proofs.RowLemmas.{named}
use Rattle.rtk_rinex.proofs.records_check.satellite_named.Goals as goal
use Rattle.rtk_rinex.proofs.records_check.satellite_named.Goals.{then-satellite-eq0-via-then-satellite-eq0, then-satellite-eq0-via-else-satellite-eq0+then-satellite-gt32, then-satellite-eq0-via-else-satellite-eq0+else-satellite-gt32+then-mark-ne71, then-tens-satellite-via-then-tens-satellite, then-tens-satellite-via-else-tens-satellite+then-units-satellite}

pub returns-then-satellite-eq0 : goal.returns-then-satellite-eq0
returns-then-satellite-eq0 c = λ s h e.
    let n = named c.args.line.now s h e in
    let same : c.number_of_digits-satellite.result ≡ s = c.number_of_digits-satellite.ensures.value ∙ n.3 in
    elim c.then-satellite-eq0.branch [
      | then-satellite-eq0-via-then-satellite-eq0 w ↦ omega arith
      | then-satellite-eq0-via-else-satellite-eq0+then-satellite-gt32 w ↦ omega arith
      | then-satellite-eq0-via-else-satellite-eq0+else-satellite-gt32+then-mark-ne71 w ↦ omega (arith, n.0)
    ]

pub returns-then-tens-satellite : goal.returns-then-tens-satellite
returns-then-tens-satellite c = λ s h e.
    let n = named c.args.line.now s h e in
    let same : c.number_of_digits-satellite.result ≡ s = c.number_of_digits-satellite.ensures.value ∙ n.3 in
    elim c.then-tens-satellite.branch [
      | then-tens-satellite-via-then-tens-satellite w ↦ omega (arith, n.1, n.2)
      | then-tens-satellite-via-else-tens-satellite+then-units-satellite w ↦ omega (arith, n.1, n.2)
    ]
