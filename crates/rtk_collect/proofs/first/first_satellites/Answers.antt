use Rattle.std.proofs.Common.{List, Bor}
use Rattle.rtk_message.specs.declared.obs1004.Satellite.{Satellite}
use Rattle.rtk_collect.proofs.LegacyListLemmas.{first-if}
use Rattle.rtk_collect.proofs.first.first_satellites.Goals as goal

pub returns-clause-first : goal.returns-clause-first
returns-clause-first c =
    let e = c.rising_satellites.ensures in
    first-if (λ (s : Bor (List Satellite)). s.now) c.rising_satellites.result e.rise e.cells_rise e.range e.kind e.some
