use Rattle.rtk_collect.proofs.LateLemmas.{excused-is-kept, stations-are-final}
use Rattle.rtk_collect.proofs.laws.stations_are_final.Goals as goal

pub returns-clause-excused : goal.returns-clause-excused
returns-clause-excused c = excused-is-kept

pub returns-clause-late : goal.returns-clause-late
returns-clause-late c = stations-are-final
