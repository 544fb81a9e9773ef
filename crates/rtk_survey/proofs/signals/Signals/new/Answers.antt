use Rattle.std.proofs.Common.{false, replicate, refl}
use Rattle.rtk_survey.proofs.SignalLemmas.{unmarked}
use Rattle.rtk_survey.proofs.signals.Signals.new.Goals as goal

pub returns : goal.returns
returns c = record {
  satellites_size = refl;
  satellites = λ n lt. unmarked (replicate 33 false) n refl;
  codes = c.new.ensures;
}
