use Rattle.std.proofs.Common.{false, replicate, refl}
use Rattle.rtk_survey.proofs.SignalLemmas.{unmarked}
use Rattle.rtk_survey.proofs.signals.Codes.new.Goals as goal

pub returns : goal.returns
returns c = record {
  size = refl;
  marks = λ n lt. unmarked (replicate 16 false) n refl;
}
