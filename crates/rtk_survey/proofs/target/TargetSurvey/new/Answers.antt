use Rattle.std.proofs.Common.{refl}
use Rattle.rtk_survey.proofs.TargetLemmas.{no-phases}
use Rattle.rtk_survey.proofs.target.TargetSurvey.new.Goals as goal

pub returns : goal.returns
returns c = record {
  present = refl;
  dates = c.new.ensures;
  phases = λ dates. no-phases c.new-2.result c.new.result.station c.new-2.ensures;
  equipment = c.new-3.ensures;
  parting = c.new-4.ensures;
  to_come = refl;
  clocks = c.no_clocks_followed.ensures;
  system_phases = c.new-5.ensures;
}
