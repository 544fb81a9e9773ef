use Rattle.rtk_survey.proofs.system_signals.SystemSignals.new.Goals as goal

pub returns : goal.returns
returns c = record {
  satellites = c.new.ensures;
  codes = c.new-2.ensures;
}
