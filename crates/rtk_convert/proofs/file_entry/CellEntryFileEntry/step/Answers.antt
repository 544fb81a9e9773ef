use Rattle.rtk_convert.proofs.PhaseBlockLemmas.{gps-others}
use Rattle.rtk_convert.proofs.file_entry.CellEntryFileEntry.step.Goals as goal

pub returns-clause-others : goal.returns-clause-others
returns-clause-others c = gps-others c.args.phases.now c.step.new.self c.args.self.now.satellite c.args.self.now.code c.step.ensures.others
