use Rattle.std.proofs.Common.{◌++◌}
use Rattle.rtk_survey.proofs.SystemPhaseLemmas.{is-there}
use Rattle.rtk_survey.proofs.system_phases.PhaseTable.take.Goals as goal

pub returns : goal.returns
returns c = λ es counts.
    is-there c.take_entries.new.table.items (c.args.entries.now ++ es) (c.take_entries.ensures es (c.in_ok-make_table.ensures es counts))
