use Rattle.rtk_commands.proofs.CheckLineLemmas.{valid-tells, fault-tells}
use Rattle.rtk_commands.proofs.laws.lines_of_check_tell_numbers.Goals as goal

pub returns-clause-valid : goal.returns-clause-valid
returns-clause-valid c = valid-tells

pub returns-clause-fault : goal.returns-clause-fault
returns-clause-fault c = fault-tells
