use Rattle.rtk_rinex.proofs.OneFaultLemmas.{one-fault, fault-none}
use Rattle.rtk_rinex.proofs.laws.one_fault.Goals as goal

pub returns-clause-one : goal.returns-clause-one
returns-clause-one c = one-fault

pub returns-clause-table : goal.returns-clause-table
returns-clause-table c = fault-none
