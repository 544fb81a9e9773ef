use Rattle.rtk_rinex.proofs.MixedOneFaultLemmas.{one-mixed-fault, mixed-fault-none}
use Rattle.rtk_rinex.proofs.laws.one_mixed_fault.Goals as goal

pub returns-clause-one : goal.returns-clause-one
returns-clause-one c = one-mixed-fault c.any_code_laws.ensures.places c.any_code_laws.ensures.texts

pub returns-clause-table : goal.returns-clause-table
returns-clause-table c = mixed-fault-none c.any_code_laws.ensures.places c.any_code_laws.ensures.texts
