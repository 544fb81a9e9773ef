use Rattle.rtk_rinex.proofs.OneTableLemmas.{text-is_accepted, one_table}
use Rattle.rtk_rinex.proofs.KeptLemmas.{text-is_kept}
use Rattle.rtk_rinex.proofs.laws.text_of_a_table.Goals as goal

pub returns-clause-accepted : goal.returns-clause-accepted
returns-clause-accepted c = text-is_accepted

pub returns-clause-kept : goal.returns-clause-kept
returns-clause-kept c = text-is_kept

pub returns-clause-one : goal.returns-clause-one
returns-clause-one c = one_table c.code_laws.ensures.names
