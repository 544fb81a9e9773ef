use Rattle.rtk_rinex.proofs.MixedOneTableLemmas.{mixed_text-is_accepted, one_mixed_table}
use Rattle.rtk_rinex.proofs.laws.text_of_a_mixed_table.Goals as goal

pub returns-clause-accepted : goal.returns-clause-accepted
returns-clause-accepted c = mixed_text-is_accepted c.any_code_laws.ensures.places c.any_code_laws.ensures.texts

pub returns-clause-one : goal.returns-clause-one
returns-clause-one c = one_mixed_table c.any_code_laws.ensures.places c.any_code_laws.ensures.texts
