use Rattle.rtk_message.proofs.MsmLemmas.{table_of_1074, form_of_valid_1074, valid_1074_of_form, fault_of_1074}
use Rattle.rtk_message.proofs.laws.form_of_1074.Goals as goal

pub returns-clause-table : goal.returns-clause-table
returns-clause-table c = table_of_1074

pub returns-clause-valid : goal.returns-clause-valid
returns-clause-valid c = λ m. (form_of_valid_1074 m, valid_1074_of_form m)

pub returns-clause-fault : goal.returns-clause-fault
returns-clause-fault c = fault_of_1074
