use Rattle.rtk_message.proofs.SystemsLemmas.{accepts-type, takes-gps, takes-1012}
use Rattle.rtk_message.proofs.laws.sets_of_types.Goals as goal

pub returns-clause-accepts : goal.returns-clause-accepts
returns-clause-accepts c = accepts-type

pub returns-clause-gps : goal.returns-clause-gps
returns-clause-gps c = takes-gps

pub returns-clause-same : goal.returns-clause-same
returns-clause-same c = takes-1012
