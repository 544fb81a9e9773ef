use Rattle.std.proofs.Common.{◌∙◌}
use Rattle.rtk_message.proofs.AnyDecodedLemmas.{type_fault}
use Rattle.rtk_message.proofs.any_decoder.keep_msm.Goals as goal

pub returns-in-Ok-Msm-clause-fault : goal.returns-in-Ok-Msm-clause-fault
returns-in-Ok-Msm-clause-fault c = rw c.keep_fault.ensures (type_fault c.args.any_day c.args.msm_type c.args.reader ∙ c.in-Err.ensures.fault)
