use Rattle.std.proofs.Common.{rules}
use Rattle.rtk_message.proofs.AnyDecodedLemmas.{fault_after_type}
use Rattle.rtk_message.proofs.any_decoder.read_msm.Goals as goal

pub returns-in_err-replace_fields-clause-fault : goal.returns-in_err-replace_fields-clause-fault
returns-in_err-replace_fields-clause-fault c = fault_after_type c.args.any_day c.args.msm_type c.args.reader c.from_residual.result (search rules)
