use Rattle.rtk_convert.proofs.CallsLemmas.{calls-keep-promise, calls-write-kept}
use Rattle.rtk_convert.proofs.laws.calls_keep_promise.Goals as goal

pub returns : goal.returns
returns c = record { headline = calls-keep-promise; kept = calls-write-kept }
