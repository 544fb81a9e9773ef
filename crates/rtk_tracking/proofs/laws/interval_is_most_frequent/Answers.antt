use Rattle.rtk_tracking.proofs.StepLemmas.{interval-is, most-frequent, one-interval}
use Rattle.rtk_tracking.proofs.laws.interval_is_most_frequent.Goals as goal

pub returns-clause-frequent : goal.returns-clause-frequent
returns-clause-frequent c = interval-is

pub returns-clause-often : goal.returns-clause-often
returns-clause-often c = most-frequent

pub returns-clause-one : goal.returns-clause-one
returns-clause-one c = one-interval
