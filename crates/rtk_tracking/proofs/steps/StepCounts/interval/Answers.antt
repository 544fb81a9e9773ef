use Rattle.rtk_tracking.specs.Interval.{steps_in, interval_of}
use Rattle.rtk_tracking.proofs.StepLemmas.{interval-is, one-interval}
use Rattle.rtk_tracking.proofs.steps.StepCounts.interval.Goals as goal

pub returns : goal.returns
returns c = λ es stands.
    one-interval (steps_in es) c.interval.result (interval_of (steps_in es)) (c.interval.ensures (steps_in es) stands.steps) (interval-is (steps_in es))
