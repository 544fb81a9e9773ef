use Rattle.std.proofs.Common.{sym}
use Rattle.rtk_tracking.proofs.steps.StepCounts.note_epoch.Goals as goal

pub returns : goal.returns
returns c = λ es stands. c.in_ok-note_time.ensures es c.args.epoch.now (sym c.time.ensures) stands
