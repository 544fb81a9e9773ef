use Rattle.rtk_rinex.proofs.ValuesLemmas.{clash}
use Rattle.rtk_rinex.proofs.mixed_records_check.check_epoch_line.Goals as goal

pub returns-in_default-clause-fault : goal.returns-in_default-clause-fault
returns-in_default-clause-fault c = λ t n e. c.in_default.ensures t n e.0 (rw c.most_satellites.ensures.value e.1) e.2

pub returns-then-not-is_next_time-clause-fault : goal.returns-then-not-is_next_time-clause-fault
returns-then-not-is_next_time-clause-fault c =
    let stamp = c.in-Some.stamp in
    let is = c.in-Some.ensures in (
      stamp.time,
      stamp.count,
      (is.0, rw c.most_satellites.ensures.value at is.1, is.2),
      λ h. clash c.is_next_time.result c.if-not-is_next_time.true (c.is_next_time.ensures.1 h),
    )

pub returns-clause-line : goal.returns-clause-line
returns-clause-line c =
    let is = c.in-Some.ensures in
    ((is.0, rw c.most_satellites.ensures.value at is.1, is.2), c.is_next_time.ensures.0 c.if-not-is_next_time.false)
