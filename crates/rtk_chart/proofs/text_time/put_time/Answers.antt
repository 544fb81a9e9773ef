use Rattle.std.proofs.Common.{append_assoc}
use Rattle.rtk_chart.specs.TextPicture.{time_rows}
use Rattle.rtk_chart.proofs.text_time.put_time.Goals as goal

pub returns : goal.returns
unfolding time_rows
returns c = rw (c.in_ok-put_labels.ensures, c.in_ok-put_axis.ensures, c.tick_step-step.ensures.value) (simp append_assoc)
