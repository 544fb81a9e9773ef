use Rattle.std.proofs.Common.{append_assoc}
use Rattle.rtk_convert.specs.ReportText.{signal_text}
use Rattle.rtk_convert.proofs.report.put_signal.Goals as goal

pub returns : goal.returns
unfolding signal_text
returns c = rw (c.in_ok-extend_from_slice-2.ensures.items, c.in_ok-push-2.ensures.items, c.in_ok-extend_from_slice.ensures.items, c.in_ok-push.ensures.items, c.satellite_name.ensures, c.name.ensures) (simp append_assoc)
