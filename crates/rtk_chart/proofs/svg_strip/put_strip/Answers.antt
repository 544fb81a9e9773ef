use Rattle.std.proofs.Common.{append_assoc}
use Rattle.rtk_chart.specs.SvgStrip.{strip_text}
use Rattle.rtk_chart.proofs.svg_strip.put_strip.Goals as goal

pub returns : goal.returns
unfolding strip_text
returns c =
    rw (
      c.in_ok-put_lane_if_measured-3.ensures,
      c.in_ok-put_lane_if_measured-2.ensures,
      c.in_ok-put_lane_if_measured.ensures,
      c.lane_height-2.ensures.value,
      c.lane_height.ensures.value,
    ) (simp append_assoc)
