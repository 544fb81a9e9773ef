use Rattle.std.proofs.Common.{append_assoc}
use Rattle.rtk_chart.specs.SvgStrip.{lane_text}
use Rattle.rtk_chart.proofs.svg_strip.put_lane.Goals as goal

pub returns : goal.returns
unfolding lane_text
returns c =
    rw (
      c.in_ok-extend_from_slice.ensures.items,
      c.in_ok-put_depths.ensures,
      c.as_slice.ensures.value,
      c.in_ok-depths.ensures.value,
      c.in_ok-put_lane_start.ensures,
      c.strip_number.ensures,
      c.reach_of-reach.ensures.value,
    ) (simp append_assoc)
