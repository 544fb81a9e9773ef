use Rattle.std.proofs.Common.{append_assoc}
use Rattle.rtk_chart.specs.SvgSystems.{systems_svg_body}
use Rattle.rtk_chart.proofs.mixed_chart.put_svg_body.Goals as goal

pub returns : goal.returns
unfolding systems_svg_body
returns c =
    rw (
      c.in_ok-extend_from_slice-2.ensures.items,
      c.in_ok-put_legend.ensures,
      c.in_ok-put_ticks.ensures,
      c.in_ok-put_strips.ensures,
      c.in_ok-put_satellites.ensures,
      c.in_ok-put_gaps.ensures,
      c.in_ok-put_never_group.ensures,
      c.in_ok-extend_from_slice.ensures.items,
      c.strip_height.ensures.value,
      c.strip_height-2.ensures.value,
      c.as_slice-4.ensures.value,
      c.as_slice-3.ensures.value,
      c.as_slice-2.ensures.value,
      c.as_slice.ensures.value,
    ) (simp append_assoc)
