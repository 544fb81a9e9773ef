use Rattle.std.proofs.Common.{append_assoc}
use Rattle.rtk_chart.specs.SvgSystems.{systems_svg}
use Rattle.rtk_chart.proofs.mixed_chart.systems_svg.Goals as goal

pub returns : goal.returns
unfolding systems_svg
returns c =
    rw (
      c.in_ok-put_svg_body.ensures,
      c.in_ok-put_counts.ensures,
      c.in_ok-put_span.ensures,
      c.in_ok-put_start.ensures,
      c.strip_height.ensures.value,
      c.strip_height-2.ensures.value,
      c.as_slice-3.ensures.value,
      c.as_slice-2.ensures.value,
      c.as_slice.ensures.value,
      c.new-text.ensures.items,
    ) (simp append_assoc)
