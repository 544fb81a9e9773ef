use Rattle.std.proofs.Common.{append_assoc}
use Rattle.rtk_chart.specs.SvgSystems.{both_strips}
use Rattle.rtk_chart.proofs.mixed_chart.put_strips.Goals as goal

pub returns : goal.returns
unfolding both_strips
returns c =
    rw (
      c.in_ok-put_strip-2.ensures,
      c.in_ok-put_strip.ensures,
      c.strip_height.ensures.value,
      c.bins_per_column-each.ensures.value,
      c.as_slice-upper.ensures.value,
      c.as_slice-lower.ensures.value,
    ) (simp append_assoc)
