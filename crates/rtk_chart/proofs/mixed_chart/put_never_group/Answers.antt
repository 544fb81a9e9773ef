use Rattle.std.proofs.Common.{append_assoc}
use Rattle.rtk_chart.specs.SvgSystems.{never_group}
use Rattle.rtk_chart.proofs.mixed_chart.put_never_group.Goals as goal

pub returns : goal.returns
unfolding never_group
returns c =
    rw (c.in_ok-extend_from_slice-2.ensures.items, c.in_ok-extend_from_slice.ensures.items, c.in_ok-put_between.ensures, c.as_slice.ensures.value) (simp append_assoc)
