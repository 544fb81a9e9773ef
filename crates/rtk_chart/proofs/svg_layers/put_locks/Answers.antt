use Rattle.std.proofs.Common.{append_assoc}
use Rattle.rtk_chart.specs.SvgPicture.{lock_paths}
use Rattle.rtk_chart.proofs.svg_layers.put_locks.Goals as goal

pub returns : goal.returns
unfolding lock_paths
returns c =
    rw (
      c.in_ok-put_marks_layer-4.ensures,
      c.in_ok-put_marks_layer-3.ensures,
      c.in_ok-put_marks_layer-2.ensures,
      c.in_ok-put_marks_layer.ensures,
      c.as_slice-4.ensures.value,
      c.as_slice-3.ensures.value,
      c.as_slice-2.ensures.value,
      c.as_slice.ensures.value,
      c.in_ok-rises.ensures,
      c.in_ok-returns.ensures,
      c.in_ok-halves.ensures,
      c.in_ok-slips.ensures,
    ) (simp append_assoc)
