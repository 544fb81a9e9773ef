use Rattle.std.proofs.Common.{append_assoc}
use Rattle.rtk_chart.specs.SvgPicture.{missing_paths}
use Rattle.rtk_chart.proofs.svg_layers.put_missing.Goals as goal

pub returns : goal.returns
unfolding missing_paths
returns c =
    rw (
      c.in_ok-put_runs_layer-2.ensures,
      c.in_ok-put_runs_layer.ensures,
      c.as_slice-2.ensures.value,
      c.as_slice.ensures.value,
      c.in_ok-absent.ensures,
      c.in_ok-part.ensures,
    ) (simp append_assoc)
