use Rattle.std.proofs.Common.{append_assoc}
use Rattle.rtk_chart.specs.SvgPicture.{runs_path}
use Rattle.rtk_chart.proofs.svg_layers.put_runs_path.Goals as goal

pub returns : goal.returns
unfolding runs_path
returns c =
    rw (
      c.in_ok-extend_from_slice.ensures.items,
      c.in_ok-put_runs.ensures,
      c.in_ok-put_path_start.ensures,
    ) (simp append_assoc)
